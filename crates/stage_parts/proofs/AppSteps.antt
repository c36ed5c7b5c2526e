-- What the application keeps goes on.
use Rattle.std.proofs.Common.{◌≡◌, ℕ, suc, ◌+◌, ◌<◌, ◌≤◌, Bool, true, false, cond, ◌&&◌, ◌||◌, List, [], ◌∷◌, ◌++◌, map, take, length, Option, Some, None, refl, sym, ap, ◌∙◌, subst, arith}
use Rattle.std.proofs.lemmas.List.{append-nil, append_assoc, length-append, length-map, map-append, length_push, take_all, take-append-le, get_or_push}
use Rattle.std.specs.Prelude.{slice_index_or}
use Rattle.std.specs.List.{AllByRecursion, concat}
use Rattle.update_lists.specs.declared.cuts.Cut.{Cut}
use Rattle.draw_list.specs.declared.stats.Stats.{Stats}
use Rattle.pf_history.specs.declared.commands.Caller.TheVariants.{App}
use Rattle.pf_history.specs.declared.commands.Command.TheVariants as command
use Rattle.pf_history.specs.declared.commands.Entry.{Entry}
use Rattle.pf_history.specs.Commands.{is_frame}
use Rattle.pf_history.specs.Logs.{Log, state_of}
use Rattle.pf_history.specs.Asks.{Ask, Turn, is_at, asked_app, Follows}
use Rattle.pf_history.specs.Fits.{turns_at}
use Rattle.pf_history.specs.Cuts.{Cutting}
use Rattle.pf_history.specs.CutLaws.{with_last}
use Rattle.pf_history.proofs.Fitting.{follows_more}
use Rattle.stage_parts.specs.declared.packets.Packet.{Packet}
use Rattle.stage_parts.specs.declared.packets.Packet.TheVariants.{Frame, End}
use Rattle.stage_parts.specs.Loads.{LoadState, Each, IsReady}
use Rattle.stage_parts.specs.Packets.{is_end, loads_in, bytes_in}
use Rattle.stage_parts.specs.Frames.{frames_of, cut_of_frame, retired_after, last_sync}
use Rattle.stage_parts.specs.Pictures.{streamed}
use Rattle.stage_parts.specs.States.{Setup, AppState, still_asked}
use Rattle.stage_parts.specs.Parts.{sent_and_held, end_once, cut_short, AppPart, LoadPart, AppKeeps}
use Rattle.stage_parts.specs.Steps.{next_frame}
use Rattle.stage_parts.specs.AppSteps.{IsOwnTurn, AppLaw}
use Rattle.stage_parts.proofs.Sizes.{each_push}
use Rattle.stage_parts.proofs.Sent.{loads_append}
use Rattle.stage_parts.proofs.Pushes.{loads_push, loads_end, has_end_push, passed_same, passed_bare}
use Rattle.stage_parts.proofs.SeatSteps.{adds_to_seat, frames_stay, turns_stay}

-- The seat has the same Frames and the same last Sync in both logs.
record IsSeenSame (g : Setup) (seat : ℕ) (log later : Log) : Type 0 where
  pub frames : frames_of g.channels seat later ≡ frames_of g.channels seat log
  pub last : last_sync (turns_at g.channels seat App later) ≡ last_sync (turns_at g.channels seat App log)

-- the part over a log in which the seat has the same Frames, a number of lines further, where a Frame may be begun behind
-- a Sync
part_on : (g : Setup) (seat : ℕ) (a : AppState) (log later : Log) (sent : List Packet) (at need : ℕ) (synced : Bool) →
    AppPart g seat a log sent → frames_of g.channels seat later ≡ frames_of g.channels seat log → a.at ≤ at →
    (synced ≡ true → a.frames < last_sync (turns_at g.channels seat App later) + g.ahead) →
    AppPart g seat (record a { at = at; need = need; synced = synced }) later sent
part_on g seat a log later sent at need synced part same further fresh =
    record {
      cuts = part.cuts ∙ ap (map cut_of_frame) (sym same);
      ends = part.ends ∙ ap (λ (fs : List Cutting). map (λ _. false) fs ++ end_once a.closed) (sym same);
      ready = part.ready;
      ended = part.ended;
      frames = part.frames ∙ ap length (sym same);
      few = omega (arith, part.few, further);
      fresh = fresh;
      late = part.late;
    }

fresh_on : (g : Setup) (seat : ℕ) (a : AppState) (log later : Log) (sent : List Packet) → AppPart g seat a log sent →
    IsSeenSame g seat log later →
    a.synced ≡ true → a.frames < last_sync (turns_at g.channels seat App later) + g.ahead
fresh_on g seat a log later sent part same synced = subst (λ (r : ℕ). a.frames < r + g.ahead) (sym same.last) (part.fresh synced)

stays : (g : Setup) (seat : ℕ) (a : AppState) (log : Log) (taken sent : List Packet) (stream : List ℕ) →
    AppKeeps g seat a log taken sent stream →
    (more : Log) → AllByRecursion (λ e. is_at seat App e ≡ false) more → AppKeeps g seat a (log ++ more) taken sent stream
stays g seat a log taken sent stream keeps more others =
    let turns = turns_stay g.channels seat log more others in
    let same : IsSeenSame g seat log (log ++ more) =
    record { frames = frames_stay g.channels seat log more others; last = ap last_sync turns } in
    record {
      follows = subst (λ (ts : List Turn). Follows g.ahead g.merges (asked_app g.lines) ts (still_asked g a)) (sym turns) keeps.follows;
      part = part_on g seat a log (log ++ more) sent a.at a.need a.synced keeps.part same.frames (omega arith)
          (fresh_on g seat a log (log ++ more) sent keeps.part same);
      streams = record {
        bytes = keeps.streams.bytes;
        all = keeps.streams.all;
        retired = subst (λ (r : ℕ). r ≤ a.written) (sym same.last) keeps.streams.retired;
        begun = keeps.streams.begun;
        in_flight = keeps.streams.in_flight;
        numbers = keeps.streams.numbers;
      };
      loads = keeps.loads;
    }

sends : (g : Setup) (seat : ℕ) (a : AppState) (log : Log) (taken sent : List Packet) (stream : List ℕ) →
    AppKeeps g seat a log taken sent stream →
    (p : Packet) → a.held ≡ Some p →
    AppKeeps g seat (record a { ended = a.ended || is_end p; held = None }) log taken (sent ++ p ∷ []) stream
sends g seat a log taken sent stream keeps p held =
    let same = passed_same sent p a.held held in
    let part = keeps.part in
    record {
      follows = keeps.follows;
      part = record {
        cuts = ap (λ (ps : List Packet). map (λ (l : LoadState). l.cut) (loads_in ps)) same ∙ part.cuts;
        ends = ap (map is_end) same ∙ part.ends;
        ready = subst (λ (ps : List Packet). Each (IsReady g.lens) (loads_in ps)) (sym same) part.ready;
        ended = ap (λ (t : Bool). t || is_end p) part.ended ∙ sym (has_end_push sent p);
        frames = part.frames;
        few = part.few;
        fresh = part.fresh;
        late = part.late;
      };
      streams = record {
        bytes = keeps.streams.bytes;
        all = keeps.streams.all;
        retired = keeps.streams.retired;
        begun = keeps.streams.begun;
        in_flight = keeps.streams.in_flight;
        numbers = keeps.streams.numbers;
      };
      loads = record { all = keeps.loads.all };
    }

waits : (g : Setup) (seat : ℕ) (a : AppState) (log : Log) (taken sent : List Packet) (stream : List ℕ) →
    AppKeeps g seat a log taken sent stream →
    (at need : ℕ) → a.at ≤ at → still_asked g (record a { at = at; need = need }) ≡ still_asked g a →
    AppKeeps g seat (record a { at = at; need = need }) log taken sent stream
waits g seat a log taken sent stream keeps at need further asks =
    record {
      follows =
          subst (λ (left : List Ask). Follows g.ahead g.merges (asked_app g.lines) (turns_at g.channels seat App log) left)
          (sym asks) keeps.follows;
      part = part_on g seat a log log sent at need a.synced keeps.part refl further keeps.part.fresh;
      streams = record {
        bytes = keeps.streams.bytes;
        all = keeps.streams.all;
        retired = keeps.streams.retired;
        begun = keeps.streams.begun;
        in_flight = keeps.streams.in_flight;
        numbers = keeps.streams.numbers;
      };
      loads = record { all = keeps.loads.all };
    }

-- What an own turn leaves.
record OwnTurn (g : Setup) (seat : ℕ) (log : Log) (e : ℕ × Entry) (after : List Ask) : Type 0 where
  pub follows : Follows g.ahead g.merges (asked_app g.lines) (turns_at g.channels seat App (log ++ e ∷ [])) after
  pub last : last_sync (turns_at g.channels seat App (log ++ e ∷ [])) ≡ retired_after
      (last_sync (turns_at g.channels seat App log)) e.1.command

own_turn : (g : Setup) (seat : ℕ) (log : Log) (e : ℕ × Entry) (before after : List Ask) →
    Follows g.ahead g.merges (asked_app g.lines) (turns_at g.channels seat App log) before → IsOwnTurn g seat log e before after →
    OwnTurn g seat log e after
own_turn g seat log e before after follows is =
    let adds = adds_to_seat g.channels seat log e in
    let turns = turns_at g.channels seat App log in
    let turn : Turn = record { found = state_of g.channels log; made = e.1.command } in
    let grown : turns_at g.channels seat App (log ++ e ∷ []) ≡ turns ++ turn ∷ [] = adds.turns ∙ ap (λ t. with_last t turns turn) is.own in
    record {
      follows =
          subst (λ (ts : List Turn). Follows g.ahead g.merges (asked_app g.lines) ts after) (sym grown)
          (follows_more g.ahead g.merges (asked_app g.lines) turns is.ask after turn
          (subst (λ (left : List Ask). Follows g.ahead g.merges (asked_app g.lines) turns left) is.first follows) is.meets is.waited);
      last = adds.synced ∙ ap (λ t. cond t (retired_after (last_sync turns) e.1.command) (last_sync turns)) is.own;
    }

-- an own turn that is no Frame adds none
no_frame : (g : Setup) (seat : ℕ) (log : Log) (e : ℕ × Entry) → is_frame e.1.command ≡ false →
    frames_of g.channels seat (log ++ e ∷ []) ≡ frames_of g.channels seat log
no_frame g seat log e other =
    (adds_to_seat g.channels seat log e).frames
    ∙ ap (λ t. with_last (t && is_at seat App e) (frames_of g.channels seat log) (next_frame g.channels log)) other

edits : (g : Setup) (seat : ℕ) (a : AppState) (log : Log) (taken sent : List Packet) (stream : List ℕ) →
    AppKeeps g seat a log taken sent stream →
    (e : ℕ × Entry) (at : ℕ) → a.at ≤ at → is_frame e.1.command ≡ false → ((r : ℕ) → retired_after r e.1.command ≡ r) →
    IsOwnTurn g seat log e (still_asked g a) (still_asked g (record a { at = at })) →
    AppKeeps g seat (record a { at = at }) (log ++ e ∷ []) taken sent stream
edits g seat a log taken sent stream keeps e at further other none is =
    let turn = own_turn g seat log e (still_asked g a) (still_asked g (record a { at = at })) keeps.follows is in
    let last = turn.last ∙ none (last_sync (turns_at g.channels seat App log)) in
    let same : IsSeenSame g seat log (log ++ e ∷ []) = record { frames = no_frame g seat log e other; last = last } in
    record {
      follows = turn.follows;
      part = part_on g seat a log (log ++ e ∷ []) sent at a.need a.synced keeps.part same.frames further
          (fresh_on g seat a log (log ++ e ∷ []) sent keeps.part same);
      streams = record {
        bytes = keeps.streams.bytes;
        all = keeps.streams.all;
        retired = subst (λ (r : ℕ). r ≤ a.written) (sym last) keeps.streams.retired;
        begun = keeps.streams.begun;
        in_flight = keeps.streams.in_flight;
        numbers = keeps.streams.numbers;
      };
      loads = record { all = keeps.loads.all };
    }

syncs : (g : Setup) (seat : ℕ) (a : AppState) (log : Log) (taken sent : List Packet) (stream : List ℕ) →
    AppKeeps g seat a log taken sent stream →
    (e : ℕ × Entry) (at : ℕ) → a.at ≤ at → e.1.command ≡ command.Sync a.written → a.frames < a.written + g.ahead →
    IsOwnTurn g seat log e (still_asked g a) (still_asked g (record a { at = at; synced = true })) →
    AppKeeps g seat (record a { at = at; synced = true }) (log ++ e ∷ []) taken sent stream
syncs g seat a log taken sent stream keeps e at further is_sync room is =
    let turn = own_turn g seat log e (still_asked g a) (still_asked g (record a { at = at; synced = true })) keeps.follows is in
    let last = turn.last ∙ ap (retired_after (last_sync (turns_at g.channels seat App log))) is_sync in
    record {
      follows = turn.follows;
      part =
          part_on g seat a log (log ++ e ∷ []) sent at a.need true keeps.part (no_frame g seat log e (ap is_frame is_sync)) further
          (λ synced. subst (λ (r : ℕ). a.frames < r + g.ahead) (sym last) room);
      streams = record {
        bytes = keeps.streams.bytes;
        all = keeps.streams.all;
        retired = omega (arith, last);
        begun = keeps.streams.begun;
        in_flight = keeps.streams.in_flight;
        numbers = keeps.streams.numbers;
      };
      loads = record { all = keeps.loads.all };
    }

begins : (g : Setup) (seat : ℕ) (a : AppState) (log : Log) (taken sent : List Packet) (stream : List ℕ) →
    AppKeeps g seat a log taken sent stream →
    (e : ℕ × Entry) (at : ℕ) (l : LoadState) (spare : List LoadState) → suc a.at ≤ at → e.1.command ≡ command.Frame →
    a.held ≡ None → a.closed ≡ false → a.synced ≡ true → length spare + 1 ≡ length a.spare →
    l.cut ≡ cut_of_frame (next_frame g.channels log) → IsReady g.lens l →
    IsOwnTurn g seat log e (still_asked g a)
    (still_asked g (record a { at = at; synced = false; frames = a.frames + 1; held = Some (Frame l); spare = spare })) →
    AppKeeps g seat (record a { at = at; synced = false; frames = a.frames + 1; held = Some (Frame l); spare = spare })
    (log ++ e ∷ []) taken sent stream
begins g seat a log taken sent stream keeps e at l spare further is_begun bare closed synced fewer cut ready is =
    let next = next_frame g.channels log in
    let frames = frames_of g.channels seat log in
    let part = keeps.part in
    let turn = own_turn g seat log e (still_asked g a)
    (still_asked g (record a { at = at; synced = false; frames = a.frames + 1; held = Some (Frame l); spare = spare })) keeps.follows is in
    let last = turn.last ∙ ap (retired_after (last_sync (turns_at g.channels seat App log))) is_begun in
    let grown : frames_of g.channels seat (log ++ e ∷ []) ≡ frames ++ next ∷ [] =
    (adds_to_seat g.channels seat log e).frames
    ∙ ap (λ t. with_last (t && is_at seat App e) frames next) (ap is_frame is_begun) ∙ ap (λ t. with_last t frames next) is.own in
    let unheld = passed_bare sent a.held bare in
    let cuts : map (λ (x : LoadState). x.cut) (loads_in sent) ≡ map cut_of_frame frames =
    ap (λ (ps : List Packet). map (λ (x : LoadState). x.cut) (loads_in ps)) (sym unheld) ∙ part.cuts in
    let ends : map is_end sent ≡ map (λ _. false) frames =
    ap (map is_end) (sym unheld) ∙ part.ends ∙ ap (λ t. map (λ _. false) frames ++ end_once t) closed
    ∙ append-nil (map (λ _. false) frames) in
    let fresh = part.fresh synced in
    record {
      follows = turn.follows;
      part = record {
        cuts =
            ap (map (λ (x : LoadState). x.cut)) (loads_push sent l) ∙ map-append (λ (x : LoadState). x.cut) (loads_in sent) (l ∷ [])
            ∙ ap (λ (xs : List Cut). xs ++ l.cut ∷ []) cuts ∙ ap (λ (x : Cut). map cut_of_frame frames ++ x ∷ []) cut
            ∙ sym (ap (map cut_of_frame) grown ∙ map-append cut_of_frame frames (next ∷ []));
        ends =
            map-append is_end sent (Frame l ∷ []) ∙ ap (λ (xs : List Bool). xs ++ false ∷ []) ends
            ∙ sym (ap (λ t. map (λ _. false) (frames_of g.channels seat (log ++ e ∷ [])) ++ end_once t) closed
            ∙ append-nil (map (λ _. false) (frames_of g.channels seat (log ++ e ∷ [])))
            ∙ ap (map (λ (_ : Cutting). false)) grown ∙ map-append (λ (_ : Cutting). false) frames (next ∷ []));
        ready =
            subst (λ (ls : List LoadState). Each (IsReady g.lens) ls) (sym (loads_push sent l))
            (each_push (IsReady g.lens) (loads_in sent) l
            (subst (λ (ps : List Packet). Each (IsReady g.lens) (loads_in ps)) unheld part.ready) ready);
        ended = part.ended;
        frames = ap (λ n. n + 1) part.frames ∙ sym (ap length grown ∙ length_push frames next);
        few = omega (arith, part.few, further);
        fresh = λ none. absurd (cc);
        late = λ is_closed. absurd (let same : false ≡ true = sym closed ∙ is_closed in cc);
      };
      streams = record {
        bytes = keeps.streams.bytes;
        all = keeps.streams.all;
        retired = subst (λ (r : ℕ). r ≤ a.written) (sym last) keeps.streams.retired;
        begun = omega (arith, keeps.streams.begun);
        in_flight = omega (arith, fresh, keeps.streams.retired);
        numbers = keeps.streams.numbers;
      };
      loads = record { all = omega (arith, keeps.loads.all, fewer) };
    }

closes : (g : Setup) (seat : ℕ) (a : AppState) (log : Log) (taken sent : List Packet) (stream : List ℕ) →
    AppKeeps g seat a log taken sent stream →
    (e : ℕ × Entry) → e.1.command ≡ command.Sync a.written → a.held ≡ None → a.closed ≡ false → a.written ≡ a.frames → 0 < g.ahead →
    IsOwnTurn g seat log e (still_asked g a) [] →
    AppKeeps g seat (record a { closed = true; held = Some End }) (log ++ e ∷ []) taken sent stream
closes g seat a log taken sent stream keeps e is_sync bare closed all some is =
    let part = keeps.part in
    let turn = own_turn g seat log e (still_asked g a) [] keeps.follows is in
    let last = turn.last ∙ ap (retired_after (last_sync (turns_at g.channels seat App log))) is_sync in
    let same = no_frame g seat log e (ap is_frame is_sync) in
    let unheld = passed_bare sent a.held bare in
    let same_loads : loads_in (sent ++ End ∷ []) ≡ loads_in (sent_and_held sent a.held) = loads_end sent ∙ ap loads_in (sym unheld) in
    let frames = frames_of g.channels seat log in
    record {
      follows = turn.follows;
      part = record {
        cuts = ap (map (λ (x : LoadState). x.cut)) same_loads ∙ part.cuts ∙ ap (map cut_of_frame) (sym same);
        ends =
            map-append is_end sent (End ∷ [])
            ∙ ap (λ (xs : List Bool). xs ++ true ∷ [])
            (ap (map is_end) (sym unheld) ∙ part.ends ∙ ap (λ t. map (λ _. false) frames ++ end_once t) closed
            ∙ append-nil (map (λ _. false) frames))
            ∙ ap (λ (fs : List Cutting). map (λ _. false) fs ++ true ∷ []) (sym same);
        ready = subst (λ (ls : List LoadState). Each (IsReady g.lens) ls) (sym same_loads) part.ready;
        ended = part.ended;
        frames = part.frames ∙ ap length (sym same);
        few = part.few;
        fresh = λ synced. omega (arith, last, all, some);
        late = λ is_closed. all;
      };
      streams = record {
        bytes = keeps.streams.bytes;
        all = keeps.streams.all;
        retired = omega (arith, last);
        begun = keeps.streams.begun;
        in_flight = keeps.streams.in_flight;
        numbers = keeps.streams.numbers;
      };
      loads = record { all = keeps.loads.all };
    }

-- The stream with one more picture

concat_push : (shown : List (List ℕ)) (x : List ℕ) → concat (shown ++ x ∷ []) ≡ concat shown ++ x
concat_push [] x = append-nil x
concat_push (y ∷ shown) x = ap (λ zs. y ++ zs) (concat_push shown x) ∙ sym (append_assoc y (concat shown) x)

streamed_all : (b : ℕ) (shown : List (List ℕ)) → b ≡ length shown → streamed b None shown ≡ concat shown
streamed_all b shown all = append-nil (concat (take b shown)) ∙ ap concat (take_all b shown (omega (arith, all)))

streamed_next : (b : ℕ) (shown : List (List ℕ)) (x : List ℕ) → b ≡ length shown →
    streamed (b + 1) None (shown ++ x ∷ []) ≡ streamed b None shown ++ x
streamed_next b shown x all =
    let long = length_push shown x in
    streamed_all (b + 1) (shown ++ x ∷ []) (omega (arith, all, long)) ∙ concat_push shown x
    ∙ ap (λ zs. zs ++ x) (sym (streamed_all b shown all))

streamed_cut : (b n : ℕ) (shown : List (List ℕ)) (x : List ℕ) → b ≡ length shown →
    streamed b (Some n) (shown ++ x ∷ []) ≡ streamed b None shown ++ take n x
streamed_cut b n shown x all =
    ap (λ (ys : List (List ℕ)). concat ys ++ take n (slice_index_or (shown ++ x ∷ []) b []))
    (take-append-le b shown (x ∷ []) (omega (arith, all)))
    ∙ ap (λ (y : List ℕ). concat (take b shown) ++ take n y) (get_or_push shown x [] b (sym all))
    ∙ ap (λ zs. zs ++ take n x) (sym (append-nil (concat (take b shown))))

-- a load comes back with a packet
load_back : (g : Setup) (a : AppState) (taken : List Packet) (p : Packet) (spare : List LoadState) → LoadPart g a taken →
    length spare ≡ length a.spare + length (loads_in (p ∷ [])) → length spare + a.frames ≡ g.ahead + length (loads_in (taken ++ p ∷ []))
load_back g a taken p spare part more =
    let long : length (loads_in (taken ++ p ∷ [])) ≡ length (loads_in taken) + length (loads_in (p ∷ [])) =
    ap length (loads_append taken (p ∷ [])) ∙ length-append (loads_in taken) (loads_in (p ∷ [])) in
    omega (arith, part.all, more, long)

-- and its numbers
numbers_back : (a : AppState) (taken : List Packet) (p : Packet) (stats : List Stats) → a.stats ≡ map (λ l. l.stats) (loads_in taken) →
    stats ≡ a.stats ++ map (λ l. l.stats) (loads_in (p ∷ [])) → stats ≡ map (λ l. l.stats) (loads_in (taken ++ p ∷ []))
numbers_back a taken p stats before more =
    more ∙ ap (λ (ss : List Stats). ss ++ map (λ (l : LoadState). l.stats) (loads_in (p ∷ []))) before
    ∙ sym (ap (map (λ (l : LoadState). l.stats)) (loads_append taken (p ∷ []))
    ∙ map-append (λ (l : LoadState). l.stats) (loads_in taken) (loads_in (p ∷ [])))

writes : (g : Setup) (seat : ℕ) (a : AppState) (log : Log) (taken sent : List Packet) (stream : List ℕ) →
    AppKeeps g seat a log taken sent stream →
    (p : Packet) (spare : List LoadState) (stats : List Stats) → a.fault ≡ None → length taken < a.frames →
    length spare ≡ length a.spare + length (loads_in (p ∷ [])) → stats ≡ a.stats ++ map (λ l. l.stats) (loads_in (p ∷ [])) →
    AppKeeps g seat (record a { written = a.written + 1; spare = spare; stats = stats }) log (taken ++ p ∷ []) sent (stream ++ bytes_in p)
writes g seat a log taken sent stream keeps p spare stats whole away more told =
    let part = keeps.part in
    let short : cut_short a.fault ≡ 0 = ap cut_short whole in
    let long = length_push taken p in
    let shown = map bytes_in taken in
    let many : a.written ≡ length shown = omega (arith, keeps.streams.all, short, length-map taken bytes_in) in
    record {
      follows = keeps.follows;
      part = record {
        cuts = part.cuts;
        ends = part.ends;
        ready = part.ready;
        ended = part.ended;
        frames = part.frames;
        few = part.few;
        fresh = part.fresh;
        late = λ closed. absurd (let all = part.late closed in omega (arith, all, away, keeps.streams.all, short));
      };
      streams = record {
        bytes =
            ap (λ (zs : List ℕ). zs ++ bytes_in p) (keeps.streams.bytes ∙ ap (λ (f : Option ℕ). streamed a.written f shown) whole)
            ∙ sym (ap (λ (f : Option ℕ). streamed (a.written + 1) f (map bytes_in (taken ++ p ∷ []))) whole
            ∙ ap (streamed (a.written + 1) None) (map-append bytes_in taken (p ∷ []))
            ∙ streamed_next a.written shown (bytes_in p) many);
        all = omega (arith, keeps.streams.all, long);
        retired = omega (arith, keeps.streams.retired);
        begun = omega (arith, away, long);
        in_flight = omega (arith, keeps.streams.in_flight);
        numbers = numbers_back a taken p stats keeps.streams.numbers told;
      };
      loads = record { all = load_back g a taken p spare keeps.loads more };
    }

fails : (g : Setup) (seat : ℕ) (a : AppState) (log : Log) (taken sent : List Packet) (stream : List ℕ) →
    AppKeeps g seat a log taken sent stream →
    (p : Packet) (n : ℕ) (spare : List LoadState) (stats : List Stats) → a.fault ≡ None → length taken < a.frames →
    length spare ≡ length a.spare + length (loads_in (p ∷ [])) → stats ≡ a.stats ++ map (λ l. l.stats) (loads_in (p ∷ [])) →
    AppKeeps g seat (record a { fault = Some n; spare = spare; stats = stats }) log (taken ++ p ∷ []) sent (stream ++ take n (bytes_in p))
fails g seat a log taken sent stream keeps p n spare stats whole away more told =
    let part = keeps.part in
    let short : cut_short a.fault ≡ 0 = ap cut_short whole in
    let long = length_push taken p in
    let shown = map bytes_in taken in
    let many : a.written ≡ length shown = omega (arith, keeps.streams.all, short, length-map taken bytes_in) in
    record {
      follows = keeps.follows;
      part = record {
        cuts = part.cuts;
        ends = part.ends;
        ready = part.ready;
        ended = part.ended;
        frames = part.frames;
        few = part.few;
        fresh = part.fresh;
        late = part.late;
      };
      streams = record {
        bytes =
            ap (λ (zs : List ℕ). zs ++ take n (bytes_in p)) (keeps.streams.bytes ∙ ap (λ (f : Option ℕ). streamed a.written f shown) whole)
            ∙ sym (ap (streamed a.written (Some n)) (map-append bytes_in taken (p ∷ []))
            ∙ streamed_cut a.written n shown (bytes_in p) many);
        all = omega (arith, keeps.streams.all, long, short);
        retired = keeps.streams.retired;
        begun = omega (arith, away, long);
        in_flight = keeps.streams.in_flight;
        numbers = numbers_back a taken p stats keeps.streams.numbers told;
      };
      loads = record { all = load_back g a taken p spare keeps.loads more };
    }

pub app_law : AppLaw
app_law g seat a log taken sent stream keeps =
    record {
      stays = stays g seat a log taken sent stream keeps;
      sends = sends g seat a log taken sent stream keeps;
      waits = waits g seat a log taken sent stream keeps;
      edits = edits g seat a log taken sent stream keeps;
      syncs = syncs g seat a log taken sent stream keeps;
      begins = begins g seat a log taken sent stream keeps;
      closes = closes g seat a log taken sent stream keeps;
      writes = writes g seat a log taken sent stream keeps;
      fails = fails g seat a log taken sent stream keeps;
    }
