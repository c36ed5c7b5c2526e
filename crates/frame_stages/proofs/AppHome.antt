-- The update lists that go home, as packets come back and turns are taken.
use Rattle.std.proofs.Common.{◌≡◌, ℕ, ◌+◌, ◌<◌, ◌≤◌, cond, List, [], ◌∷◌, ◌++◌, drop, length, None, refl, sym, ap, ◌∙◌, subst, arith}
use Rattle.std.proofs.lemmas.List.{drop_all, drop-append-le, length-map, length-drop, map-append}
use Rattle.seat_lock.specs.Log.{Found}
use Rattle.pf_model.specs.Copies.{UpdateList}
use Rattle.pf_history.specs.declared.commands.Caller.TheVariants.{App}
use Rattle.pf_history.specs.declared.commands.Command.{Command}
use Rattle.pf_history.specs.declared.commands.Command.TheVariants as command
use Rattle.pf_history.specs.Commands.{caller_of}
use Rattle.pf_history.specs.Logs.{Log}
use Rattle.pf_history.specs.Laws.{own_entry}
use Rattle.pf_history.specs.Fits.{turns_at}
use Rattle.pf_scene.specs.Scenes.{Shared}
use Rattle.stage_parts.specs.declared.packets.Packet.{Packet}
use Rattle.stage_parts.specs.declared.packets.Packet.TheVariants.{Frame, End}
use Rattle.stage_parts.specs.Loads.{LoadState}
use Rattle.stage_parts.specs.Packets.{loads_in, updates_in}
use Rattle.stage_parts.specs.Frames.{retired_after, last_sync}
use Rattle.stage_parts.specs.States.{Setup}
use Rattle.stage_parts.specs.Parts.{AppKeeps, cut_short}
use Rattle.stage_parts.proofs.Numbers.{not_own}
use Rattle.stage_parts.proofs.Sent.{loads_append}
use Rattle.stage_parts.proofs.SeatSteps.{adds_to_seat, turns_stay}
use Rattle.frame_stages.specs.AppWorks.{AppWork, IsGiven}
use Rattle.frame_stages.specs.Copies.{HasHome}
use Rattle.frame_stages.proofs.AppLogs.{own_is_at}

-- the same while the desk finds others' entries
pub home_found : (g : Setup) (k : ℕ) (w : AppWork) (seen log : Log) (taken : List Packet) → Found k seen log →
    HasHome g k w seen taken → HasHome g k w log taken
home_found g k w seen log taken (rest, is, none) has =
    let same : last_sync (turns_at g.channels k App log) ≡ last_sync (turns_at g.channels k App seen) =
    ap (λ (l : Log). last_sync (turns_at g.channels k App l)) is ∙ ap last_sync (turns_stay g.channels k seen rest (not_own k App rest none)) in
    record {
      lists = has.lists ∙ ap (λ n. updates_in (loads_in (drop n taken))) (sym same);
      few = subst (λ n. w.state.frames ≤ n + g.ahead) (sym same) has.few;
    }

-- the same of a stage with the same lists and as many frames
pub home_same : (g : Setup) (k : ℕ) (w w' : AppWork) (seen : Log) (taken : List Packet) → w'.home ≡ w.home → w'.state.frames ≡ w.state.frames →
    HasHome g k w seen taken → HasHome g k w' seen taken
home_same g k w w' seen taken same many has =
    record { lists = same ∙ has.lists; few = subst (λ n. n ≤ last_sync (turns_at g.channels k App seen) + g.ahead) (sym many) has.few }

-- the number of the last Sync after a turn of its own
last_after : (g : Setup) (k : ℕ) (found : Shared) (c : Command) → caller_of c ≡ App →
    last_sync (turns_at g.channels k App (found.log ++ own_entry found.channels found.log k c ∷ []))
    ≡ retired_after (last_sync (turns_at g.channels k App found.log)) c
last_after g k found c app =
    let last = last_sync (turns_at g.channels k App found.log) in
    (adds_to_seat g.channels k found.log (own_entry found.channels found.log k c)).synced
    ∙ ap (λ t. cond t (retired_after last c) last) (own_is_at found.channels found.log k c app)

-- a turn that is no Sync leaves the lists
pub home_turn : (g : Setup) (k : ℕ) (found : Shared) (c : Command) (w w' : AppWork) (taken : List Packet) → caller_of c ≡ App →
    ((r : ℕ) → retired_after r c ≡ r) → w'.home ≡ w.home → w'.state.frames ≤ last_sync (turns_at g.channels k App found.log) + g.ahead →
    HasHome g k w found.log taken → HasHome g k w' (found.log ++ own_entry found.channels found.log k c ∷ []) taken
home_turn g k found c w w' taken app other same few has =
    let last = last_after g k found c app ∙ other (last_sync (turns_at g.channels k App found.log)) in
    record {
      lists = same ∙ has.lists ∙ ap (λ n. updates_in (loads_in (drop n taken))) (sym last);
      few = subst (λ n. w'.state.frames ≤ n + g.ahead) (sym last) few;
    }

-- a Sync leaves none, where no fault cut a picture short
pub home_synced : (g : Setup) (k : ℕ) (found : Shared) (w w' : AppWork) (taken sent : List Packet) (stream : List ℕ) → w.state.fault ≡ None →
    w'.home ≡ [] → w'.state.frames ≤ w.state.written + g.ahead → AppKeeps g k w.state found.log taken sent stream →
    HasHome g k w' (found.log ++ own_entry found.channels found.log k (command.Sync w.state.written) ∷ []) taken
home_synced g k found w w' taken sent stream whole none few keeps =
    let last = last_after g k found (command.Sync w.state.written) refl in
    let all = keeps.streams.all in
    let short : cut_short w.state.fault ≡ 0 = ap cut_short whole in
    record {
      lists = none
          ∙ sym (ap (λ n. updates_in (loads_in (drop n taken))) last
          ∙ ap (λ (ps : List Packet). updates_in (loads_in ps)) (drop_all w.state.written taken (omega (arith, all, short))));
      few = subst (λ n. w'.state.frames ≤ n + g.ahead) (sym last) few;
    }

loads_few : (ps : List Packet) → length (loads_in ps) ≤ length ps
loads_few [] = omega arith
loads_few (Frame l ∷ ps) = let rest = loads_few ps in omega (arith, rest)
loads_few (End ∷ ps) = let rest = loads_few ps in omega (arith, rest)

updates_push : (ps : List Packet) (p : Packet) → updates_in (loads_in (ps ++ p ∷ [])) ≡ updates_in (loads_in ps) ++ updates_in (loads_in (p ∷ []))
updates_push ps p =
    ap updates_in (loads_append ps (p ∷ []))
    ∙ map-append (λ (l : LoadState). l.cut.updates) (loads_in ps) (loads_in (p ∷ []))

-- a packet comes back while a frame is away: its list goes home too
pub home_back : (g : Setup) (k : ℕ) (w w' : AppWork) (seen : Log) (taken sent : List Packet) (stream : List ℕ) (p : Packet) → IsGiven g w →
    AppKeeps g k w.state seen taken sent stream → w.state.written < w.state.frames → w.state.fault ≡ None → w'.state.frames ≡ w.state.frames →
    (length w.home < w.ahead → w'.home ≡ w.home ++ updates_in (loads_in (p ∷ []))) →
    HasHome g k w seen taken → HasHome g k w' seen (taken ++ p ∷ [])
home_back g k w w' seen taken sent stream p given keeps away whole same kept has =
    let n = last_sync (turns_at g.channels k App seen) in
    let all = keeps.streams.all in
    let back = keeps.streams.retired in
    let few = has.few in
    let ahead = given.ahead in
    let short : cut_short w.state.fault ≡ 0 = ap cut_short whole in
    let within : n ≤ length taken = omega (arith, all, short, back) in
    let many : length w.home ≡ length (loads_in (drop n taken)) =
    ap length has.lists ∙ length-map (loads_in (drop n taken)) (λ (l : LoadState). l.cut.updates) in
    let loads = loads_few (drop n taken) in
    let long = length-drop n taken in
    let room : length w.home < w.ahead = omega (arith, many, loads, long, few, away, all, short, ahead, within) in
    record {
      lists =
          kept room ∙ ap (λ (ls : List UpdateList). ls ++ updates_in (loads_in (p ∷ []))) has.lists
          ∙ sym (ap (λ (ps : List Packet). updates_in (loads_in ps)) (drop-append-le n taken (p ∷ []) within)
          ∙ updates_push (drop n taken) p);
      few = subst (λ m. m ≤ n + g.ahead) (sym same) few;
    }
