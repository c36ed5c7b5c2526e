-- The Frames and the turns of a seat while the log grows.
use Rattle.std.proofs.Common.{◌≡◌, ℕ, Bool, true, false, cond, ◌&&◌, List, [], ◌∷◌, ◌++◌, refl, ap, ◌∙◌}
use Rattle.std.proofs.lemmas.List.{append-nil}
use Rattle.std.specs.List.{AllByRecursion, fold}
use Rattle.pf_history.specs.declared.commands.Caller.TheVariants.{App}
use Rattle.pf_history.specs.declared.commands.Entry.{Entry}
use Rattle.pf_history.specs.Commands.{is_frame}
use Rattle.pf_history.specs.Objects.{FrameState, opening_state, next_state}
use Rattle.pf_history.specs.Logs.{Log, state_after, state_of}
use Rattle.pf_history.specs.Asks.{Turn, is_at}
use Rattle.pf_history.specs.Fits.{turns_at}
use Rattle.pf_history.specs.Cuts.{Cutting, marks_after, marks_from}
use Rattle.pf_history.specs.CutLaws.{with_last}
use Rattle.pf_history.proofs.Turns.{turns_append, turns_none}
use Rattle.stage_parts.specs.Frames.{frames_from, frames_of, retired_after, last_sync}
use Rattle.stage_parts.specs.Steps.{next_frame, AddsToSeat, SeatFramesLaw}

frames_append : (seat : ℕ) (ids : List ℕ) (s : FrameState) (xs ys : Log) →
    frames_from seat ids s (xs ++ ys) ≡ frames_from seat ids s xs ++ frames_from seat (marks_from ids s xs) (state_after s xs) ys
frames_append seat ids s [] ys = refl
frames_append seat ids s (e ∷ es) ys =
    by (is_frame e.1.command && is_at seat App e) (frames_append seat (marks_after ids s e.1.command) (next_state s e.1.command) es ys)
  where
    here : Cutting
    here = record { ids = ids; found = s }

    after : Log → List Cutting
    after log = frames_from seat (marks_after ids s e.1.command) (next_state s e.1.command) log

    later : List Cutting
    later = frames_from seat (marks_from (marks_after ids s e.1.command) (next_state s e.1.command) es)
        (state_after (next_state s e.1.command) es) ys

    by : (t : Bool) → after (es ++ ys) ≡ after es ++ later →
        cond t (here ∷ after (es ++ ys)) (after (es ++ ys)) ≡ cond t (here ∷ after es) (after es) ++ later
    by true rest = ap (λ cs. here ∷ cs) rest
    by false rest = rest

last_or_none : {X : Type 0} (t : Bool) (xs : List X) (x : X) → xs ++ cond t (x ∷ []) [] ≡ with_last t xs x
last_or_none true xs x = refl
last_or_none false xs x = append-nil xs

and_false : (t : Bool) → (t && false) ≡ false
and_false true = refl
and_false false = refl

pub frames_none : (seat : ℕ) (ids : List ℕ) (s : FrameState) (log : Log) → AllByRecursion (λ e. is_at seat App e ≡ false) log →
    frames_from seat ids s log ≡ []
frames_none seat ids s [] others = refl
frames_none seat ids s (e ∷ es) others =
    ap (λ t. cond t (record { ids = ids; found = s } ∷ after) after) (ap (λ t. is_frame e.1.command && t) others.0
    ∙ and_false (is_frame e.1.command))
    ∙ frames_none seat (marks_after ids s e.1.command) (next_state s e.1.command) es others.1
  where
    after : List Cutting
    after = frames_from seat (marks_after ids s e.1.command) (next_state s e.1.command) es

fold_push : (r : ℕ) (ts : List Turn) (t : Turn) →
    fold (λ n u. retired_after n u.made) r (ts ++ t ∷ []) ≡ retired_after (fold (λ n u. retired_after n u.made) r ts) t.made
fold_push r [] t = refl
fold_push r (u ∷ ts) t = fold_push (retired_after r u.made) ts t

synced_push : (b : Bool) (ts : List Turn) (t : Turn) →
    last_sync (with_last b ts t) ≡ cond b (retired_after (last_sync ts) t.made) (last_sync ts)
synced_push true ts t = fold_push 0 ts t
synced_push false ts t = refl

pub adds_to_seat : (channels seat : ℕ) (log : Log) (e : ℕ × Entry) → AddsToSeat channels seat log e
adds_to_seat channels seat log e =
    let turn : Turn = record { found = state_of channels log; made = e.1.command } in
    let turns = turns_append (is_at seat App) (opening_state channels) log (e ∷ [])
    ∙ last_or_none (is_at seat App e) (turns_at channels seat App log) turn in
    record {
      frames =
          frames_append seat [] (opening_state channels) log (e ∷ [])
          ∙ last_or_none (is_frame e.1.command && is_at seat App e) (frames_of channels seat log) (next_frame channels log);
      turns = turns;
      synced = ap last_sync turns ∙ synced_push (is_at seat App e) (turns_at channels seat App log) turn;
    }

pub frames_stay : (channels seat : ℕ) (log more : Log) → AllByRecursion (λ e. is_at seat App e ≡ false) more →
    frames_of channels seat (log ++ more) ≡ frames_of channels seat log
frames_stay channels seat log more others =
    frames_append seat [] (opening_state channels) log more
    ∙ ap (λ (cs : List Cutting). frames_of channels seat log ++ cs)
    (frames_none seat (marks_from [] (opening_state channels) log) (state_of channels log) more others)
    ∙ append-nil (frames_of channels seat log)

pub turns_stay : (channels seat : ℕ) (log more : Log) → AllByRecursion (λ e. is_at seat App e ≡ false) more →
    turns_at channels seat App (log ++ more) ≡ turns_at channels seat App log
turns_stay channels seat log more others =
    turns_append (is_at seat App) (opening_state channels) log more
    ∙ ap (λ (ts : List Turn). turns_at channels seat App log ++ ts) (turns_none (is_at seat App) (state_of channels log) more others)
    ∙ append-nil (turns_at channels seat App log)

pub seat_frames_law : SeatFramesLaw
seat_frames_law channels seat log =
    record { adds = adds_to_seat channels seat log; frames = frames_stay channels seat log; turns = turns_stay channels seat log }
