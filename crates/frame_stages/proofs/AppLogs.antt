-- Logs as the application's desk finds them.
use Rattle.std.proofs.Common.{◌≡◌, ℕ, ◌+◌, ◌≤◌, Bool, true, false, cond, ◌&&◌, ◌==◌, List, [], ◌∷◌, ◌++◌, length, refl, sym, ap, ◌∙◌, subst, arith}
use Rattle.std.proofs.lemmas.List.{length_push}
use Rattle.std.proofs.lemmas.Bool.Decides.{nat_tests}
use Rattle.std.specs.List.{AllByRecursion}
use Rattle.seat_lock.specs.Log.{of, Found}
use Rattle.seat_lock.proofs.Logs.{of-append}
use Rattle.pf_history.specs.declared.commands.Caller.TheVariants.{App}
use Rattle.pf_history.specs.declared.commands.Command.{Command}
use Rattle.pf_history.specs.declared.commands.Entry.{Entry}
use Rattle.pf_history.specs.Commands.{caller_of, is_frame}
use Rattle.pf_history.specs.Objects.{FrameState, opening_state, next_state}
use Rattle.pf_history.specs.Logs.{Log, state_of, how_many, is_caller}
use Rattle.pf_history.specs.Laws.{own_entry}
use Rattle.pf_history.specs.Asks.{is_at}
use Rattle.pf_history.specs.Cuts.{marks_after, Cutting}
use Rattle.pf_history.proofs.Counting.{one, how_many_step, counts_law, never_fall_law}
use Rattle.stage_parts.specs.Frames.{frames_from, frames_of, AreOwnFrames}
use Rattle.stage_parts.specs.States.{Setup, AppState}
use Rattle.stage_parts.specs.Parts.{AppKeeps}
use Rattle.stage_parts.specs.declared.packets.Packet.{Packet}
use Rattle.stage_parts.proofs.AppSteps.{app_law}
use Rattle.stage_parts.proofs.Numbers.{not_own}
use Rattle.frame_stages.specs.AppWorks.{merges_in}

-- what APP keeps, it keeps as its desk finds a log
pub keeps_found : (g : Setup) (k : ℕ) (a : AppState) (seen log : Log) (taken sent : List Packet) (stream : List ℕ) → Found k seen log →
    AppKeeps g k a seen taken sent stream → AppKeeps g k a log taken sent stream
keeps_found g k a seen log taken sent stream (rest, is, none) keeps =
    subst (λ (l : Log). AppKeeps g k a l taken sent stream) (sym is)
    ((app_law g k a seen taken sent stream keeps).stays rest (not_own k App rest none))

counted : (k : ℕ) (ids : List ℕ) (s : FrameState) (log : Log) → AreOwnFrames k log → length (frames_from k ids s log) ≡ how_many is_frame log
counted k ids s [] own = refl
counted k ids s (e ∷ es) own =
    by (is_frame e.1.command) (is_at k App e) own.0
    (counted k (marks_after ids s e.1.command) (next_state s e.1.command) es own.1) ∙ sym (how_many_step is_frame e es)
  where
    here : Cutting
    here = record { ids = ids; found = s }

    later : List Cutting
    later = frames_from k (marks_after ids s e.1.command) (next_state s e.1.command) es

    by : (t u : Bool) → (t ≡ true → u ≡ true) → length later ≡ how_many is_frame es →
        length (cond (t && u) (here ∷ later) later) ≡ one t + how_many is_frame es
    by true true own same = omega (arith, same)
    by true false own same = let f : false ≡ true = own refl in absurd (cc)
    by false u own same = omega (arith, same)

-- where all Frames of a log are the seat's, it counts all frames begun
pub own_frames : (channels k : ℕ) (log : Log) → AreOwnFrames k log → (state_of channels log).frames ≡ length (frames_of channels k log)
own_frames channels k log own = (counts_law channels log).frames ∙ sym (counted k [] (opening_state channels) log own)

-- the merges of a state are those of the log
pub merges_are : (channels : ℕ) (log : Log) → (state_of channels log).merges ≡ merges_in log
merges_are channels log = (counts_law channels log).merges

pub merges_more : (xs ys : Log) → merges_in xs ≤ merges_in (xs ++ ys)
merges_more xs ys =
    let more = (never_fall_law 1 xs ys).merges in
    let before = merges_are 1 xs in
    let after = merges_are 1 (xs ++ ys) in
    omega (arith, more, before, after)

pub merges_found : (k : ℕ) (seen log : Log) → Found k seen log → merges_in seen ≤ merges_in log
merges_found k seen log (rest, is, none) = subst (λ (l : Log). merges_in seen ≤ merges_in l) (sym is) (merges_more seen rest)

same_number : (k : ℕ) → (k == k) ≡ true
same_number k = grind (arith, nat_tests)

-- the object's own entry under the seat's number is the application's, where its command is
pub own_is_at : (channels : ℕ) (log : Log) (k : ℕ) (c : Command) → caller_of c ≡ App → is_at k App (own_entry channels log k c) ≡ true
own_is_at channels log k c app =
    ap (λ t. t && is_caller App (caller_of c)) (same_number k) ∙ ap (is_caller App) app

-- one entry more under the number
pub one_more : (k : ℕ) (log : Log) (e : Entry) → length (of k (log ++ (k, e) ∷ [])) ≡ length (of k log) + 1
one_more k log e =
    ap length (of-append k log ((k, e) ∷ []) ∙ ap (λ t. of k log ++ cond t (e ∷ []) []) (same_number k)) ∙ length_push (of k log) e
