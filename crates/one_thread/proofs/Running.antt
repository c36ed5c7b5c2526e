-- Runs of the object: what each command leaves of the counts, and that the entries of a run are legal.
use Rattle.std.proofs.Common.{◌≡◌, ℕ, ◌+◌, ◌<◌, ◌≤◌, true, List, [], ◌∷◌, ◌++◌, map, length, take, get_or, refl, sym, ap, subst, arith}
use Rattle.std.proofs.lemmas.Bool.{both_ways, true_from_ne_false}
use Rattle.std.proofs.lemmas.List.{length-append}
use Rattle.std.proofs.lemmas.List.Folds.{list_all_at}
use Rattle.std.proofs.lemmas.List.Sums.{sum_by-append, sum_by-cons}
use Rattle.std.specs.List.{list_all, sum_by}
use Rattle.pf_history.specs.declared.commands.Command.{Command}
use Rattle.pf_history.specs.declared.commands.Command.TheVariants as command
use Rattle.pf_history.specs.Objects.{FrameState, next_state}
use Rattle.pf_history.specs.Commands.{is_frame, is_merge, command_fits, edit_count}
use Rattle.pf_history.specs.Logs.{Log, state_after, IsLegalFrom, entry_of}
use Rattle.one_thread.specs.Runs.{CanRun, state_behind, entries_from, CanMakeEach}
use Rattle.pf_history.proofs.Counting.{one_most, frames_next, merges_next}
use Rattle.pf_history.proofs.Folds.{own_entry_legal}
use Rattle.one_thread.proofs.Merging.{after_serials, after_all_serials}

serials_next : (s : FrameState) (c : Command) → (next_state s c).graph.next_serial ≤ s.graph.next_serial + edit_count c
serials_next s (command.Edit e) = after_serials s.graph e
serials_next s (command.Merge m) = after_all_serials s.graph m.edits
serials_next s (command.View channel v) = omega arith
serials_next s (command.Sync r) = omega arith
serials_next s command.Frame = omega arith

-- what commands leave of the counts
pub record Counts (s : FrameState) (edits commands : ℕ) : Type 0 where
  pub serials : s.graph.next_serial ≤ 1 + edits
  pub frames : s.frames ≤ commands
  pub merges : s.merges ≤ commands

pub counts_next : (s : FrameState) (edits commands : ℕ) (c : Command) → Counts s edits commands → Counts (next_state s c) (edits + edit_count c) (commands + 1)
counts_next s edits commands c so_far =
    let serials = serials_next s c in
    let frames = frames_next s c in
    let merges = merges_next s c in
    let one_frame = one_most (is_frame c) in
    let one_merge = one_most (is_merge c) in
    record {
      serials = let before = so_far.serials in omega (arith, serials, before);
      frames = let before = so_far.frames in omega (arith, frames, one_frame, before);
      merges = let before = so_far.merges in omega (arith, merges, one_merge, before);
    }

-- The entries of commands, and the state behind them

pub entries_push : (s : FrameState) (cs : List Command) (c : Command) → entries_from s (cs ++ c ∷ []) ≡ entries_from s cs ++ (0, entry_of (state_behind s cs) c) ∷ []
entries_push s [] c = refl
entries_push s (d ∷ cs) c = ap (λ (es : Log). (0, entry_of s d) ∷ es) (entries_push (next_state s d) cs c)

pub behind_push : (s : FrameState) (cs : List Command) (c : Command) → state_behind s (cs ++ c ∷ []) ≡ next_state (state_behind s cs) c
behind_push s [] c = refl
behind_push s (d ∷ cs) c = behind_push (next_state s d) cs c

pub behind_entries : (s : FrameState) (cs : List Command) → state_behind s cs ≡ state_after s (entries_from s cs)
behind_entries s [] = refl
behind_entries s (c ∷ cs) = behind_entries (next_state s c) cs

pub entries_legal : (s : FrameState) (cs : List Command) → CanMakeEach s cs → IsLegalFrom s (entries_from s cs)
entries_legal s [] can = tt
entries_legal s (c ∷ cs) can = (own_entry_legal s c can.0, entries_legal (next_state s c) cs can.1)

-- The commands that a loop over a list has come to

-- The commands before the one at hand are the first of all, and it is the next.
pub record IsNext (all so_far : List Command) (c : Command) : Type 0 where
  pub first : map (λ x. x) so_far ≡ take (length so_far) all
  pub within : length so_far < length all
  pub here : c ≡ get_or all (length so_far) c

sum_push : (cs : List Command) (c : Command) → sum_by edit_count (cs ++ c ∷ []) ≡ sum_by edit_count cs + edit_count c
sum_push cs c =
    let both = sum_by-append edit_count cs (c ∷ []) in
    let one = sum_by-cons edit_count c [] in
    let none : sum_by edit_count [] ≡ 0 = refl in
    omega (arith, both, one, none)

all_at : (cs : List Command) (i : ℕ) (d : Command) → list_all command_fits cs ≡ true → i < length cs → command_fits (get_or cs i d) ≡ true
all_at cs i d fit l =
    true_from_ne_false (command_fits (get_or cs i d)) (λ e. both_ways (list_all command_fits cs) (list_all_at command_fits cs i d l e) fit)

pub next_fits : (all so_far : List Command) (c : Command) → CanRun all → IsNext all so_far c → command_fits c ≡ true
next_fits all so_far c can next = subst (λ (d : Command). command_fits d ≡ true) (sym next.here) (all_at all (length so_far) c can.fits next.within)

-- one command more
pub counts_push : (s : FrameState) (so_far : List Command) (c : Command) → Counts s (sum_by edit_count so_far) (length so_far) → Counts (next_state s c) (sum_by edit_count (so_far ++ c ∷ [])) (length (so_far ++ c ∷ []))
counts_push s so_far c counts =
    let P : ℕ → ℕ → Type 0 = λ edits commands. Counts (next_state s c) edits commands in
    let edits : sum_by edit_count so_far + edit_count c ≡ sum_by edit_count (so_far ++ c ∷ []) = sym (sum_push so_far c) in
    let many : length so_far + 1 ≡ length (so_far ++ c ∷ []) = sym (length-append so_far (c ∷ [])) in
    subst (λ (n : ℕ). P n (length (so_far ++ c ∷ []))) edits
    (subst (λ (n : ℕ). P (sum_by edit_count so_far + edit_count c) n) many (counts_next s (sum_by edit_count so_far) (length so_far) c counts))
