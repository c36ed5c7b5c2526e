use Rattle.std.proofs.Common.{◌≡◌, ℕ, get_or, drop, true, false}
use Rattle.pf_edits.specs.Ways.{is_in}
use Rattle.pf_edits.proofs.way.unmark.Given as goal

abbrev pub invariant-loop-id : goal.invariant-loop-id
invariant-loop-id l =
    ((b : ℕ) → get_or l.initial.marks b false ≡ true → is_in b l.ids ≡ true)
    → (b : ℕ) → get_or l.marks b false ≡ true → is_in b (drop l.id-index l.ids) ≡ true
