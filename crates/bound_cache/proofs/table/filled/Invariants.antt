use Rattle.std.proofs.Common.{◌≡◌, ℕ, get_or, length}
use Rattle.bound_cache.proofs.table.filled.Given as goal

abbrev pub invariant-loop-place : goal.invariant-loop-place
invariant-loop-place g l = (length l.items.items ≡ l.place) × ((k : ℕ) → get_or l.items.items k l.item ≡ l.item)
