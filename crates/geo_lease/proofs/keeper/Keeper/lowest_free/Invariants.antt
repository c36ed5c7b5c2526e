use Rattle.std.proofs.Common.{ℕ, ◌<◌, ◌≤◌, get_or}
use Rattle.geo_lease.proofs.keeper.Keeper.lowest_free.Given as goal

abbrev pub invariant-loop-slot : goal.invariant-loop-slot
invariant-loop-slot g l = (j : ℕ) → l.first ≤ j → j < l.slot → l.self.seen < get_or l.self.last.items j 0
