use Rattle.std.proofs.Common.{ℕ, ◌<◌, ◌≤◌}
use Rattle.depth_raster.specs.Tiles.{mark_in}
use Rattle.depth_raster.proofs.tiles.greatest_in_row.Given as goal

abbrev pub invariant-loop-q : goal.invariant-loop-q
invariant-loop-q l = (k : ℕ) → k < l.q → (mark_in l.block l.marks k l.r).depth ≤ l.greatest
