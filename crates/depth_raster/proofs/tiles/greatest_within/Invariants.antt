use Rattle.std.proofs.Common.{ℕ, ◌<◌, ◌≤◌}
use Rattle.depth_raster.specs.Tiles.{mark_in}
use Rattle.depth_raster.proofs.tiles.greatest_within.Given as goal

abbrev pub invariant-loop-r : goal.invariant-loop-r
invariant-loop-r l = (q s : ℕ) → q < l.block.width → s < l.r → (mark_in l.block l.marks q s).depth ≤ l.greatest
