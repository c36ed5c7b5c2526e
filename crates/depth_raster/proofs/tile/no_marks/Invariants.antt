use Rattle.std.proofs.Common.{◌≡◌, length}
use Rattle.std.specs.List.{All}
use Rattle.depth_raster.specs.Marks.{nothing}
use Rattle.depth_raster.proofs.tile.no_marks.Given as goal

abbrev pub invariant-loop-i : goal.invariant-loop-i
invariant-loop-i l = record {
  count : length l.marks.items ≡ l.i;
  each : All (λ m. m ≡ nothing) l.marks.items;
}
