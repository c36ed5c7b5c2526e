use Rattle.std.proofs.Common.{◌≡◌}
use Rattle.depth_raster.specs.Shown.{IsSeenAs}
use Rattle.depth_raster.proofs.Handed.{HasBands}
use Rattle.depth_raster.proofs.Tiling.{PartsSoFar}
use Rattle.depth_raster.proofs.shown.exchange_rows.Given as goal

abbrev pub invariant-loop-i : goal.invariant-loop-i
invariant-loop-i l = record {
  parts : PartsSoFar IsSeenAs l.initial.strips l.strips l.i;
  width : l.image.width ≡ l.lens.w;
  height : l.image.height ≡ l.lens.h;
  bands : HasBands l.image l.initial.strips l.i;
}
