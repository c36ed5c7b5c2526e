use Rattle.std.proofs.Common.{◌≡◌, ℕ, ◌<◌, ◌≤◌, get_or}
use Rattle.depth_raster.specs.Marks.{no_mark}
use Rattle.depth_raster.specs.Pieces.{settled}
use Rattle.depth_raster.proofs.painting.settle.Given as goal

abbrev pub invariant-loop-i : goal.invariant-loop-i
invariant-loop-i l = record {
  done : (k : ℕ) → k < l.i → get_or l.marks k no_mark ≡ settled (get_or l.initial.marks k no_mark);
  ahead : (k : ℕ) → l.i ≤ k → get_or l.marks k no_mark ≡ get_or l.initial.marks k no_mark;
}
