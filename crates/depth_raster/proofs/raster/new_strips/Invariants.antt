use Rattle.std.proofs.Common.{◌≡◌, ℕ, ◌<◌, length, get_or}
use Rattle.std.specs.List.{All}
use Rattle.depth_raster.specs.Strips.{band_at, IsToBe}
use Rattle.depth_raster.specs.declared.strip.Strip.{Strip}
use Rattle.depth_raster.proofs.raster.new_strips.Given as goal

abbrev pub invariant-loop-i : goal.invariant-loop-i
invariant-loop-i l = record {
  count : length l.strips.items ≡ l.i;
  bands : (k : ℕ) (d : Strip) → k < l.i → (get_or l.strips.items k d).band ≡ band_at l.lens k;
  each : All IsToBe l.strips.items;
}
