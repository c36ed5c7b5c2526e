use Rattle.std.proofs.Common.{◌≡◌, ℕ, ◌*◌, ◌<◌, min, [], length, replicate, slice_index_or}
use Rattle.std.specs.List.{concat}
use Rattle.ppm_out.specs.Bands.{band_size, bytes_of_each}
use Rattle.ppm_out.proofs.bands.black_bands.Given as goal

-- the bands so far have their sizes, and are black
abbrev pub invariant-loop-i : goal.invariant-loop-i
invariant-loop-i l = record {
  count : length (bytes_of_each l.bands.items) ≡ l.i;
  sizes : (j : ℕ) → j < l.i → length (slice_index_or (bytes_of_each l.bands.items) j []) ≡ band_size l.width l.height j;
  black : concat (bytes_of_each l.bands.items) ≡ replicate (3 * (min (16 * l.i) l.height * l.width)) 0;
}
