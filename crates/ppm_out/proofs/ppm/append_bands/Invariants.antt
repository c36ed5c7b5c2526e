use Rattle.std.proofs.Common.{◌≡◌, ◌++◌, take}
use Rattle.std.specs.Prelude.{vec_capacity}
use Rattle.ppm_out.specs.Bands.{band_start}
use Rattle.ppm_out.proofs.ppm.append_bands.Given as goal

-- the bands above this one were appended
abbrev pub invariant-loop-i : goal.invariant-loop-i
invariant-loop-i l = record {
  items : l.out.items ≡ l.fn.out.items ++ take (band_start l.image.width l.i) l.image.bytes;
  room : vec_capacity l.out ≡ vec_capacity l.fn.out;
}
