use Rattle.std.proofs.Common.{◌≡◌, ◌+◌, ◌≤◌, ◌++◌, take, drop}
use Rattle.std.specs.List.{flat_map}
use Rattle.std.specs.Vec.{vec_capacity, vec_len}
use Rattle.ppm_out.specs.Ppm.{ppm_bytes}
use Rattle.stage_parts.specs.Loads.{bytes_of_all}
use Rattle.stage_parts.proofs.loads.append_all.Given as goal

-- the pictures of the images so far were appended, and there is room for those of the others
abbrev pub invariant-loop-image : goal.invariant-loop-image
invariant-loop-image l =
    record {
      items : l.out.items ≡ l.fn.out.items ++ flat_map ppm_bytes (take l.image-index l.images);
      room : vec_len l.out + bytes_of_all (drop l.image-index l.images) ≤ vec_capacity l.out;
      capacity : vec_capacity l.fn.out ≤ vec_capacity l.out;
    }
