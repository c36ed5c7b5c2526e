-- The segment that the value of `--probe` spells: six coordinates, spelled as in a play, with commas between them.
use Rattle.std.specs.Prelude.{ℤ, List, [], ◌∷◌, ◌==◌, Option, Some, None}
use Rattle.std.specs.List.{slice_split}
use Rattle.std.specs.Result.{result_ok}
use Rattle.fx_math.specs.declared.vectors.Vec3.{Vec3}
use Rattle.nearest_hit.specs.declared.segment.Segment.{Segment}
use Rattle.play_format.specs.Numbers.{number_at}
use Rattle.play_format.specs.Commands.{coordinate}
use Rattle.play_format.specs.Making.{vector}
use Rattle.clap.specs.Words.{Text}

-- the pieces of a text round each comma
abbrev pub pieces : Text → List Text
pieces text = slice_split (λ b. b == 44) text

-- the coordinate that a text spells, as a play spells its numbers
abbrev pub coordinate_in : Text → Option ℤ
coordinate_in text = result_ok (number_at coordinate text)

-- the point of three coordinates, where all are there
abbrev pub point_of : (x y z : Option ℤ) → Option Vec3
point_of (Some x) (Some y) (Some z) = Some (vector x y z)
point_of _ _ _ = None

-- the segment from one point to another, where both are there
abbrev pub segment_of : (from to : Option Vec3) → Option Segment
segment_of (Some from) (Some to) = Some (record { from = from; to = to })
segment_of _ _ = None

-- the segment that pieces spell: there have to be six
abbrev pub segment_by : List Text → Option Segment
segment_by (x0 ∷ y0 ∷ z0 ∷ x1 ∷ y1 ∷ z1 ∷ []) =
    segment_of (point_of (coordinate_in x0) (coordinate_in y0) (coordinate_in z0))
    (point_of (coordinate_in x1) (coordinate_in y1) (coordinate_in z1))
segment_by _ = None

-- the segment that a text spells
abbrev pub segment_in : Text → Option Segment
segment_in text = segment_by (pieces text)
