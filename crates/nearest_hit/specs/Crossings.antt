-- Where a segment crosses a triangle, from its determinants.
use Rattle.std.specs.Prelude.{ℕ, Bool, ◌&&◌, ◌||◌, if◌then◌else◌, Option, Some, None, ℤ, pos, neg_ℤ, ◌*ℤ◌, int_lt, int_le, unsigned_abs}
use Rattle.fx_math.specs.Plain.{Point}
use Rattle.fx_math.specs.Fixed.{floor_div}
use Rattle.fx_math.specs.Hit.{Edges, det3, edges, sum_of}
use Rattle.fx_math.specs.Laws.{side}

-- the edge values of the segment from p to q in the triangle u v w, seen from p
abbrev pub edges_between : (p q u v w : Point) → Edges
edges_between p q u v w = edges (side p q) (side p u) (side p v) (side p w)

-- the determinant of the vertices u v w, seen from p
abbrev pub volume_at : (p u v w : Point) → ℤ
volume_at p u v w = det3 (side p u) (side p v) (side p w)

unfoldable pub are_above : Edges → Bool
are_above e = int_le (pos 0) e.e0 && int_le (pos 0) e.e1 && int_le (pos 0) e.e2

unfoldable pub is_part : ℤ → ℤ → Bool
is_part volume sum = int_le (pos 0) volume && int_le volume sum

-- the sum of the edge values is above 0, no edge value is below 0, and the volume is a part of the sum
unfoldable pub is_ahead : ℤ → Edges → Bool
is_ahead volume e = int_lt (pos 0) (sum_of e) && are_above e && is_part volume (sum_of e)

-- with all signs turned
abbrev pub turned : Edges → Edges
turned e = record { e0 = neg_ℤ e.e0; e1 = neg_ℤ e.e1; e2 = neg_ℤ e.e2 }

-- the sum of the edge values is not 0, no edge value and not the volume has the opposite sign, and the volume is in
-- magnitude at most the sum
unfoldable pub is_crossed : ℤ → Edges → Bool
is_crossed volume e = is_ahead volume e || is_ahead (neg_ℤ volume) (turned e)

-- how far along the segment the crossing lies, in 1/65536 of its length, rounded down
unfoldable pub time_at : ℤ → Edges → ℤ
time_at volume e = floor_div (pos 65536 *ℤ volume) (sum_of e)

-- the time of a crossing with this volume and these edge values
unfoldable pub judged : ℤ → Edges → Option ℕ
judged volume e = if is_crossed volume e then Some (unsigned_abs (time_at volume e)) else None

-- the time at which the segment from p to q crosses the triangle u v w, where it does
abbrev pub crossing_between : (p q u v w : Point) → Option ℕ
crossing_between p q u v w = judged (volume_at p u v w) (edges_between p q u v w)
