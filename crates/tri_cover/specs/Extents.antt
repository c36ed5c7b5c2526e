-- Where a triangle may be seen.
use Rattle.std.specs.Prelude.{◌≡◌, ℕ, ◌+◌, ◌-◌, ◌*◌, ◌<◌, Option, Some, None, true, false, ℤ, pos, neg_ℤ, ◌+ℤ◌, ◌*ℤ◌, ◌≤ℤ◌, ◌<ℤ◌, unsigned_abs}
use Rattle.std.specs.Int.{int_min, int_max}
use Rattle.fx_math.specs.Plain.{Point}
use Rattle.fx_math.specs.Fixed.{floor_div}
use Rattle.fx_math.specs.Laws.{weighed, scaled}
use Rattle.fx_math.specs.Hit.{Edges, ray, is_in_depth, depth_of}
use Rattle.fx_math.specs.declared.lenses.Lens.{Lens}
use Rattle.tri_cover.specs.declared.extent.Extent.{Extent}
use Rattle.tri_cover.specs.declared.extent.Span.{Span}
use Rattle.tri_cover.specs.Faces.{is_in_span, is_in_box, is_seen_at}

-- the pixel of the picture is inside the triangle of these vertices: edge values that are not below 0 weigh them to a
-- multiple above 0 of its ray
pub record IsInside (lens : Lens) (px py : ℕ) (u v w : Point) (volume : ℤ) (e : Edges) : Type 0 where
  pub in_row : px < lens.w
  pub in_picture : py < lens.h
  pub volume_above : pos 0 <ℤ volume
  pub e0_above : pos 0 ≤ℤ e.e0
  pub e1_above : pos 0 ≤ℤ e.e1
  pub e2_above : pos 0 ≤ℤ e.e2
  pub mean : weighed e u v w ≡ scaled volume (ray lens px py)

-- the pixel lies in the box, and its depth is seen exactly where the lens shows it
pub record IsSeenIn (lens : Lens) (x : Extent) (px py : ℕ) (depth : ℤ) : Type 0 where
  pub in_box : is_in_box x px py ≡ true
  pub seen : is_in_depth lens depth ≡ is_seen_at x (unsigned_abs depth)

-- what the extent says of each pixel inside the triangle; where there is none, nothing is seen
abbrev pub IsExtentOf : Lens → (u v w : Point) → Option Extent → Type 0
IsExtentOf lens u v w None = (px py : ℕ) (volume : ℤ) (e : Edges) → IsInside lens px py u v w volume e
    → is_in_depth lens (depth_of lens volume e) ≡ false
IsExtentOf lens u v w (Some x) = (px py : ℕ) (volume : ℤ) (e : Edges) → IsInside lens px py u v w volume e
    → IsSeenIn lens x px py (depth_of lens volume e)

-- the depths of the vertices lie between the lens's
pub record IsDeepEnough (lens : Lens) (p : Point) : Type 0 where
  pub low : lens.near ≤ℤ p.y
  pub high : p.y ≤ℤ lens.far

pub record AreBetween (lens : Lens) (u v w : Point) : Type 0 where
  pub first : IsDeepEnough lens u
  pub second : IsDeepEnough lens v
  pub third : IsDeepEnough lens w

-- all vertices are too near, or all too far
pub record IsNearer (lens : Lens) (p : Point) : Type 0 where
  pub near : p.y <ℤ lens.near

pub record AreNearer (lens : Lens) (u v w : Point) : Type 0 where
  pub first : IsNearer lens u
  pub second : IsNearer lens v
  pub third : IsNearer lens w

pub record IsFarther (lens : Lens) (p : Point) : Type 0 where
  pub far : lens.far <ℤ p.y

pub record AreFarther (lens : Lens) (u v w : Point) : Type 0 where
  pub first : IsFarther lens u
  pub second : IsFarther lens v
  pub third : IsFarther lens w

-- the vertices lie before the eye
pub record AreBefore (u v w : Point) : Type 0 where
  pub first : pos 1 ≤ℤ u.y
  pub second : pos 1 ≤ℤ v.y
  pub third : pos 1 ≤ℤ w.y

-- the span lies in a side of so many pixels, and has each of them from the least to the greatest place; where there is no
-- span there is no such pixel
pub record IsSpanFrom (size : ℕ) (least greatest : ℤ) (s : Span) : Type 0 where
  pub fits : s.last < size
  pub holds : (p : ℕ) → p < size → least ≤ℤ pos p → pos p ≤ℤ greatest → is_in_span s p ≡ true

abbrev pub IsSpanOf : (size : ℕ) → (least greatest : ℤ) → Option Span → Type 0
IsSpanOf size least greatest None = (p : ℕ) → p < size → least ≤ℤ pos p → pos p ≤ℤ greatest → ⊥
IsSpanOf size least greatest (Some s) = IsSpanFrom size least greatest s

-- twice the place of a point of this side and this depth, in pixels of a picture of this size, times the depth
abbrev pub place_times : (f size : ℕ) → (side depth : ℤ) → ℤ
place_times f size side depth = pos (2 * f) *ℤ side +ℤ pos (size - 1) *ℤ depth

-- the least whole number that is not below n / d, for a divisor that is not 0
abbrev pub ceil_div : ℤ → ℤ → ℤ
ceil_div n d = neg_ℤ (floor_div (neg_ℤ n) d)

-- the first pixel that does not lie before the place at which a point is seen, and the last one that does not lie behind it
abbrev pub first_place : (f size : ℕ) → (side depth : ℤ) → ℤ
first_place f size side depth = ceil_div (place_times f size side depth) (pos 2 *ℤ depth)

abbrev pub last_place : (f size : ℕ) → (side depth : ℤ) → ℤ
last_place f size side depth = floor_div (place_times f size side depth) (pos 2 *ℤ depth)

abbrev pub least_of : (a b c : ℤ) → ℤ
least_of a b c = int_min (int_min a b) c

abbrev pub greatest_of : (a b c : ℤ) → ℤ
greatest_of a b c = int_max (int_max a b) c

-- the same of the columns and rows of a picture
abbrev pub first_column : Lens → Point → ℤ
first_column lens p = first_place lens.f lens.w p.x p.y

abbrev pub last_column : Lens → Point → ℤ
last_column lens p = last_place lens.f lens.w p.x p.y

abbrev pub first_row : Lens → Point → ℤ
first_row lens p = first_place lens.f lens.h (neg_ℤ p.z) p.y

abbrev pub last_row : Lens → Point → ℤ
last_row lens p = last_place lens.f lens.h (neg_ℤ p.z) p.y

-- the columns and rows between three points
abbrev pub least_column : Lens → (u v w : Point) → ℤ
least_column lens u v w = least_of (first_column lens u) (first_column lens v) (first_column lens w)

abbrev pub greatest_column : Lens → (u v w : Point) → ℤ
greatest_column lens u v w = greatest_of (last_column lens u) (last_column lens v) (last_column lens w)

abbrev pub least_row : Lens → (u v w : Point) → ℤ
least_row lens u v w = least_of (first_row lens u) (first_row lens v) (first_row lens w)

abbrev pub greatest_row : Lens → (u v w : Point) → ℤ
greatest_row lens u v w = greatest_of (last_row lens u) (last_row lens v) (last_row lens w)

-- the box lies in the picture
pub record IsInPicture (lens : Lens) (x : Extent) : Type 0 where
  pub in_row : x.columns.last < lens.w
  pub in_column : x.rows.last < lens.h

-- the box is the whole picture, and the depths are the lens's
pub record IsWhole (lens : Lens) (x : Extent) : Type 0 where
  pub first_column : x.columns.first ≡ 0
  pub last_column : x.columns.last + 1 ≡ lens.w
  pub first_row : x.rows.first ≡ 0
  pub last_row : x.rows.last + 1 ≡ lens.h
  pub near_is : pos x.near ≡ lens.near
  pub far_is : pos x.far ≡ lens.far
