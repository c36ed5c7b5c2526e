-- The signs of edge values along a row, from those at its first and its last pixel.
use Rattle.std.proofs.Common.{◌≡◌, ℕ, ◌≤◌, Bool, true, false, None, inl, inr, refl, subst, arith}
use Rattle.std.specs.Prelude.{ℤ, pos, ◌+ℤ◌, ◌*ℤ◌, ◌≤ℤ◌, ◌<ℤ◌, int_le}
use Rattle.std.proofs.lemmas.Int.{ints}
use Rattle.fx_math.proofs.Ring.{order}
use Rattle.tri_cover.specs.Faces.{face_hit}
use Rattle.tri_cover.specs.Linears.{value_at, step_of}
use Rattle.tri_cover.specs.declared.face.Face.{Face}
use Rattle.tri_cover.specs.declared.linear.Linear.{Linear}
use Rattle.depth_raster.specs.Looks.{IsMissedTo}
use Rattle.depth_raster.specs.Edges.{AreValuesAt}
use Rattle.depth_raster.specs.Narrow.{AreNarrowAt, IsLineAt}
use Rattle.depth_raster.specs.Weighed.{AreInnerAt, AreInnerTo}
use Rattle.edge_values.specs.Narrow.{IsInside, IsOutside}
use Rattle.edge_values.specs.Weights.{AreBelow, AreInner}
use Rattle.edge_values.specs.declared.narrow.NarrowLine.{NarrowLine}
use Rattle.edge_values.specs.declared.narrow.NarrowValues.{NarrowValues}
use Rattle.edge_values.specs.declared.values.EdgeValues.{EdgeValues}
use Rattle.depth_raster.proofs.BlockHits.{slope_above, slope_below}
use Rattle.depth_raster.proofs.Looking.{not_inner}

rising : (z : ℤ) → int_le (pos 0) z ≡ true → pos 0 ≤ℤ z
rising z h = grind (arith, ints)

falling : (z : ℤ) → int_le (pos 0) z ≡ false → z ≤ℤ pos 0
falling z h = grind (arith, ints)

sum_more : (a b v c : ℤ) → a ≤ℤ b → (a +ℤ v +ℤ c) ≤ℤ (b +ℤ v +ℤ c)
sum_more a b v c h = omega (arith, order, h)

along : (g : Linear) (x m py : ℕ) → (step_of g *ℤ pos x) ≤ℤ (step_of g *ℤ pos m) → value_at g x py ≤ℤ value_at g m py
along g x m py l = sum_more (step_of g *ℤ pos x) (step_of g *ℤ pos m) ((pos 2 *ℤ g.b) *ℤ pos py) g.c l

at_least : (a b : ℤ) → pos 0 ≤ℤ a → a ≤ℤ b → pos 0 ≤ℤ b
at_least a b h l = omega (arith, order, h, l)

at_most : (a b : ℤ) → b <ℤ pos 0 → a ≤ℤ b → a <ℤ pos 0
at_most a b h l = omega (arith, order, h, l)

-- a linear function is nowhere less than at one of the ends
not_below : (g : Linear) (px end py x : ℕ) → px ≤ x → x ≤ end → pos 0 ≤ℤ value_at g px py → pos 0 ≤ℤ value_at g end py → pos 0 ≤ℤ value_at g x py
not_below g px end py x low high start last = by (int_le (pos 0) (step_of g)) refl
  where
    by : (t : Bool) → int_le (pos 0) (step_of g) ≡ t → pos 0 ≤ℤ value_at g x py
    by true e = at_least (value_at g px py) (value_at g x py) start (along g px x py (slope_above (step_of g) px x (rising (step_of g) e) low))
    by false e = at_least (value_at g end py) (value_at g x py) last (along g end x py (slope_below (step_of g) end x (falling (step_of g) e) high))

-- and nowhere greater than at one of them
below : (g : Linear) (px end py x : ℕ) → px ≤ x → x ≤ end → value_at g px py <ℤ pos 0 → value_at g end py <ℤ pos 0 → value_at g x py <ℤ pos 0
below g px end py x low high start last = by (int_le (pos 0) (step_of g)) refl
  where
    by : (t : Bool) → int_le (pos 0) (step_of g) ≡ t → value_at g x py <ℤ pos 0
    by true e = at_most (value_at g x py) (value_at g end py) last (along g x end py (slope_above (step_of g) x end (rising (step_of g) e) high))
    by false e = at_most (value_at g x py) (value_at g px py) start (along g x px py (slope_below (step_of g) x px (falling (step_of g) e) low))

-- ---- lines
pub ends_inside : (f : Face) (px end py : ℕ) → AreInnerAt f px py → AreInnerAt f end py → AreInnerTo f px end py
ends_inside f px end py start last x low high = record {
  first_inner = not_below f.edges.e0 px end py x low high start.first_inner last.first_inner;
  second_inner = not_below f.edges.e1 px end py x low high start.second_inner last.second_inner;
  third_inner = not_below f.edges.e2 px end py x low high start.third_inner last.third_inner;
}

narrow_inner : (f : Face) (px py : ℕ) (v : NarrowValues) → AreNarrowAt f px py v → AreInner v.first v.second v.third → AreInnerAt f px py
narrow_inner f px py v are is = record {
  first_inner = subst (λ (z : ℤ). pos 0 ≤ℤ z) are.first_is is.first_inner;
  second_inner = subst (λ (z : ℤ). pos 0 ≤ℤ z) are.second_is is.second_inner;
  third_inner = subst (λ (z : ℤ). pos 0 ≤ℤ z) are.third_is is.third_inner;
}

pub line_inside : (f : Face) (px end py : ℕ) (l : NarrowLine) → IsInside l → IsLineAt f px end py l → AreInnerTo f px end py
line_inside f px end py l is line = ends_inside f px end py (narrow_inner f px py l.start line.start is.start) (narrow_inner f end py l.last line.last is.last)

-- the same in 128 bits
pub values_inner : (f : Face) (px py : ℕ) (e : EdgeValues) → AreValuesAt f px py e → AreInner e.first e.second e.third → AreInnerAt f px py
values_inner f px py e are is = record {
  first_inner = subst (λ (z : ℤ). pos 0 ≤ℤ z) are.first_is is.first_inner;
  second_inner = subst (λ (z : ℤ). pos 0 ≤ℤ z) are.second_is is.second_inner;
  third_inner = subst (λ (z : ℤ). pos 0 ≤ℤ z) are.third_is is.third_inner;
}

-- a pixel at which an edge value is below 0
below_missed : (f : Face) (g : Linear) (px end py x : ℕ) (a b : ℤ) → ((AreInnerAt f x py) → pos 0 ≤ℤ value_at g x py) → px ≤ x → x ≤ end → a ≡ value_at g px py → b ≡ value_at g end py → AreBelow a b → face_hit f x py ≡ None
below_missed f g px end py x a b inner low high start last is = not_inner f x py (λ at.
    let under = below g px end py x low high (subst (λ (z : ℤ). z <ℤ pos 0) start is.first_below) (subst (λ (z : ℤ). z <ℤ pos 0) last is.second_below) in
    let over = inner at in
    omega (arith, ints, over, under))

pub line_outside : (f : Face) (px end py : ℕ) (l : NarrowLine) → IsOutside l → IsLineAt f px end py l → IsMissedTo f px end py
line_outside f px end py l (inl is) line x low high = below_missed f f.edges.e0 px end py x l.start.first l.last.first (λ at. at.first_inner) low high line.start.first_is line.last.first_is is
line_outside f px end py l (inr (inl is)) line x low high = below_missed f f.edges.e1 px end py x l.start.second l.last.second (λ at. at.second_inner) low high line.start.second_is line.last.second_is is
line_outside f px end py l (inr (inr is)) line x low high = below_missed f f.edges.e2 px end py x l.start.third l.last.third (λ at. at.third_inner) low high line.start.third_is line.last.third_is is
