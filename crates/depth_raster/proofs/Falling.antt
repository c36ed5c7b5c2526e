-- Edge values in 64 bits from a row to the one below it.
use Rattle.std.proofs.Common.{◌≡◌, ℕ, ◌+◌, ◌*◌, ◌≤◌, ◌^◌, ap, sym, ◌∙◌, lit≤, subst, arith}
use Rattle.std.specs.Prelude.{ℤ, pos, ◌+ℤ◌, ◌*ℤ◌}
use Rattle.fx_math.specs.Limits.{size_limit}
use Rattle.fx_math.specs.Within.{IsWithin}
use Rattle.fx_math.proofs.Ring.{order, mul-add, times_one}
use Rattle.fx_math.proofs.Size.{within_add, within_mul, within_more}
use Rattle.tri_cover.proofs.FaceValues.{two_within}
use Rattle.tri_cover.specs.Linears.{value_at}
use Rattle.tri_cover.specs.declared.face.Face.{Face}
use Rattle.tri_cover.specs.declared.linear.Linear.{Linear}
use Rattle.edge_values.specs.Narrow.{DoFit, IsSumOf}
use Rattle.edge_values.specs.Small.{AreWithin}
use Rattle.edge_values.specs.declared.narrow.NarrowLine.{NarrowLine}
use Rattle.edge_values.specs.declared.narrow.NarrowValues.{NarrowValues}
use Rattle.depth_raster.specs.Narrow.{AreNarrowAt, AreNarrowSlopes, AreNarrowFalls, IsLineAt, fall_of}
use Rattle.depth_raster.specs.Small.{IsSmallFace, IsSmallLinear}
use Rattle.depth_raster.proofs.Stepped.{place_fits}

regrouped : (u v a c : ℤ) → u +ℤ (v +ℤ a) +ℤ c ≡ (u +ℤ v +ℤ c) +ℤ a
regrouped u v a c = omega (arith, order)

value_below : (g : Linear) (px py : ℕ) → value_at g px (py + 1) ≡ value_at g px py +ℤ fall_of g
value_below g px py =
    let next : fall_of g *ℤ pos (py + 1) ≡ fall_of g *ℤ pos py +ℤ fall_of g *ℤ pos 1 = mul-add (fall_of g) (pos py) (pos 1) in
    ap (λ (z : ℤ). (pos 2 *ℤ g.a) *ℤ pos px +ℤ z +ℤ g.c) next
    ∙ regrouped ((pos 2 *ℤ g.a) *ℤ pos px) (fall_of g *ℤ pos py) (fall_of g *ℤ pos 1) g.c
    ∙ ap (λ (z : ℤ). value_at g px py +ℤ z) (times_one (fall_of g))

-- the values of a small function at the pixels of a picture, and in the row below
value_small : (g : Linear) (px py : ℕ) → IsSmallLinear g → px ≤ size_limit → py ≤ size_limit → IsWithin (3 * 2 ^ 50) (value_at g px py)
value_small g px py small column row =
    within_more (3 * 2 ^ 50)
    (within_add (within_add (within_mul (within_mul two_within small.a_within) (place_fits px column)) (within_mul (within_mul two_within small.b_within) (place_fits py row))) small.c_within)
    (lit≤ tt)

fallen : (g : Linear) (px py : ℕ) (e d : ℤ) → e ≡ value_at g px py → d ≡ fall_of g → e +ℤ d ≡ value_at g px (py + 1)
fallen g px py e d is fall = ap (λ (u : ℤ). u +ℤ d) is ∙ ap (λ (u : ℤ). value_at g px py +ℤ u) fall ∙ sym (value_below g px py)

fall_fits : (g : Linear) (px py : ℕ) (e d : ℤ) → IsSmallLinear g → px ≤ size_limit → py + 1 ≤ size_limit → e ≡ value_at g px py → d ≡ fall_of g → IsWithin (2 ^ 52) (e +ℤ d)
fall_fits g px py e d small column row is fall =
    subst (λ (z : ℤ). IsWithin (2 ^ 52) z) (sym (fallen g px py e d is fall)) (within_more (2 ^ 52) (value_small g px (py + 1) small column row) (lit≤ tt))

pub falls_fit : (f : Face) (px py : ℕ) (v d : NarrowValues) → IsSmallFace f → px ≤ size_limit → py + 1 ≤ size_limit → AreNarrowAt f px py v → AreNarrowFalls f d → DoFit v d
falls_fit f px py v d small column row are falls = record {
  first_within = fall_fits f.edges.e0 px py v.first d.first small.first column row are.first_is falls.first_is;
  second_within = fall_fits f.edges.e1 px py v.second d.second small.second column row are.second_is falls.second_is;
  third_within = fall_fits f.edges.e2 px py v.third d.third small.third column row are.third_is falls.third_is;
}

values_below : (f : Face) (px py : ℕ) (v d t : NarrowValues) → AreNarrowAt f px py v → AreNarrowFalls f d → IsSumOf v d t → AreNarrowAt f px (py + 1) t
values_below f px py v d t are falls is = record {
  first_is = is.first_is ∙ fallen f.edges.e0 px py v.first d.first are.first_is falls.first_is;
  second_is = is.second_is ∙ fallen f.edges.e1 px py v.second d.second are.second_is falls.second_is;
  third_is = is.third_is ∙ fallen f.edges.e2 px py v.third d.third are.third_is falls.third_is;
}

small_at : (f : Face) (px py : ℕ) (v : NarrowValues) → IsSmallFace f → px ≤ size_limit → py ≤ size_limit → AreNarrowAt f px py v → AreWithin (3 * 2 ^ 50) v.first v.second v.third
small_at f px py v small column row are = record {
  first_within = subst (λ (z : ℤ). IsWithin (3 * 2 ^ 50) z) (sym are.first_is) (value_small f.edges.e0 px py small.first column row);
  second_within = subst (λ (z : ℤ). IsWithin (3 * 2 ^ 50) z) (sym are.second_is) (value_small f.edges.e1 px py small.second column row);
  third_within = subst (λ (z : ℤ). IsWithin (3 * 2 ^ 50) z) (sym are.third_is) (value_small f.edges.e2 px py small.third column row);
}

-- the line of the row below
pub line_fallen : (f : Face) (px end py : ℕ) (l m : NarrowLine) (d : NarrowValues) → IsSmallFace f → px ≤ size_limit → py + 1 ≤ size_limit → IsLineAt f px end py l → AreNarrowFalls f d
    → IsSumOf l.start d m.start → IsSumOf l.last d m.last → m.steps ≡ l.steps → IsLineAt f px end (py + 1) m
line_fallen f px end py l m d small column row line falls start last steps =
    let first : AreNarrowAt f px (py + 1) m.start = values_below f px py l.start d m.start line.start falls start in
    record {
      start = first;
      last = values_below f end py l.last d m.last line.last falls last;
      steps = subst (λ (v : NarrowValues). AreNarrowSlopes f v) (sym steps) line.steps;
      small = small_at f px (py + 1) m.start small column row first;
      small_steps = subst (λ (v : NarrowValues). AreWithin (2 ^ 40) v.first v.second v.third) (sym steps) line.small_steps;
    }
