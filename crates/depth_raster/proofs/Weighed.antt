-- The sum of edge values none of which is below 0.
use Rattle.std.proofs.Common.{◌≡◌, ℕ, sym, ◌∙◌, subst, arith}
use Rattle.std.specs.Prelude.{ℤ, pos, ◌+ℤ◌, ◌≤ℤ◌}
use Rattle.fx_math.proofs.Ring.{order}
use Rattle.tri_cover.proofs.EdgeLines.{total_value}
use Rattle.tri_cover.specs.Linears.{value_at}
use Rattle.tri_cover.specs.declared.face.Face.{Face}
use Rattle.depth_raster.specs.Edges.{AreValuesAt}
use Rattle.depth_raster.specs.Narrow.{AreNarrowAt}
use Rattle.depth_raster.specs.Weighed.{AreInnerAt, IsInnerSumAt}
use Rattle.edge_values.specs.declared.narrow.NarrowValues.{NarrowValues}
use Rattle.edge_values.specs.declared.values.EdgeValues.{EdgeValues}
use Rattle.edge_values.specs.Weights.{AreInner, IsInnerSum}

pub inner_sum_at : (f : Face) (px py : ℕ) (v : NarrowValues) (s : ℕ) → AreNarrowAt f px py v → IsInnerSum v.first v.second v.third s → IsInnerSumAt f px py s
inner_sum_at f px py v s are is =
    subst (λ (z : ℤ). IsInnerSum (value_at f.edges.e0 px py) (value_at f.edges.e1 px py) z s) are.third_is
    (subst (λ (z : ℤ). IsInnerSum (value_at f.edges.e0 px py) z v.third s) are.second_is (subst (λ (z : ℤ). IsInnerSum z v.second v.third s) are.first_is is))

pub inner_values : (f : Face) (px py : ℕ) (v : NarrowValues) → AreNarrowAt f px py v → AreInnerAt f px py → AreInner v.first v.second v.third
inner_values f px py v are is = record {
  first_inner = subst (λ (z : ℤ). pos 0 ≤ℤ z) (sym are.first_is) is.first_inner;
  second_inner = subst (λ (z : ℤ). pos 0 ≤ℤ z) (sym are.second_is) is.second_inner;
  third_inner = subst (λ (z : ℤ). pos 0 ≤ℤ z) (sym are.third_is) is.third_inner;
}

-- the same in 128 bits
pub wide_sum_at : (f : Face) (px py : ℕ) (e : EdgeValues) (s : ℕ) → AreValuesAt f px py e → IsInnerSum e.first e.second e.third s → IsInnerSumAt f px py s
wide_sum_at f px py e s are is =
    subst (λ (z : ℤ). IsInnerSum (value_at f.edges.e0 px py) (value_at f.edges.e1 px py) z s) are.third_is
    (subst (λ (z : ℤ). IsInnerSum (value_at f.edges.e0 px py) z e.third s) are.second_is (subst (λ (z : ℤ). IsInnerSum z e.second e.third s) are.first_is is))

pub wide_values : (f : Face) (px py : ℕ) (e : EdgeValues) → AreValuesAt f px py e → AreInnerAt f px py → AreInner e.first e.second e.third
wide_values f px py e are is = record {
  first_inner = subst (λ (z : ℤ). pos 0 ≤ℤ z) (sym are.first_is) is.first_inner;
  second_inner = subst (λ (z : ℤ). pos 0 ≤ℤ z) (sym are.second_is) is.second_inner;
  third_inner = subst (λ (z : ℤ). pos 0 ≤ℤ z) (sym are.third_is) is.third_inner;
}

-- ---- the sum alone
not_below_zero : (a b c : ℤ) → pos 0 ≤ℤ a → pos 0 ≤ℤ b → pos 0 ≤ℤ c → pos 0 ≤ℤ (a +ℤ b +ℤ c)
not_below_zero a b c first second third = omega (arith, order, first, second, third)

pub sum_inner : (f : Face) (px py : ℕ) → AreInnerAt f px py → pos 0 ≤ℤ value_at f.edges.sum px py
sum_inner f px py is =
    subst (λ (z : ℤ). pos 0 ≤ℤ z) (sym (total_value f.edges.e0 f.edges.e1 f.edges.e2 f.edges.sum px py f.edges.total))
    (not_below_zero (value_at f.edges.e0 px py) (value_at f.edges.e1 px py) (value_at f.edges.e2 px py) is.first_inner is.second_inner is.third_inner)

pub sum_alone : (f : Face) (px py s : ℕ) → AreInnerAt f px py → pos s ≡ value_at f.edges.sum px py → IsInnerSumAt f px py s
sum_alone f px py s is sum = record { inner = is; is_sum = sum ∙ total_value f.edges.e0 f.edges.e1 f.edges.e2 f.edges.sum px py f.edges.total }
