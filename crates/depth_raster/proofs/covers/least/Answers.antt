use Rattle.std.proofs.Common.{◌≡◌, ◌+◌, w64, FitsSigned, to_z, of_z, sym, ◌∙◌, subst, arith, rules}
use mir.Syntax.{w128}
use Rattle.std.specs.Prelude.{ℤ, pos, ◌*ℤ◌, ◌≤ℤ◌}
use Rattle.std.proofs.lemmas.Int.{ints, to_z-of_z}
use Rattle.tri_cover.specs.Linears.{value_at}
use Rattle.depth_raster.proofs.BlockHits.{value_greatest}
use Rattle.depth_raster.proofs.covers.least.Goals as goal

pub returns : goal.returns
returns c = λ q r column row.
    let a = c.args in
    let g = a.linear.now in
    let b = a.block.now in
    let px = c.least_corner-px.result in
    let py = c.least_corner-py.result in
    let fits : FitsSigned w128 c.at.result = search rules in
    let slope_a : to_z w64 (of_z w64 g.a) ≡ g.a = omega (arith, ints, g.wide.a_within.size) in
    let slope_b : to_z w64 (of_z w64 g.b) ≡ g.b = omega (arith, ints, g.wide.b_within.size) in
    let across = subst (λ (z : ℤ). ((pos 2 *ℤ z) *ℤ pos px) ≤ℤ ((pos 2 *ℤ z) *ℤ pos (b.left + q))) slope_a (c.least_corner-px.ensures.least q column) in
    let down = subst (λ (z : ℤ). ((pos 2 *ℤ z) *ℤ pos py) ≤ℤ ((pos 2 *ℤ z) *ℤ pos (b.first + r))) slope_b (c.least_corner-py.ensures.least r row) in
    subst (λ (z : ℤ). z ≤ℤ value_at g (b.left + q) (b.first + r)) (sym (to_z-of_z w128 c.at.result fits ∙ c.at.ensures.value))
    (value_greatest g px py (b.left + q) (b.first + r) across down)
