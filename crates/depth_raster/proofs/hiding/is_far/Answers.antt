use mir.Syntax.{w128}
use Rattle.std.proofs.Common.{FitsSigned, subst, arith, rules}
use Rattle.std.specs.Prelude.{ℤ, pos, ◌≤ℤ◌}
use Rattle.std.proofs.lemmas.Int.{to_z-of_z}
use Rattle.depth_raster.proofs.BlockHits.{depth_hidden}
use Rattle.depth_raster.proofs.hiding.is_far.Goals as goal

pub returns-then-product-face : goal.returns-then-product-face
returns-then-product-face c = λ t.
    let a = c.args in
    let z = c.greatest-sum.result in
    let fits : FitsSigned w128 c.greatest-sum.result = search rules in
    let most = subst (λ (y : ℤ). y ≤ℤ pos c.positive.result) (to_z-of_z w128 z fits) c.positive.ensures.value in
    depth_hidden a.face.now a.block.now a.limit c.positive.result z c.greatest-sum.ensures.greatest most (omega (arith, c.product.ensures, c.if-product-face.true))
