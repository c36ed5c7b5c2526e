use Rattle.std.proofs.Common.{◌≡◌, ℕ, Option, true, false, sym, ◌∙◌, subst}
use Rattle.std.specs.Option.{IfSome, IfNone}
use Rattle.std.proofs.lemmas.Bool.{both_ways}
use Rattle.tri_cover.specs.Faces.{is_covered}
use Rattle.edge_values.specs.Weights.{are_covering, IsWeightOf}
use Rattle.depth_raster.proofs.Edged.{covering, weight_is}
use Rattle.depth_raster.proofs.Looking.{hit_parts, seen}
use Rattle.depth_raster.proofs.looks.is_seen.Goals as goal

pub returns-in-Some : goal.returns-in-Some
returns-in-Some c = λ px py are inside.
    let a = c.args in
    let f = a.face.now in
    let v = a.values.now in
    let sum = subst (λ (o : Option ℕ). IfSome o (IsWeightOf v.first v.second v.third)) c.in-Some.is c.covered.ensures.some in
    let covered : is_covered f px py ≡ true = sym (covering f px py v are) ∙ sum.covering in
    seen f px py a.limit c.in-Some.sum c.depths_of.result c.are_before.result inside covered (weight_is f px py c.in-Some.sum v are sum) c.depths_of.ensures c.are_before.ensures

pub returns-in-None : goal.returns-in-None
returns-in-None c = λ px py are inside h hits.
    let a = c.args in
    let f = a.face.now in
    let v = a.values.now in
    let none = subst (λ (o : Option ℕ). IfNone o (are_covering v.first v.second v.third ≡ false)) c.in-None.is c.covered.ensures.none in
    let uncovered : is_covered f px py ≡ false = sym (covering f px py v are) ∙ none in
    absurd (both_ways (is_covered f px py) uncovered (hit_parts f px py h hits).covered)
