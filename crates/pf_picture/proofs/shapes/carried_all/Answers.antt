use Rattle.std.proofs.Common.{List, ◌+◌, ◌<◌, length, take, subst, sym, arith}
use Rattle.std.specs.Prelude.{map}
use Rattle.std.specs.List.{AllZip}
use Rattle.std.proofs.lemmas.List.Elements.{all_zip_more}
use Rattle.fx_math.specs.Views.{matrix_of}
use Rattle.pf_model.specs.declared.geometry.Tri.{Tri}
use Rattle.tri_cover.specs.Hits.{HitsAs}
use Rattle.pf_picture.proofs.shapes.carried_all.Goals as goal

pub loop-tri-preserved : goal.loop-tri-preserved
loop-tri-preserved c =
    let x = c.args.x.now in
    let R : Tri → Tri → Type 0 = λ t u. HitsAs t (map matrix_of x.steps.now) u in
    let within : c.loop-tri.tri-index < length x.tris.now = omega arith in
    subst (λ (us : List Tri). AllZip R (take (c.loop-tri.tri-index + 1) x.tris.now) us) (sym c.in_ok-push.ensures.items)
    (all_zip_more R x.tris.now c.loop-tri.tris.items c.loop-tri.tri-index c.tri-item.result c.carried.result within c.tri-item.is c.loop-tri.invariant c.carried.ensures)
