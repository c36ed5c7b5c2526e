use Rattle.std.proofs.Common.{List, ◌+◌, length, ◌<◌, take, subst, sym, arith}
use Rattle.std.specs.Prelude.{map}
use Rattle.pf_picture.specs.Drawings.{AreShapes}
use Rattle.pf_picture.specs.Instances.{instance_of}
use Rattle.pf_picture.specs.Shapes.{IsShapeOf}
use Rattle.pf_picture.specs.declared.shapes.Shape.{Shape}
use Rattle.pf_picture.proofs.Zipped.{zip_more}
use Rattle.pf_picture.proofs.drawings.shapes.Goals as goal

pub loop-instance-preserved : goal.loop-instance-preserved
loop-instance-preserved c =
    let xs = c.args.instances.now in
    let i = c.loop-instance.instance-index in
    let within : i < length xs = omega arith in
    subst (λ (ss : List Shape). AreShapes (map instance_of (take (i + 1) xs)) ss) (sym c.in_ok-push.ensures.items)
    (zip_more IsShapeOf instance_of xs i c.instance-item.result c.loop-instance.shapes.items c.in_ok-new.field-0 within c.instance-item.is c.loop-instance.invariant c.in_ok-new.ensures)
