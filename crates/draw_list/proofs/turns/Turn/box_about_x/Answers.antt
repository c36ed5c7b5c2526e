use Rattle.std.proofs.Common.{◌≡◌, sym, subst, arith}
use Rattle.std.proofs.lemmas.Int.{to_z-of_z}
use Rattle.fx_math.specs.Plain.{Bounds, IsBox}
use Rattle.fx_math.specs.Views.{point_of, bounds_of}
use Rattle.fx_math.specs.Fixed.{apply_box}
use Rattle.fx_math.proofs.Containment.{apply_box-IsBox}
use Rattle.draw_list.specs.Steps.{pitched}
use Rattle.draw_list.proofs.ExtentLaws.{pitched_box_by}
use Rattle.draw_list.proofs.turns.Turn.box_about_x.Goals as goal

pub invariant_of-result : goal.invariant_of-result
invariant_of-result c =
    let moved : Bounds = record { lo = point_of c.corner-lo.result; hi = point_of c.corner-hi.result } in
    let m = pitched c.args.self.now.sine c.args.self.now.cosine in
    let is : moved ≡ apply_box m (bounds_of c.args.b.now) =
    pitched_box_by c.args.self.now.sine c.args.self.now.cosine (bounds_of c.args.b.now)
    c.corner-lo.result.x c.corner-lo.result.y c.corner-lo.result.z c.corner-hi.result.x c.corner-hi.result.y c.corner-hi.result.z
    c.args.b.now.ordered c.args.b.now.lo.in_range c.args.b.now.hi.in_range
    (grind (arith, to_z-of_z)) (grind (arith, to_z-of_z)) (grind (arith, to_z-of_z))
    (grind (arith, to_z-of_z)) (grind (arith, to_z-of_z)) (grind (arith, to_z-of_z)) in
    record { ordered = subst (λ (b : Bounds). IsBox b) (sym is) (apply_box-IsBox m (bounds_of c.args.b.now)) }

pub returns : goal.returns
returns c =
    pitched_box_by c.args.self.now.sine c.args.self.now.cosine (bounds_of c.args.b.now)
    c.corner-lo.result.x c.corner-lo.result.y c.corner-lo.result.z c.corner-hi.result.x c.corner-hi.result.y c.corner-hi.result.z
    c.args.b.now.ordered c.args.b.now.lo.in_range c.args.b.now.hi.in_range
    (grind (arith, to_z-of_z)) (grind (arith, to_z-of_z)) (grind (arith, to_z-of_z))
    (grind (arith, to_z-of_z)) (grind (arith, to_z-of_z)) (grind (arith, to_z-of_z))
