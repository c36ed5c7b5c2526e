use Rattle.std.proofs.Common.{◌≡◌, sym, ◌∙◌, subst}
use Rattle.fx_math.specs.Plain.{Bounds, IsBox}
use Rattle.fx_math.specs.Views.{point_of, bounds_of}
use Rattle.fx_math.specs.Fixed.{apply_box}
use Rattle.fx_math.specs.Steps.{shift}
use Rattle.fx_math.proofs.Containment.{apply_box-IsBox}
use Rattle.draw_list.proofs.BoxSteps.{ends, apply_box-shift}
use Rattle.draw_list.proofs.steps.shifted_box.Goals as goal

pub invariant_of-result : goal.invariant_of-result
invariant_of-result c =
    let b = bounds_of c.args.b.now in
    let t = point_of c.args.t in
    let moved : Bounds = record { lo = point_of c.sums-lo.result; hi = point_of c.sums-hi.result } in
    let is : moved ≡ apply_box (shift t) b = ends _ _ _ _ c.sums-lo.ensures c.sums-hi.ensures ∙ apply_box-shift b t c.args.b.now.ordered in
    record { ordered = subst (λ (b : Bounds). IsBox b) (sym is) (apply_box-IsBox (shift t) b) }

pub returns : goal.returns
returns c = ends _ _ _ _ c.sums-lo.ensures c.sums-hi.ensures ∙ apply_box-shift (bounds_of c.args.b.now) (point_of c.args.t) c.args.b.now.ordered
