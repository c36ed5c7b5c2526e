use Rattle.std.proofs.Common.{◌≡◌, sym, subst, arith}
use Rattle.std.proofs.lemmas.Int.{to_z-of_z}
use Rattle.fx_math.specs.Plain.{Bounds, IsBox, IsInside}
use Rattle.fx_math.specs.Views.{point_of, bounds_of}
use Rattle.fx_math.specs.Fixed.{hull}
use Rattle.fx_math.proofs.Containment.{hull-IsBox, hull-first, hull-second, hull-least}
use Rattle.fx_math.proofs.hulls.hull.Goals as goal

pub invariant_of-result : goal.invariant_of-result
unfolding hull
invariant_of-result c =
    let around : Bounds = record { lo = point_of c.lower_corner.result; hi = point_of c.upper_corner.result } in
    let is : around ≡ hull (bounds_of c.args.a.now) (bounds_of c.args.b.now) = grind (arith, to_z-of_z) in
    record { ordered = subst (λ (b : Bounds). IsBox b) (sym is) (hull-IsBox (bounds_of c.args.a.now) (bounds_of c.args.b.now) c.args.a.now.ordered c.args.b.now.ordered) }

pub returns-clause-value : goal.returns-clause-value
unfolding hull
returns-clause-value c = grind (arith, to_z-of_z)

pub returns-clause-holds_first : goal.returns-clause-holds_first
returns-clause-holds_first c =
    subst (λ (b : Bounds). IsInside (bounds_of c.args.a.now) b) (sym (returns-clause-value c)) (hull-first (bounds_of c.args.a.now) (bounds_of c.args.b.now))

pub returns-clause-holds_second : goal.returns-clause-holds_second
returns-clause-holds_second c =
    subst (λ (b : Bounds). IsInside (bounds_of c.args.b.now) b) (sym (returns-clause-value c)) (hull-second (bounds_of c.args.a.now) (bounds_of c.args.b.now))

pub returns-clause-least : goal.returns-clause-least
returns-clause-least c = λ around first second.
    subst (λ (b : Bounds). IsInside b around) (sym (returns-clause-value c))
    (hull-least (bounds_of c.args.a.now) (bounds_of c.args.b.now) around first second)
