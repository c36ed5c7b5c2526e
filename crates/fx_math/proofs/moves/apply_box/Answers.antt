use Rattle.std.proofs.Common.{◌≡◌, sym, subst, arith}
use Rattle.std.proofs.lemmas.Int.{to_z-of_z}
use Rattle.fx_math.specs.Plain.{Bounds, IsBox, IsInside, Holds}
use Rattle.fx_math.specs.Views.{point_of, matrix_of, bounds_of}
use Rattle.fx_math.specs.Fixed.{apply, apply_box}
use Rattle.fx_math.proofs.Containment.{apply-holds, apply_box-IsBox, apply_box-inside}
use Rattle.fx_math.proofs.moves.apply_box.Goals as goal

pub invariant_of-result : goal.invariant_of-result
unfolding apply_box
invariant_of-result c =
    let moved : Bounds = record { lo = point_of c.moved_point-lo.result; hi = point_of c.moved_point-hi.result } in
    let is : moved ≡ apply_box (matrix_of c.args.m.now) (bounds_of c.args.b.now) = grind (arith, to_z-of_z) in
    record { ordered = subst (λ (b : Bounds). IsBox b) (sym is) (apply_box-IsBox (matrix_of c.args.m.now) (bounds_of c.args.b.now)) }

pub returns-clause-value : goal.returns-clause-value
unfolding apply_box
returns-clause-value c = grind (arith, to_z-of_z)

pub returns-clause-holds : goal.returns-clause-holds
returns-clause-holds c = λ p h.
    subst (λ (b : Bounds). Holds b (apply (matrix_of c.args.m.now) p)) (sym (returns-clause-value c))
    (apply-holds (matrix_of c.args.m.now) (bounds_of c.args.b.now) p h)

pub returns-clause-keeps_parts : goal.returns-clause-keeps_parts
returns-clause-keeps_parts c = λ part box h.
    subst (λ (b : Bounds). IsInside (apply_box (matrix_of c.args.m.now) part) b) (sym (returns-clause-value c))
    (apply_box-inside (matrix_of c.args.m.now) part (bounds_of c.args.b.now) box h)
