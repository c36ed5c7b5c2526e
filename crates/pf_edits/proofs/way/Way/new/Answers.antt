use Rattle.std.proofs.Common.{Bool, List, ℕ, [], refl, sym, subst, arith}
use Rattle.std.specs.Vec.{vec_capacity}
use Rattle.pf_edits.specs.Ways.{IsMarked}
use Rattle.pf_edits.proofs.Marks.{unmarked}
use Rattle.pf_edits.proofs.way.Way.new.Goals as goal

pub invariant_of-result : goal.invariant_of-result
invariant_of-result c =
    let marks = c.in_ok-with_capacity.field-0 in
    let ids = c.in_ok-with_capacity-2.field-0 in
    subst (λ (ms : List Bool). IsMarked ms ids.items (vec_capacity marks) (vec_capacity ids)) (sym c.in_ok-with_capacity.ensures.items)
    (subst (λ (is : List ℕ). IsMarked [] is (vec_capacity marks) (vec_capacity ids)) (sym c.in_ok-with_capacity-2.ensures.items)
    (unmarked [] (vec_capacity marks) (vec_capacity ids) (omega arith) (λ _. refl) c.in_ok-with_capacity.ensures.capacity c.in_ok-with_capacity-2.ensures.capacity))
