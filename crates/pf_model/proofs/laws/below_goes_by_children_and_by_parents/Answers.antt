use Rattle.pf_model.proofs.Between.{by_child, child_above, by_parent, parent_below, below_through}
use Rattle.pf_model.proofs.laws.below_goes_by_children_and_by_parents.Goals as goal

pub returns-clause-children : goal.returns-clause-children
returns-clause-children c = λ look low a b. (by_child look low a b, child_above look low a b)

pub returns-clause-parents : goal.returns-clause-parents
returns-clause-parents c = λ look low a b. (by_parent look low a b, parent_below look low a b)

pub returns-clause-through : goal.returns-clause-through
returns-clause-through c = below_through
