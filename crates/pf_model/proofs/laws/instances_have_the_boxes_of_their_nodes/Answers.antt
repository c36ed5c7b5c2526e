use Rattle.pf_model.proofs.Numbering.{boxed, boxed_from_scratch}
use Rattle.pf_model.proofs.laws.instances_have_the_boxes_of_their_nodes.Goals as goal

pub returns-clause-scratch : goal.returns-clause-scratch
returns-clause-scratch c = boxed_from_scratch

pub returns-clause-recursion : goal.returns-clause-recursion
returns-clause-recursion c = boxed
