-- What a list draws is the same, its spans at each id.
use Rattle.pf_scene.proofs.lists.reserve.Goals as goal

pub returns-clause-same : goal.returns-clause-same
returns-clause-same c = λ i. record {
  joints = c.reserve.ensures.same_joints i;
  items = c.reserve.ensures.same_items i;
  tris = c.reserve.ensures.same_tris i;
  spans = λ id. c.reserve.ensures.same_spans id i;
}
