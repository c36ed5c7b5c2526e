use Rattle.pf_model.proofs.Totals.{triangles_counted}
use Rattle.pf_model.proofs.laws.triangles_count_node_by_node.Goals as goal

pub returns : goal.returns
returns c = triangles_counted
