use Rattle.pf_model.proofs.Levels.{low_at}
use Rattle.bound_cache.proofs.table.BoxTable.reach.Goals as goal

pub returns-clause-right : goal.returns-clause-right
returns-clause-right g c = λ low. c.visit.ensures.right low (low_at (g.V.NodeView.look c.args.scene.now) c.args.id (low c.args.id))
