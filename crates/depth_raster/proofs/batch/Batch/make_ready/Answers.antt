use Rattle.depth_raster.proofs.MadeReady.{faces_kept}
use Rattle.depth_raster.proofs.batch.Batch.make_ready.Goals as goal

pub returns-clause-faces : goal.returns-clause-faces
returns-clause-faces g c = faces_kept c.args.lens.now c.args.self.now.pieces c.make_ready.new.self c.make_ready.ensures.count c.make_ready.ensures.ready
