use Rattle.depth_raster.proofs.Mixed.{means_advanced}
use Rattle.depth_raster.proofs.means.Means.advance.Goals as goal

pub returns : goal.returns
returns c = λ f px py at.
    means_advanced f px py c.args.self.now _ at c.advance.ensures c.advance-2.ensures c.advance-3.ensures c.advance-4.ensures.here c.advance-4.ensures.step
