use Rattle.depth_raster.proofs.Foremost.{least_of}
use Rattle.depth_raster.proofs.leasts.least_mark.Goals as goal

pub returns : goal.returns
returns c =
    let least = c.least_depth-least in
    least_of c.args.face.now least.result c.saturating_sub.result least.ensures.first least.ensures.second least.ensures.third c.saturating_sub.ensures
