use Rattle.std.proofs.Common.{◌<◌, arith}
use Rattle.depth_raster.proofs.Covering.{up_seen}
use Rattle.depth_raster.proofs.covers.greatest_depth.Goals as goal

pub returns : goal.returns
returns c =
    let a = c.args in
    let some : 0 < c.least_sum-sum.result = omega (arith, c.if-sum-eq0.false) in
    up_seen a.face.now a.block.now c.least_sum-sum.result c.up_to.result c.if-face-ne0.false some (c.least_sum-sum.ensures some) c.up_to.ensures
