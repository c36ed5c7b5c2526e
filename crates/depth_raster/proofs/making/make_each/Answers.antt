use Rattle.std.proofs.Common.{sym, subst, arith}
use Rattle.depth_raster.specs.Strips.{IsToBe, IsMade}
use Rattle.depth_raster.specs.declared.strip.Strip.{Strip}
use Rattle.depth_raster.proofs.Tiling.{tile_drawn, tiles_begun, tiles_done}
use Rattle.depth_raster.proofs.making.make_each.Goals as goal

pub loop-i-init : goal.loop-i-init
loop-i-init c = tiles_begun IsMade c.args.strips.now

pub make_tiles-requires : goal.make_tiles-requires
make_tiles-requires c =
    let a = c.args in
    let s = c.index-strips-i.result in
    let is = c.index-strips-i.is in
    subst (λ (t : Strip). IsToBe t) (sym (c.loop-i.invariant.ahead c.loop-i.i s (omega arith))) (c.requires c.loop-i.i s (omega (arith, c.loop-i-test.true, c.loop-i.auto.strips)))

pub loop-i-preserved : goal.loop-i-preserved
loop-i-preserved c =
    let a = c.args in
    tile_drawn IsMade a.strips.now c.loop-i.strips c.loop-i.i c.index-strips-i.result c.make_tiles.new.strip c.loop-i.invariant c.loop-i.auto.strips
    (omega (arith, c.loop-i-test.true, c.loop-i.auto.strips)) c.index-strips-i.is
    (subst (λ (s : Strip). IsMade s c.make_tiles.new.strip) (sym c.index-strips-i.is) c.make_tiles.ensures)

pub returns : goal.returns
returns c = tiles_done IsMade c.args.strips.now c.loop-i.strips c.loop-i.i (omega arith) c.loop-i.invariant
