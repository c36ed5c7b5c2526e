use Rattle.std.proofs.Common.{List, take, subst, arith}
use Rattle.std.proofs.lemmas.List.{take_all}
use Rattle.depth_raster.specs.Strips.{TilesRelate}
use Rattle.depth_raster.specs.Tiles.{pieces_glazes, ColoursFollow}
use Rattle.depth_raster.specs.declared.pieces.Piece.{Piece}
use Rattle.depth_raster.proofs.Glazed.{panes_none, panes_more, glazed_tiles_kept}
use Rattle.depth_raster.proofs.glass_strips.glaze_tiles.Goals as goal

pub loop-i-init : goal.loop-i-init
loop-i-init c = panes_none c.args.lens.now c.args.tiles.now

pub loop-i-preserved : goal.loop-i-preserved
loop-i-preserved c =
    let a = c.args in
    panes_more a.lens.now a.pieces.now c.loop-i.i c.index-pieces-i.result a.tiles.now c.loop-i.tiles c.glaze_band.new.tiles c.loop-i-test.true c.index-pieces-i.is c.loop-i.auto.tiles c.loop-i.invariant c.glaze_band.ensures

pub glaze_band-requires-clause-tiles : goal.glaze_band-requires-clause-tiles
glaze_band-requires-clause-tiles c =
    let a = c.args in
    glazed_tiles_kept (pieces_glazes a.lens.now (take c.loop-i.i a.pieces.now)) a.band.now a.tiles.now c.loop-i.tiles c.requires.tiles c.loop-i.auto.tiles c.loop-i.invariant

pub returns : goal.returns
returns c =
    let a = c.args in
    subst (λ (ps : List Piece). TilesRelate (ColoursFollow (pieces_glazes a.lens.now ps)) a.tiles.now c.loop-i.tiles) (take_all c.loop-i.i a.pieces.now (omega arith)) c.loop-i.invariant
