use Rattle.std.proofs.Common.{sym, subst, arith}
use Rattle.depth_raster.specs.Pieces.{IsMadeReady}
use Rattle.depth_raster.specs.declared.pieces.Piece.{Piece}
use Rattle.depth_raster.proofs.Tiling.{tile_drawn, tiles_begun, tiles_done}
use Rattle.depth_raster.proofs.pieces.make_ready_in_turn.Goals as goal

pub loop-i-init : goal.loop-i-init
loop-i-init c = tiles_begun (IsMadeReady c.args.lens.now) c.args.pieces.now

pub loop-i-preserved : goal.loop-i-preserved
loop-i-preserved c =
    tile_drawn (IsMadeReady c.args.lens.now) c.args.pieces.now c.loop-i.pieces c.loop-i.i c.index-pieces-i.result c.make_ready.new.self c.loop-i.invariant c.loop-i.auto.pieces
    (omega (arith, c.loop-i-test.true, c.loop-i.auto.pieces)) c.index-pieces-i.is
    (subst (λ (p : Piece). IsMadeReady c.args.lens.now p c.make_ready.new.self) (sym c.index-pieces-i.is) c.make_ready.ensures)

pub returns : goal.returns
returns c = tiles_done (IsMadeReady c.args.lens.now) c.args.pieces.now c.loop-i.pieces c.loop-i.i (omega arith) c.loop-i.invariant
