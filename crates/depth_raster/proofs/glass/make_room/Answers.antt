use Rattle.std.proofs.Common.{List, ap, length, sym, subst, arith}
use Rattle.depth_raster.specs.Canvas.{Glazes}
use Rattle.depth_raster.specs.declared.pieces.Piece.{Piece}
use Rattle.depth_raster.proofs.Glazed.{kept}
use Rattle.depth_raster.proofs.glass.make_room.Goals as goal

pub returns-then-is_full : goal.returns-then-is_full
returns-then-is_full g c =
    let a = c.args in
    record {
      sound = c.flush.ensures.sound;
      room = omega (arith, ap length c.flush.ensures.empty);
      glass = subst (λ (ps : List Piece). Glazes a.lens.now a.strips.now.items a.batch.now.pieces c.flush.new.strips.items ps kept) (sym c.flush.ensures.empty) c.flush.ensures.glass;
    }
