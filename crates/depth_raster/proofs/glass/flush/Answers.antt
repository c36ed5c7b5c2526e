use Rattle.std.proofs.Common.{List, [], subst}
use Rattle.depth_raster.specs.Strips.{StripsRelate}
use Rattle.depth_raster.specs.Tiles.{pieces_glazes, ColoursFollow}
use Rattle.depth_raster.specs.declared.pieces.Piece.{Piece}
use Rattle.depth_raster.proofs.Glazed.{kept, flushed_glass, flushed_glass_open}
use Rattle.depth_raster.proofs.MadeReady.{glazes_alike}
use Rattle.depth_raster.proofs.glass.flush.Goals as goal

pub returns : goal.returns
returns g c =
    let a = c.args in
    let lens = a.lens.now in
    let ps = a.batch.now.pieces in
    let qs = c.make_ready.new.self.pieces in
    let before = a.strips.now.items in
    let after = c.glaze_strips.new.strips.items in
    let each = subst (λ (rs : List Piece). StripsRelate (ColoursFollow (pieces_glazes lens rs)) before after) c.as_slice-2.ensures c.glaze_strips.ensures.glazed in
    let long = c.glaze_strips.ensures.many in
    record {
      sound = flushed_glass_open lens qs before after c.requires.sound long each;
      empty = c.clear.ensures.pieces;
      glass = glazes_alike lens before after ps qs [] kept c.make_ready.ensures.faces (flushed_glass lens qs before after c.requires.sound long each);
    }
