use Rattle.std.proofs.Common.{arith}
use Rattle.depth_raster.specs.Tiles.{mark_in, within, face_over}
use Rattle.depth_raster.proofs.Skipped.{missed_left, missed_right}
use Rattle.depth_raster.proofs.Spanned.{row_by_span}
use Rattle.depth_raster.proofs.tiles.draw_line.Goals as goal

pub draw_narrow-requires-clause-inside : goal.draw_narrow-requires-clause-inside
draw_narrow-requires-clause-inside c = record {
  left = omega (arith, c.requires.start);
  right = omega (arith, c.requires.end);
  top = c.requires.top;
  bottom = c.requires.bottom;
}

pub returns : goal.returns
returns c =
    let a = c.args in
    let b = a.block.now in
    let run = a.run.now in
    row_by_span b (mark_in b a.marks.now) (mark_in b c.draw_narrow.new.marks) (within b (face_over a.lens.now a.piece.now.face)) run.r run.start run.end c.draw_narrow.ensures
    (λ q before column. missed_left a.lens.now a.piece.now b a.marks.now q run.r c.requires.ready c.requires.block column c.requires.run.row (omega (arith, before, c.requires.start)))
    (λ q behind column. missed_right a.lens.now a.piece.now b a.marks.now q run.r c.requires.ready c.requires.block column c.requires.run.row (omega (arith, behind, column, c.requires.end)))
