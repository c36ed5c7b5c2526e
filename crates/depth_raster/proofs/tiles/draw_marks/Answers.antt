use Rattle.std.proofs.Common.{◌+◌, sym, arith, ⊎_elim}
use Rattle.std.proofs.lemmas.Bool.{cases_lt}
use Rattle.depth_raster.specs.Tiles.{mark_in, within, face_over}
use Rattle.depth_raster.proofs.Skipped.{mark_missed, missed_left, missed_right, rows_skipped, rows_rest}
use Rattle.depth_raster.proofs.tiles.draw_marks.Goals as goal

pub loop-r-init : goal.loop-r-init
loop-r-init c =
    let a = c.args in
    let b = a.block.now in
    let f = a.piece.now.face in
    rows_skipped b (mark_in b a.marks.now) (within b (face_over a.lens.now f)) c.rows_from-r.result
    (λ q r column row above. mark_missed a.lens.now (b.left + q) (b.first + r) f (mark_in b a.marks.now q r) (c.requires.ready.extent.above (b.left + q) (b.first + r) (omega (arith, column, c.requires.block.columns)) (omega (arith, row, c.requires.block.rows)) (omega (arith, above, c.rows_from-r.ensures))))

pub returns : goal.returns
returns c =
    let a = c.args in
    let b = a.block.now in
    let f = a.piece.now.face in
    rows_rest b (mark_in b a.marks.now) (mark_in b c.loop-r.marks) (within b (face_over a.lens.now f)) c.loop-r.r c.loop-r.invariant
    (λ q r column below row. mark_missed a.lens.now (b.left + q) (b.first + r) f (mark_in b a.marks.now q r)
    (c.requires.ready.extent.below (b.left + q) (b.first + r) (omega (arith, column, c.requires.block.columns)) (omega (arith, row, c.requires.block.rows)) (omega (arith, below, row, c.rows_to-r-end.ensures))))

-- no column of the block is among those of the piece
pub returns-then-end-start : goal.returns-then-end-start
returns-then-end-start c = λ q r column row.
    let a = c.args in
    let p = a.piece.now in
    let b = a.block.now in
    ⊎_elim
    (λ before. sym (missed_left a.lens.now p b a.marks.now q r c.requires.ready c.requires.block column row (omega (arith, before, c.columns_from-start.ensures))))
    (λ behind. sym (missed_right a.lens.now p b a.marks.now q r c.requires.ready c.requires.block column row (omega (arith, behind, column, c.columns_to-end.ensures, c.if-end-start.true))))
    (cases_lt q c.columns_from-start.result)
