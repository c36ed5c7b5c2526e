use Rattle.std.proofs.Common.{ℕ, ◌+◌, ◌-◌, ◌<◌, sym, subst, arith, ⊎_elim}
use Rattle.std.proofs.lemmas.Bool.{cases_lt}
use Rattle.depth_raster.specs.Narrow.{IsLineAt}
use Rattle.depth_raster.specs.Small.{IsSmallFace}
use Rattle.depth_raster.specs.Tiles.{mark_in, within, face_over}
use Rattle.depth_raster.proofs.Falling.{falls_fit, line_fallen}
use Rattle.depth_raster.proofs.Following.{row_more}
use Rattle.depth_raster.proofs.Skipped.{mark_missed, rows_skipped, rows_rest}
use Rattle.depth_raster.proofs.tiles.draw_lines.Goals as goal

-- no row of the block is among those of the piece
pub returns-then-bottom-top : goal.returns-then-bottom-top
returns-then-bottom-top c = λ q r column row.
    let a = c.args in
    let b = a.block.now in
    let f = a.piece.now.face in
    let px : b.left + q < a.lens.now.w = omega (arith, column, c.requires.block.columns) in
    let py : b.first + r < a.lens.now.h = omega (arith, row, c.requires.block.rows) in
    ⊎_elim
    (λ before. sym (mark_missed a.lens.now (b.left + q) (b.first + r) f (mark_in b a.marks.now q r)
    (c.requires.ready.extent.above (b.left + q) (b.first + r) px py (omega (arith, before, c.rows_from-top.ensures)))))
    (λ behind. sym (mark_missed a.lens.now (b.left + q) (b.first + r) f (mark_in b a.marks.now q r)
    (c.requires.ready.extent.below (b.left + q) (b.first + r) px py (omega (arith, behind, row, c.rows_to-bottom.ensures, c.if-bottom-top.true)))))
    (cases_lt r c.rows_from-top.result)

pub small_falls_of-falls-requires : goal.small_falls_of-falls-requires
small_falls_of-falls-requires c = record { small = c.requires.ready.small c.requires.small c.args.face.now c.requires.face }

pub small_line-line-requires-clause-small : goal.small_line-line-requires-clause-small
small_line-line-requires-clause-small c = c.requires.ready.small c.requires.small c.args.face.now c.requires.face

pub loop-r-init : goal.loop-r-init
loop-r-init c =
    let a = c.args in
    let b = a.block.now in
    let f = a.piece.now.face in
    record {
      drawn = rows_skipped b (mark_in b a.marks.now) (within b (face_over a.lens.now f)) c.rows_from-top.result
          (λ q r column row above. mark_missed a.lens.now (b.left + q) (b.first + r) f (mark_in b a.marks.now q r) (c.requires.ready.extent.above (b.left + q) (b.first + r) (omega (arith, column, c.requires.block.columns)) (omega (arith, row, c.requires.block.rows)) (omega (arith, above, c.rows_from-top.ensures))));
      line = c.small_line-line.ensures;
    }

pub line_below-line-requires-clause-start : goal.line_below-line-requires-clause-start
line_below-line-requires-clause-start c =
    let a = c.args in
    let b = a.block.now in
    let small : IsSmallFace a.face.now = c.requires.ready.small c.requires.small a.face.now c.requires.face in
    falls_fit a.face.now (b.left + a.start) (b.first + c.loop-r.r) c.loop-r.line.start c.small_falls_of-falls.result small
    (omega (arith, c.requires.some, c.requires.end, c.requires.block.columns, a.lens.now.in_range.most_width))
    (omega (arith, c.loop-r-test.true, c.rows_to-bottom.ensures, c.requires.block.rows, a.lens.now.in_range.most_height))
    c.loop-r.invariant.line.start c.small_falls_of-falls.ensures.falls

pub line_below-line-requires-clause-last : goal.line_below-line-requires-clause-last
line_below-line-requires-clause-last c =
    let a = c.args in
    let b = a.block.now in
    let small : IsSmallFace a.face.now = c.requires.ready.small c.requires.small a.face.now c.requires.face in
    falls_fit a.face.now (b.left + (a.end - 1)) (b.first + c.loop-r.r) c.loop-r.line.last c.small_falls_of-falls.result small
    (omega (arith, c.requires.some, c.requires.end, c.requires.block.columns, a.lens.now.in_range.most_width))
    (omega (arith, c.loop-r-test.true, c.rows_to-bottom.ensures, c.requires.block.rows, a.lens.now.in_range.most_height))
    c.loop-r.invariant.line.last c.small_falls_of-falls.ensures.falls

pub loop-r-preserved : goal.loop-r-preserved
loop-r-preserved c =
    let a = c.args in
    let b = a.block.now in
    let small : IsSmallFace a.face.now = c.requires.ready.small c.requires.small a.face.now c.requires.face in
    record {
      drawn = row_more b (mark_in b a.marks.now) (mark_in b c.loop-r.marks) (mark_in b c.draw_line.new.marks) (within b (face_over a.lens.now a.piece.now.face)) c.loop-r.r c.loop-r.invariant.drawn c.draw_line.ensures;
      line = subst (λ (n : ℕ). IsLineAt a.face.now (b.left + a.start) (b.left + (a.end - 1)) n c.line_below-line.result) (omega arith)
          (line_fallen a.face.now (b.left + a.start) (b.left + (a.end - 1)) (b.first + c.loop-r.r) c.loop-r.line c.line_below-line.result c.small_falls_of-falls.result small
          (omega (arith, c.requires.some, c.requires.end, c.requires.block.columns, a.lens.now.in_range.most_width))
          (omega (arith, c.loop-r-test.true, c.rows_to-bottom.ensures, c.requires.block.rows, a.lens.now.in_range.most_height))
          c.loop-r.invariant.line c.small_falls_of-falls.ensures.falls c.line_below-line.ensures.start c.line_below-line.ensures.last c.line_below-line.ensures.steps);
    }

pub returns : goal.returns
returns c =
    let a = c.args in
    let b = a.block.now in
    let f = a.piece.now.face in
    rows_rest b (mark_in b a.marks.now) (mark_in b c.loop-r.marks) (within b (face_over a.lens.now f)) c.loop-r.r c.loop-r.invariant.drawn
    (λ q r column below row. mark_missed a.lens.now (b.left + q) (b.first + r) f (mark_in b a.marks.now q r)
    (c.requires.ready.extent.below (b.left + q) (b.first + r) (omega (arith, column, c.requires.block.columns)) (omega (arith, row, c.requires.block.rows)) (omega (arith, below, row, c.rows_to-bottom.ensures))))
