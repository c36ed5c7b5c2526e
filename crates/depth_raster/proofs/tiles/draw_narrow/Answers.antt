use Rattle.std.proofs.Common.{◌+◌, ◌-◌, sym, ◌∙◌, arith}
use Rattle.depth_raster.specs.Spans.{becomes}
use Rattle.depth_raster.specs.Tiles.{mark_in, within, face_over}
use Rattle.depth_raster.proofs.Following.{span_kept}
use Rattle.depth_raster.proofs.LineSigns.{line_inside, line_outside}
use Rattle.depth_raster.proofs.Readied.{face_hits}
use Rattle.depth_raster.proofs.Skipped.{mark_missed}
use Rattle.depth_raster.proofs.tiles.draw_narrow.Goals as goal

pub draw_inside-requires-clause-inner : goal.draw_inside-requires-clause-inner
draw_inside-requires-clause-inner c =
    let a = c.args in
    let b = a.block.now in
    let run = a.run.now in
    line_inside a.face.now (b.left + run.start) (b.left + (run.end - 1)) (b.first + run.r) a.line.now (c.is_inside.ensures.0 c.if-is_inside.true) c.requires.line

pub returns-then-is_outside : goal.returns-then-is_outside
returns-then-is_outside c =
    let a = c.args in
    let b = a.block.now in
    let run = a.run.now in
    let lens = a.lens.now in
    let p = a.piece.now in
    let missed = line_outside a.face.now (b.left + run.start) (b.left + (run.end - 1)) (b.first + run.r) a.line.now (c.is_outside.ensures.0 c.if-is_outside.true) c.requires.line in
    span_kept b (mark_in b a.marks.now) (becomes (within b (face_over lens p.face))) run.r run.start run.end
    (λ q low high column. sym (mark_missed lens (b.left + q) (b.first + run.r) p.face (mark_in b a.marks.now q run.r)
    (face_hits lens p a.face.now c.requires.ready c.requires.face (b.left + q) (b.first + run.r) (omega (arith, column, c.requires.block.columns)) (omega (arith, c.requires.run.row, c.requires.block.rows))
    ∙ missed (b.left + q) (omega (arith, low)) (omega (arith, high)))))
