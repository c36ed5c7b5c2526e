use Rattle.std.proofs.Common.{◌+◌, sym, ◌∙◌, arith}
use Rattle.depth_raster.specs.Tiles.{mark_in}
use Rattle.depth_raster.proofs.Owing.{owed_written}
use Rattle.depth_raster.proofs.Readied.{nothing_hit}
use Rattle.depth_raster.proofs.Skipped.{mark_missed}
use Rattle.depth_raster.proofs.owed.write.Goals as goal

pub returns-in-Some : goal.returns-in-Some
returns-in-Some c =
    let a = c.args in
    owed_written a.block.now a.owed.now a.marks.now c.draw_marks.new.marks c.requires.len (c.draw_marks.auto.marks ∙ c.requires.len) c.requires.unwritten c.draw_marks.ensures

pub returns-in-None : goal.returns-in-None
returns-in-None c =
    let a = c.args in
    let b = a.block.now in
    let o = a.owed.now in
    owed_written b o a.marks.now a.marks.now c.requires.len c.requires.len c.requires.unwritten
    (λ q r column row. sym (mark_missed o.lens (b.left + q) (b.first + r) o.piece.face (mark_in b a.marks.now q r)
    (nothing_hit o.lens o.piece c.requires.owed.piece c.in-None.is (b.left + q) (b.first + r) (omega (arith, column, c.requires.owed.block.columns)) (omega (arith, row, c.requires.owed.block.rows)))))
