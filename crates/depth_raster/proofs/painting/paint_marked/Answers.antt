use Rattle.std.proofs.Common.{refl, sym, ◌∙◌}
use Rattle.depth_raster.specs.Tiles.{marks_of}
use Rattle.depth_raster.proofs.Owing.{shown_in, paid_marks, painted_over}
use Rattle.depth_raster.proofs.painting.paint_marked.Goals as goal

pub returns-in-Some : goal.returns-in-Some
returns-in-Some c =
    let a = c.args in
    let t = a.tile.now in
    record {
      block = refl;
      marks = refl;
      colours = painted_over a.lens.now a.back a.pieces.now t c.deref_mut.result.now c.paint_covered.new.colours (marks_of t) c.deref_mut.ensures.value c.paint_covered.auto.colours refl
          (c.paint_covered.ensures a.back (marks_of t) (shown_in t c.in-Some.owed c.in-Some.is));
    }

pub returns-in-None : goal.returns-in-None
returns-in-None c =
    let a = c.args in
    let t = a.tile.now in
    let same = c.deref.ensures.0 ∙ sym (paid_marks t.block t.marks.items t.owed c.in-None.is) in
    record {
      block = refl;
      marks = refl;
      colours = painted_over a.lens.now a.back a.pieces.now t c.deref_mut-in-None.result.now c.paint_rows.new.colours c.deref.result.now c.deref_mut-in-None.ensures.value c.paint_rows.auto.colours same c.paint_rows.ensures;
    }
