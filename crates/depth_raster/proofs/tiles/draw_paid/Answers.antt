use Rattle.std.proofs.Common.{◌≡◌, ◌≤◌, List, length, refl, ap, sym, ◌∙◌, subst, arith}
use Rattle.std.specs.List.{All}
use Rattle.depth_raster.specs.Following.{Follows}
use Rattle.depth_raster.specs.Tiles.{mark_in, within, face_over}
use Rattle.depth_raster.specs.declared.marks.Mark.{Mark}
use Rattle.depth_raster.proofs.Owing.{paid_topped}
use Rattle.depth_raster.proofs.Shared.{written}
use Rattle.depth_raster.proofs.Topped.{topped_after}
use Rattle.depth_raster.proofs.tiles.draw_paid.Goals as goal

pub greatest_within-tile-requires-clause-len : goal.greatest_within-tile-requires-clause-len
greatest_within-tile-requires-clause-len c =
    let t = c.args.tile.now in
    let new = c.draw_marks.new.marks in
    let long : length new ≡ length t.marks.items = c.draw_marks.auto.marks ∙ ap length c.deref_mut.ensures.value in
    let value : c.deref.result.now ≡ new = c.deref.ensures.0 ∙ written (length t.marks.items) new t.marks.items long refl in
    ap length value ∙ long ∙ t.marks_whole

pub greatest_within-tile-requires-clause-most : goal.greatest_within-tile-requires-clause-most
greatest_within-tile-requires-clause-most c =
    let t = c.args.tile.now in
    let f = c.args.piece.now.face in
    let b = t.block in
    let new = c.draw_marks.new.marks in
    let old : c.deref_mut.result.now ≡ t.marks.items = c.deref_mut.ensures.value in
    let long : length new ≡ length t.marks.items = c.draw_marks.auto.marks ∙ ap length old in
    let value : c.deref.result.now ≡ new = c.deref.ensures.0 ∙ written (length t.marks.items) new t.marks.items long refl in
    let drawn : Follows b.width b.rows (mark_in b t.marks.items) (mark_in b new) (within b (face_over c.args.lens.now f)) =
    subst (λ (ms : List Mark). Follows b.width b.rows (mark_in b ms) (mark_in b new) (within b (face_over c.args.lens.now f))) old c.draw_marks.ensures in
    subst (λ (ms : List Mark). All (λ m. m.depth ≤ t.top) ms) (sym value)
    (topped_after c.args.lens.now f b t.marks.items new t.top t.marks_whole (omega (arith, long, t.marks_whole)) (paid_topped t c.requires.paid) drawn)
