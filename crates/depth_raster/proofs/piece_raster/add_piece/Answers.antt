use Rattle.std.proofs.Common.{Bool, sym, ◌∙◌, subst}
use Rattle.std.specs.Prelude.{filter}
use Rattle.std.proofs.lemmas.Bool.{false≢true}
use Rattle.tri_cover.specs.Glass.{is_glass, is_drawn_before}
use Rattle.tri_cover.specs.Sorting.{sorted}
use Rattle.draw_list.specs.Lists.{instances_in}
use Rattle.depth_raster.specs.InPieces.{HasDrawn, held}
use Rattle.depth_raster.proofs.InPieces.{only_glass, glass_added}
use Rattle.depth_raster.proofs.piece_raster.add_piece.Goals as goal

pub draw_glass-requires : goal.draw_glass-requires
draw_glass-requires g c = (c.type_bounds.sync-R, c.requires.sound)

pub add_ground-requires : goal.add_ground-requires
add_ground-requires g c = (c.type_bounds.sync-R, (c.requires.sound, c.requires.ready c.if-glazing.false))

pub returns-then-glazing : goal.returns-then-glazing
returns-then-glazing g c =
    let a = c.args in
    let zs = instances_in a.list.now in
    let gs = sorted is_drawn_before (filter is_glass zs) in
    let b = a.batch.now in
    let d = c.draw_glass.new.batch in
    let strips = c.draw_glass.new.strips.items in
    record {
      sound = c.draw_glass.ensures.sound;
      ready = λ none. absurd (false≢true (sym none));
      drawn = λ xs ys h none.
          glass_added a.lens.now a.back b.is_first d.is_first a.strips.now.items strips b.pieces d.pieces xs ys zs gs (none c.if-glazing.true)
          (subst (λ (t : Bool). HasDrawn (held a.lens.now a.back t b.is_first a.strips.now.items b.pieces) xs ys) c.if-glazing.true h)
          c.draw_glass.ensures.glass;
      late = λ xs ys h yes.
          glass_added a.lens.now a.back b.is_first d.is_first a.strips.now.items strips b.pieces d.pieces xs ys (filter is_glass zs) gs (only_glass zs)
          (subst (λ (t : Bool). HasDrawn (held a.lens.now a.back t b.is_first a.strips.now.items b.pieces) xs ys) yes h)
          c.draw_glass.ensures.glass;
    }

pub returns-else-glazing : goal.returns-else-glazing
returns-else-glazing g c =
    let a = c.args in
    let b = a.batch.now in
    record {
      sound = c.add_ground.ensures.sound;
      ready = c.add_ground.ensures.ready;
      drawn = λ xs ys h none.
          c.add_ground.ensures.drawn xs ys
          (subst (λ (t : Bool). HasDrawn (held a.lens.now a.back t b.is_first a.strips.now.items b.pieces) xs ys) c.if-glazing.false h);
      late = λ xs ys h yes. absurd (false≢true (sym c.if-glazing.false ∙ yes));
    }
