use Rattle.std.proofs.Common.{sym, ◌∙◌}
use Rattle.std.proofs.lemmas.Bool.{false≢true}
use Rattle.draw_list.specs.Lists.{instances_in}
use Rattle.depth_raster.proofs.InPieces.{ground_added, glass_begun}
use Rattle.depth_raster.proofs.piece_raster.add_ground.Goals as goal

pub returns-then-has_glass : goal.returns-then-has_glass
returns-then-has_glass g c =
    let a = c.args in
    let b = c.draw_opaque.new.batch in
    let d = c.flush.new.batch in
    let e = c.draw_glass.new.batch in
    record {
      sound = c.draw_glass.ensures.sound;
      ready = λ none. absurd (false≢true (sym none));
      drawn = λ xs ys h.
          glass_begun a.lens.now a.back a.batch.now.is_first b.is_first e.is_first
          a.strips.now.items c.draw_opaque.new.strips.items c.flush.new.strips.items c.draw_glass.new.strips.items
          a.batch.now.pieces b.pieces d.pieces e.pieces
          xs ys (instances_in a.list.now) (sym c.has_glass.ensures ∙ c.if-has_glass.true) h c.draw_opaque.ensures.drawn
          (record { sound = c.flush.ensures.sound; empty = c.flush.ensures.empty; drawn = c.flush.ensures.drawn; blank = c.flush.ensures.blank })
          c.draw_glass.ensures.glass;
    }

pub returns-else-has_glass : goal.returns-else-has_glass
returns-else-has_glass g c =
    let a = c.args in
    let b = c.draw_opaque.new.batch in
    record {
      sound = c.draw_opaque.ensures.sound;
      ready = λ none. c.draw_opaque.ensures.ready;
      drawn = λ xs ys h.
          ground_added a.lens.now a.back a.batch.now.is_first b.is_first a.strips.now.items c.draw_opaque.new.strips.items
          a.batch.now.pieces b.pieces xs ys (instances_in a.list.now)
          (sym c.has_glass.ensures ∙ c.if-has_glass.false) h c.draw_opaque.ensures.drawn;
    }
