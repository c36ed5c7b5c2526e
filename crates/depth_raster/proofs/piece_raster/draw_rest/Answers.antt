use Rattle.std.proofs.Common.{Bool, ◌<◌, ◌∙◌, subst, arith}
use Rattle.std.specs.Prelude.{filter}
use Rattle.tri_cover.specs.Glass.{is_glass, is_drawn_before}
use Rattle.tri_cover.specs.Sorting.{sorted}
use Rattle.depth_raster.specs.InPieces.{HasDrawn, held}
use Rattle.depth_raster.proofs.InPieces.{ground_pictured, glass_pictured}
use Rattle.depth_raster.proofs.piece_raster.draw_rest.Goals as goal

pub returns-then-glazing-clause-pixels : goal.returns-then-glazing-clause-pixels
returns-then-glazing-clause-pixels g c = λ xs h px py column row.
    let a = c.args in
    let b = a.batch.now in
    let column' : px < a.lens.now.w = omega (arith, column, c.show.ensures.width, c.requires.width) in
    let row' : py < a.lens.now.h = omega (arith, row, c.show.ensures.height, c.requires.height) in
    c.show.ensures.pixels px py column' row'
    ∙ glass_pictured a.lens.now a.back b.is_first a.strips.now.items c.flush.new.strips.items b.pieces xs
    (subst (λ (t : Bool). HasDrawn (held a.lens.now a.back t b.is_first a.strips.now.items b.pieces) xs (sorted is_drawn_before (filter is_glass xs))) c.if-glazing.true h)
    c.flush.ensures.glass px py column' row'

pub returns-else-glazing-clause-pixels : goal.returns-else-glazing-clause-pixels
returns-else-glazing-clause-pixels g c = λ xs h px py column row.
    let a = c.args in
    let b = a.batch.now in
    let ends = c.finish in
    let column' : px < a.lens.now.w = omega (arith, column, ends.ensures.width, c.requires.width) in
    let row' : py < a.lens.now.h = omega (arith, row, ends.ensures.height, c.requires.height) in
    ends.ensures.pixels px py column' row'
    ∙ ground_pictured a.lens.now a.back b.is_first a.strips.now.items ends.new.strips.items b.pieces ends.new.batch.pieces xs
    (subst (λ (t : Bool). HasDrawn (held a.lens.now a.back t b.is_first a.strips.now.items b.pieces) xs (sorted is_drawn_before (filter is_glass xs))) c.if-glazing.false h)
    (record { sound = ends.ensures.sound; empty = ends.ensures.empty; drawn = ends.ensures.drawn; blank = ends.ensures.blank })
    px py column' row'
