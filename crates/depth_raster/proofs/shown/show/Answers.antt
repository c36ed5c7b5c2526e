use Rattle.std.proofs.Common.{◌∙◌}
use Rattle.depth_raster.proofs.Handed.{IsSame, same_kept, same_colours, strips_then_same}
use Rattle.depth_raster.proofs.PixelTiles.{strips_within}
use Rattle.depth_raster.proofs.shown.show.Goals as goal

pub show_strips-requires : goal.show_strips-requires
show_strips-requires g c =
    (c.type_bounds.sync-R, λ i d below. (strips_within c.args.lens.now c.args.strips.now.items c.requires.strips i d below).tiles)

pub hand_over-requires-clause-strips : goal.hand_over-requires-clause-strips
hand_over-requires-clause-strips g c =
    let shows = c.show_strips in
    same_kept c.args.lens.now c.args.strips.now.items shows.new.strips.items c.requires.strips shows.ensures.many shows.ensures.strips

pub returns-clause-strips : goal.returns-clause-strips
returns-clause-strips g c =
    let before = c.args.strips.now.items in
    let shows = c.show_strips in
    let ends = c.hand_over in
    let mid = shows.new.strips.items in
    same_kept c.args.lens.now before ends.new.strips.items c.requires.strips (ends.ensures.many ∙ shows.ensures.many)
    (strips_then_same IsSame before mid ends.new.strips.items shows.ensures.many shows.ensures.strips ends.ensures.strips)

pub returns-clause-pixels : goal.returns-clause-pixels
returns-clause-pixels g c = λ px py column row.
    let before = c.args.strips.now.items in
    let shows = c.show_strips in
    let ends = c.hand_over in
    let mid = shows.new.strips.items in
    ends.ensures.pixels px py column row
    ∙ same_colours c.args.lens.now before ends.new.strips.items c.requires.strips (ends.ensures.many ∙ shows.ensures.many)
    (strips_then_same IsSame before mid ends.new.strips.items shows.ensures.many shows.ensures.strips ends.ensures.strips) px py column row
