use Rattle.std.proofs.Common.{[], ◌∙◌}
use Rattle.draw_list.specs.Lists.{instances_in}
use Rattle.depth_raster.proofs.InPieces.{nothing_drawn}
use Rattle.depth_raster.proofs.Tiled.{still_made}
use Rattle.depth_raster.proofs.raster.draw_all.Goals as goal

pub returns-clause-strips : goal.returns-clause-strips
returns-clause-strips g c = still_made c.args.lens.now c.end_picture.new.strips.items c.end_picture.ensures.strips

pub returns-clause-pixels : goal.returns-clause-pixels
returns-clause-pixels g c =
    let a = c.args in
    let b = c.begin.new.self in
    let none = nothing_drawn a.lens.now a.back b.is_first c.make_strips.new.strips.items b.pieces c.begin.ensures.first (c.begin.ensures.pieces ∙ c.requires.empty) in
    c.end_picture.ensures.pixels (instances_in a.list.now) (c.add_ground-glazing.ensures.drawn [] [] none)
