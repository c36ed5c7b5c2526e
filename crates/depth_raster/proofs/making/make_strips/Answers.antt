use Rattle.std.proofs.Common.{◌<◌, List, length, refl, subst}
use Rattle.std.specs.List.{All}
use Rattle.depth_raster.specs.declared.strip.Strip.{Strip}
use Rattle.depth_raster.proofs.Tiled.{made_strips, all_made}
use Rattle.depth_raster.proofs.making.make_strips.Goals as goal

pub returns-then-are_made : goal.returns-then-are_made
returns-then-are_made g c =
    let strips = c.args.strips.now.items in
    let some = subst (λ (ss : List Strip). All (λ s. 0 < length s.tiles.items) ss) c.deref.ensures.value (c.are_made.ensures c.if-are_made.true) in
    made_strips c.args.lens.now strips strips c.requires refl (all_made strips c.requires.each some)

pub returns : goal.returns
returns g c =
    made_strips c.args.lens.now c.args.strips.now.items c.make_beside.new.strips.items c.requires c.make_beside.ensures.many c.make_beside.ensures.made
