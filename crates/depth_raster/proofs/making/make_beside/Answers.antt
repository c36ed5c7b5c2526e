use Rattle.std.proofs.Common.{get_or, subst}
use Rattle.depth_raster.specs.Strips.{IsMade}
use Rattle.depth_raster.specs.declared.strip.Strip.{Strip}
use Rattle.depth_raster.proofs.making.make_beside.Goals as goal

pub returns-clause-made : goal.returns-clause-made
returns-clause-made g c =
    let after = c.claim_strips.new.strips.items in
    λ i d below.
    let at = (c.claim_strips.ensures.each i d below).1 in
    subst (λ (s : Strip). IsMade s (get_or after i d)) at.argument_is
    (subst (λ (s : Strip). IsMade at.argument.now s) at.left at.call)
