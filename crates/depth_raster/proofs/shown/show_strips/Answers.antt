use Rattle.std.proofs.Common.{get_or, subst}
use Rattle.depth_raster.specs.Shown.{IsSeenAs}
use Rattle.depth_raster.specs.declared.strip.Strip.{Strip}
use Rattle.depth_raster.proofs.Handed.{same_strips}
use Rattle.depth_raster.proofs.shown.show_strips.Goals as goal

pub returns-clause-strips : goal.returns-clause-strips
returns-clause-strips g c =
    let before = c.args.strips.now.items in
    let after = c.claim_strips.new.strips.items in
    same_strips before after
    (λ i d below.
    let at = (c.claim_strips.ensures.each i d below).1 in
    subst (λ (s : Strip). IsSeenAs s (get_or after i d)) at.argument_is
    (subst (λ (s : Strip). IsSeenAs at.argument.now s) at.left at.call.0))
