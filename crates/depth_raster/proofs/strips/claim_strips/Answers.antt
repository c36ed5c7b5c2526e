use Rattle.std.proofs.Common.{rules, ◌≡◌, List, subst}
use Rattle.std.specs.Fork.{ChangesEach}
use Rattle.depth_raster.specs.declared.strip.Strip.{Strip}
use Rattle.depth_raster.proofs.strips.claim_strips.Goals as goal

pub returns-clause-each : goal.returns-clause-each
returns-clause-each g c =
    let claimed = c.replace-claimed in
    let same : claimed.result.items ≡ c.args.strips.now.items = search rules in
    subst (λ (ss : List Strip). ChangesEach g.F.Fn c.args.draw.now ss c.for_each.result.items) same c.for_each.ensures.each
