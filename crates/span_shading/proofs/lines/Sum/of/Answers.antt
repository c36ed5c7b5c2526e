use Rattle.span_shading.proofs.Sizes.{step_within}
use Rattle.span_shading.proofs.lines.Sum.of.Goals as goal

pub invariant_of-result-clause-step_small : goal.invariant_of-result-clause-step_small
invariant_of-result-clause-step_small c =
    let a = c.args in
    step_within a.x a.y a.z a.first.now a.second.now a.third.now c.mixed-2.result c.ranges.x.fits c.ranges.y.fits c.ranges.z.fits c.mixed-2.ensures.value
