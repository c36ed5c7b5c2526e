use Rattle.std.proofs.Common.{arith}
use Rattle.std.proofs.lemmas.Int.{ints}
use Rattle.span_shading.proofs.Beside.{mean_more}
use Rattle.span_shading.proofs.wide_means.Mean.more.Goals as goal

pub returns : goal.returns
returns c = λ number step is.
    mean_more number step c.args.weight.now c.args.self.now _ is (omega (arith, c.requires.most))
    (omega (arith, ints, c.minus.ensures.value, c.minus.ensures.bound.size, c.requires.small.rest_within.size, c.args.weight.now.here_small.size))
    (omega (arith, ints, c.minus-2.ensures.value, c.minus-2.ensures.bound.size, c.requires.small.change_within.size, c.args.weight.now.step_small.size))
