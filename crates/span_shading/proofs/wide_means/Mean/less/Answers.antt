use Rattle.std.proofs.Common.{arith}
use Rattle.std.proofs.lemmas.Int.{ints}
use Rattle.span_shading.proofs.Beside.{mean_less}
use Rattle.span_shading.proofs.wide_means.Mean.less.Goals as goal

pub returns : goal.returns
returns c = λ number step is.
    mean_less number step c.args.weight.now c.args.self.now _ is (omega (arith, c.requires.some))
    (omega (arith, ints, c.plus.ensures.value, c.plus.ensures.bound.size, c.requires.small.rest_within.size, c.args.weight.now.here_small.size))
    (omega (arith, ints, c.plus-2.ensures.value, c.plus-2.ensures.bound.size, c.requires.small.change_within.size, c.args.weight.now.step_small.size))
