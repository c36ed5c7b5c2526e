use Rattle.std.proofs.Common.{arith}
use Rattle.std.proofs.lemmas.Grind.{common_steps}
use Rattle.fx_math.proofs.Surrounding.{hull_of-holds, hull_of-least}
use Rattle.fx_math.proofs.hulls.hull_of.Goals as goal

pub returns-clause-holds : goal.returns-clause-holds
returns-clause-holds c =
    hull_of-holds c.args.vs.now c.loop-v.around (grind (arith, common_steps, c.loop-v.invariant))

pub returns-clause-least : goal.returns-clause-least
returns-clause-least c =
    hull_of-least c.args.vs.now c.loop-v.around (grind (arith, common_steps, c.loop-v.invariant))
