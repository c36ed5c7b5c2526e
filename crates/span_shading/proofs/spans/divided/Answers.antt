use Rattle.span_shading.proofs.Words.{passed}
use Rattle.span_shading.proofs.spans.divided.Goals as goal

pub returns-clause-red : goal.returns-clause-red
returns-clause-red c = passed c.args.red c.args.weight c.quotient.result c.ranges.red c.ranges.weight c.quotient.ensures

pub returns-clause-green : goal.returns-clause-green
returns-clause-green c = passed c.args.green c.args.weight c.quotient-2.result c.ranges.green c.ranges.weight c.quotient-2.ensures

pub returns-clause-blue : goal.returns-clause-blue
returns-clause-blue c = passed c.args.blue c.args.weight c.quotient-3.result c.ranges.blue c.ranges.weight c.quotient-3.ensures
