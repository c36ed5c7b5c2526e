use Rattle.std.proofs.Common.{rules}
use Rattle.span_shading.proofs.Between.{shade_to}
use Rattle.span_shading.proofs.spans.Span.is_even.Goals as goal

pub returns-then-is_kept-2-clause-ends : goal.returns-then-is_kept-2-clause-ends
returns-then-is_kept-2-clause-ends c = search rules

pub returns-then-is_kept-2-clause-between : goal.returns-then-is_kept-2-clause-between
returns-then-is_kept-2-clause-between c = λ t. shade_to c.args.self.now c.args.count c.args.shade.now ((returns-then-is_kept-2-clause-ends c).0 t)
