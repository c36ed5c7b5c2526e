use Rattle.std.proofs.Common.{sym, ◌∙◌}
use Rattle.fx_math.specs.Views.{bounds_of}
use Rattle.pf_bounds.proofs.Culling.{outside_hidden, outside_parts}
use Rattle.pf_bounds.proofs.outside.Goals as goal

pub returns-clause-hidden : goal.returns-clause-hidden
returns-clause-hidden c = λ h. outside_hidden c.args.lens.now (bounds_of c.args.b.now) (sym c.fails_a_test.ensures ∙ h)

pub returns-clause-parts : goal.returns-clause-parts
returns-clause-parts c = λ h. outside_parts c.args.lens.now (bounds_of c.args.b.now) (sym c.fails_a_test.ensures ∙ h)
