use Rattle.std.proofs.Common.{sym, ap, ◌∙◌}
use Rattle.play_fences.specs.Rests.{own_left}
use Rattle.play_fences.proofs.Walking.{quiet_line}
use Rattle.play_fences.proofs.fences.at_next_own.Goals as goal

pub loop-line-preserved : goal.loop-line-preserved
loop-line-preserved c =
    ap (λ n. own_left n c.in-Some.behind.now) c.waited_with-waited.ensures
    ∙ quiet_line c.loop-line.waited c.in-Some.line.now c.in-Some.behind.now (sym c.is_own_step.ensures ∙ c.if-is_own_step.false)
    ∙ ap (own_left c.loop-line.waited) (sym c.in-Some.ensures.cases.0)
    ∙ c.loop-line.invariant
