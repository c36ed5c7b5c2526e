use Rattle.std.proofs.Common.{true, false, sym, ◌∙◌}
use Rattle.play_fences.proofs.Walking.{passed}
use Rattle.play_fences.proofs.fences.behind_frames.Goals as goal
use Rattle.play_fences.proofs.fences.behind_frames.Goals.{then-is_frame_step, else-is_frame_step}

pub loop-left-preserved : goal.loop-left-preserved
loop-left-preserved c = elim c.if-is_frame_step.branch [
  | then-is_frame_step w ↦
      passed c.loop-left.left c.if-is_frame_step.left c.loop-left.waited c.waited_with-waited.result c.in-Some.line.now c.in-Some.behind.now c.loop-left.lines.now true c.loop-left-test.true (sym c.is_frame_step.ensures ∙ w.if-is_frame_step.true) w.left-is c.waited_with-waited.ensures c.in-Some.ensures.cases.0
      ∙ c.loop-left.invariant
  | else-is_frame_step w ↦
      passed c.loop-left.left c.if-is_frame_step.left c.loop-left.waited c.waited_with-waited.result c.in-Some.line.now c.in-Some.behind.now c.loop-left.lines.now false c.loop-left-test.true (sym c.is_frame_step.ensures ∙ w.if-is_frame_step.false) w.left-is c.waited_with-waited.ensures c.in-Some.ensures.cases.0
      ∙ c.loop-left.invariant
]
