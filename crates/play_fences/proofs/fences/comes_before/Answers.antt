use Rattle.play_fences.proofs.Walking.{next_tells}
use Rattle.play_fences.proofs.fences.comes_before.Goals as goal

pub returns-in-Some : goal.returns-in-Some
returns-in-Some c = next_tells c.args.waited c.args.merge c.in-Some.field-0.now c.args.lines.now c.in-Some.ensures.value c.requires
