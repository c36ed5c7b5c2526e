use Rattle.std.proofs.Common.{◌≡◌, ◌++◌}
use Rattle.play_gen.specs.Lines.{turns}
use Rattle.play_gen.specs.Texts.{lines_text}
use Rattle.play_gen.proofs.texts.push_turns.Given as goal

abbrev pub invariant-loop-made : goal.invariant-loop-made
invariant-loop-made l = l.out.items ≡ l.fn.out.items ++ lines_text (turns l.made)
