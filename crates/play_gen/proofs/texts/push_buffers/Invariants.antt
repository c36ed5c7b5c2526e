use Rattle.std.proofs.Common.{◌≡◌, ◌*◌, ◌++◌}
use Rattle.play_gen.specs.Draws.{state_after}
use Rattle.play_gen.specs.Lines.{buffers}
use Rattle.play_gen.specs.Texts.{lines_text}
use Rattle.play_gen.proofs.texts.push_buffers.Given as goal

abbrev pub invariant-loop-made : goal.invariant-loop-made
invariant-loop-made l =
    (l.out.items ≡ l.fn.out.items ++ lines_text (buffers l.made l.n)) × (l.draws.state ≡ state_after (293 * l.made) l.n)
