use Rattle.std.proofs.Common.{◌≡◌, ◌*◌, ◌++◌}
use Rattle.play_gen.specs.Draws.{state_after}
use Rattle.play_gen.specs.Lines.{triangles}
use Rattle.play_gen.specs.Texts.{lines_text}
use Rattle.play_gen.proofs.texts.push_triangles.Given as goal

abbrev pub invariant-loop-made : goal.invariant-loop-made
invariant-loop-made l =
    (l.out.items ≡ l.fn.out.items ++ lines_text (triangles l.made l.fn.draws.state))
    × (l.draws.state ≡ state_after (18 * l.made) l.fn.draws.state)
