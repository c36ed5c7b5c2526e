use Rattle.std.proofs.Common.{◌+◌, ◌*◌, sym, ap, ◌∙◌, arith, append-nil}
use Rattle.play_gen.specs.Draws.{state_after}
use Rattle.play_gen.proofs.DrawLemmas.{no_draws, no_triangles, after_is}
use Rattle.play_gen.proofs.TextLemmas.{triangles_text}
use Rattle.play_gen.proofs.texts.push_triangles.Goals as goal

pub loop-made-init : goal.loop-made-init
loop-made-init c =
    (rw (no_triangles c.args.draws.now.state) (sym (append-nil c.args.out.now.items)), sym (no_draws c.args.draws.now.state))

pub loop-made-preserved : goal.loop-made-preserved
loop-made-preserved c =
    let made = c.loop-made.made in
    let start = c.args.draws.now.state in
    let kept = c.loop-made.invariant in (
      triangles_text c.args.out.now.items c.loop-made.out.items c.push_triangle.new.out.items made start c.loop-made.draws.state kept.0 kept.1 c.in_ok-push_triangle.ensures.text,
      c.in_ok-push_triangle.ensures.state ∙ ap (state_after 18) kept.1 ∙ after_is (18 * made) 18 (18 * (made + 1)) start (omega arith),
    )
