use Rattle.std.proofs.Common.{◌+◌, ◌*◌, sym, ap, ◌∙◌, arith, append-nil}
use Rattle.play_gen.specs.Draws.{state_after}
use Rattle.play_gen.proofs.DrawLemmas.{no_draws, no_buffers, after_is}
use Rattle.play_gen.proofs.TextLemmas.{buffers_text}
use Rattle.play_gen.proofs.texts.push_buffers.Goals as goal

pub loop-made-init : goal.loop-made-init
loop-made-init c = (rw (no_buffers c.args.n) (sym (append-nil c.args.out.now.items)), sym (no_draws c.args.n))

pub loop-made-preserved : goal.loop-made-preserved
loop-made-preserved c =
    let made = c.loop-made.made in
    let kept = c.loop-made.invariant in (
      buffers_text c.args.out.now.items c.loop-made.out.items c.push_buffer.new.out.items made c.args.n c.loop-made.draws.state kept.0 kept.1 c.in_ok-push_buffer.ensures.text,
      c.in_ok-push_buffer.ensures.state ∙ ap (state_after 293) kept.1 ∙ after_is (293 * made) 293 (293 * (made + 1)) c.args.n (omega arith),
    )
