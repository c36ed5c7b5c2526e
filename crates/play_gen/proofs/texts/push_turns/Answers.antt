use Rattle.std.proofs.Common.{sym, append-nil}
use Rattle.play_gen.proofs.DrawLemmas.{no_turns}
use Rattle.play_gen.proofs.TextLemmas.{turns_text}
use Rattle.play_gen.proofs.texts.push_turns.Goals as goal

pub loop-made-init : goal.loop-made-init
loop-made-init c = rw no_turns (sym (append-nil c.args.out.now.items))

pub loop-made-preserved : goal.loop-made-preserved
loop-made-preserved c =
    turns_text c.args.out.now.items c.loop-made.out.items c.push_turn.new.out.items c.loop-made.made c.loop-made.invariant c.in_ok-push_turn.ensures
