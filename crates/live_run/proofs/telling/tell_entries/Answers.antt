use Rattle.std.proofs.Common.{◌∙◌}
use Rattle.live_run.proofs.TellLemmas.{on_err, stays_more, tells_more, tells_then}
use Rattle.live_run.proofs.telling.tell_entries.Goals as goal

pub returns-in_err-tell_block-clause-stays : goal.returns-in_err-tell_block-clause-stays
returns-in_err-tell_block-clause-stays g c =
    stays_more c.args.pipe.now c.loop.pipe c.tell_block.new.pipe c.loop.invariant.stays c.tell_block.ensures.stays

pub returns-in_err-tell_block-clause-front : goal.returns-in_err-tell_block-clause-front
returns-in_err-tell_block-clause-front g c =
    on_err c.from_residual.result _
    (λ n. tells_then n n c.args.pipe.now c.loop.pipe c.tell_block.new.pipe c.args.text.now.items c.loop.text.items c.tell_block.new.text.items
    (c.loop.invariant.told n) (c.in_err-tell_block.ensures.front n))

pub loop-preserved : goal.loop-preserved
loop-preserved g c =
    record {
      stays = stays_more c.args.pipe.now c.loop.pipe c.tell_block.new.pipe c.loop.invariant.stays c.tell_block.ensures.stays;
      numbers = c.tell_block.ensures.numbers ∙ c.loop.invariant.numbers;
      told = λ n. tells_more n n n c.args.pipe.now c.loop.pipe c.tell_block.new.pipe c.args.text.now.items c.loop.text.items
          c.tell_block.new.text.items (c.loop.invariant.told n) (c.in_ok-tell_block.ensures.told n);
    }

pub returns-then-not-branch-clause-stays : goal.returns-then-not-branch-clause-stays
returns-then-not-branch-clause-stays g c =
    stays_more c.args.pipe.now c.loop.pipe c.tell_block.new.pipe c.loop.invariant.stays c.tell_block.ensures.stays

pub returns-then-not-branch-clause-told : goal.returns-then-not-branch-clause-told
returns-then-not-branch-clause-told g c = λ n.
    tells_more n n n c.args.pipe.now c.loop.pipe c.tell_block.new.pipe c.args.text.now.items c.loop.text.items c.tell_block.new.text.items
    (c.loop.invariant.told n) (c.in_ok-tell_block.ensures.told n)
