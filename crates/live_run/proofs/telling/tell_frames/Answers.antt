use Rattle.live_run.proofs.TellLemmas.{on_err, stays_more, tells_more, tells_then, tells_whole}
use Rattle.live_run.proofs.telling.tell_frames.Goals as goal

pub returns-in_err-tell_frame-clause-stays : goal.returns-in_err-tell_frame-clause-stays
returns-in_err-tell_frame-clause-stays g c =
    stays_more c.args.pipe.now c.loop.pipe c.tell_frame.new.pipe c.loop.invariant.stays c.tell_frame.ensures.stays

pub returns-in_err-tell_frame-clause-front : goal.returns-in_err-tell_frame-clause-front
returns-in_err-tell_frame-clause-front g c =
    on_err c.from_residual.result _
    (tells_then c.args.frames.now c.loop.frames c.args.pipe.now c.loop.pipe c.tell_frame.new.pipe c.args.text.now.items c.loop.text.items
    c.tell_frame.new.text.items c.loop.invariant.told c.in_err-tell_frame.ensures.front)

pub returns-then-not-branch-clause-stays : goal.returns-then-not-branch-clause-stays
returns-then-not-branch-clause-stays g c =
    stays_more c.args.pipe.now c.loop.pipe c.tell_frame.new.pipe c.loop.invariant.stays c.tell_frame.ensures.stays

pub returns-then-not-branch-clause-told : goal.returns-then-not-branch-clause-told
returns-then-not-branch-clause-told g c =
    tells_more c.args.frames.now c.loop.frames c.tell_frame.new.frames c.args.pipe.now c.loop.pipe c.tell_frame.new.pipe c.args.text.now.items
    c.loop.text.items c.tell_frame.new.text.items c.loop.invariant.told c.in_ok-tell_frame.ensures.told

pub loop-preserved : goal.loop-preserved
loop-preserved g c =
    record {
      count = c.tell_frame.ensures.count;
      stays = stays_more c.args.pipe.now c.loop.pipe c.tell_frame.new.pipe c.loop.invariant.stays c.tell_frame.ensures.stays;
      told = tells_more c.args.frames.now c.loop.frames c.tell_frame.new.frames c.args.pipe.now c.loop.pipe c.tell_frame.new.pipe
          c.args.text.now.items c.loop.text.items c.tell_frame.new.text.items c.loop.invariant.told c.in_ok-tell_frame.ensures.told;
    }

pub returns-clause-front : goal.returns-clause-front
returns-clause-front g c =
    tells_whole c.args.frames.now c.loop.frames c.args.pipe.now c.loop.pipe c.args.text.now.items c.loop.text.items c.loop.invariant.told
