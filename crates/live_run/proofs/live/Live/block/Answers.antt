use Rattle.std.proofs.Common.{inl}
use Rattle.live_run.proofs.TellLemmas.{on_err}
use Rattle.live_run.proofs.live.Live.block.Goals as goal

pub returns-in_err-settle-clause-failed : goal.returns-in_err-settle-clause-failed
returns-in_err-settle-clause-failed g c =
    on_err c.from_residual.result _ (λ play ahead asked bytes driven. inl (c.settle.ensures.driven play ahead asked bytes driven))

pub returns-in-Ok-clause-driven : goal.returns-in-Ok-clause-driven
returns-in-Ok-clause-driven g c = λ play ahead asked bytes driven.
    c.in-Ok.ensures.driven play ahead asked bytes (g.O.Sink.written c.settle.new.frames) (c.settle.ensures.driven play ahead asked bytes driven)

pub returns-in-Ok-clause-settled : goal.returns-in-Ok-clause-settled
returns-in-Ok-clause-settled g c = λ play ahead asked bytes driven.
    record {
      before = c.settle.new.self;
      driven = c.settle.ensures.driven play ahead asked bytes driven;
      rests = c.in_ok-settle.ensures.rests;
      seen = c.in-Ok.ensures.same_log;
      stats = c.in-Ok.ensures.same_stats;
    }

pub returns-in-Err-clause-failed : goal.returns-in-Err-clause-failed
returns-in-Err-clause-failed g c = λ play ahead asked bytes driven.
    c.in-Err.ensures.failed play ahead asked bytes (g.O.Sink.written c.settle.new.frames) (c.settle.ensures.driven play ahead asked bytes driven)
