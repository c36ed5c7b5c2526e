use Rattle.live_run.proofs.driving.settle.Goals as goal

pub returns-in_err-tell-clause-driven : goal.returns-in_err-tell-clause-driven
returns-in_err-tell-clause-driven g c = λ play ahead asked bytes h.
    c.tell.ensures.driven play ahead asked bytes (g.O.Sink.written c.settle.new.frames) (c.settle.ensures.driven play ahead asked bytes h)

pub returns-clause-driven : goal.returns-clause-driven
returns-clause-driven g c = λ play ahead asked bytes h.
    c.tell.ensures.driven play ahead asked bytes (g.O.Sink.written c.settle.new.frames) (c.settle.ensures.driven play ahead asked bytes h)
