-- The next step is taken.
use Rattle.frame_stages.specs.AppAnswers.{with_back}
use Rattle.frame_stages.proofs.application.Application.step.Goals as goal

pub returns-in-Edit-clause-polled : goal.returns-in-Edit-clause-polled
returns-in-Edit-clause-polled g c = λ ends. c.edit.ensures.polled (with_back (g.T.TakeEnd.taken c.args.from.now) (g.T.TakeEnd.told_sent c.args.from.now) (record { bytes = g.O.Sink.written c.args.frames.now; faults = g.O.Sink.faults c.args.frames.now; at_fault = g.O.Sink.at_fault c.args.frames.now }) ends)

pub returns-in-View-clause-polled : goal.returns-in-View-clause-polled
returns-in-View-clause-polled g c = λ ends. c.view.ensures.polled (with_back (g.T.TakeEnd.taken c.args.from.now) (g.T.TakeEnd.told_sent c.args.from.now) (record { bytes = g.O.Sink.written c.args.frames.now; faults = g.O.Sink.faults c.args.frames.now; at_fault = g.O.Sink.at_fault c.args.frames.now }) ends)

pub returns-then-self-clause-polled : goal.returns-then-self-clause-polled
returns-then-self-clause-polled g c = λ ends. c.frame.ensures.polled (with_back (g.T.TakeEnd.taken c.args.from.now) (g.T.TakeEnd.told_sent c.args.from.now) (record { bytes = g.O.Sink.written c.args.frames.now; faults = g.O.Sink.faults c.args.frames.now; at_fault = g.O.Sink.at_fault c.args.frames.now }) ends)
