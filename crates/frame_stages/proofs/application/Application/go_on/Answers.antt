-- The next step is taken, or merges are wanting.
use Rattle.std.proofs.Common.{arith}
use Rattle.frame_stages.specs.AppWorks.{work_of}
use Rattle.frame_stages.specs.AppAnswers.{with_back}
use Rattle.frame_stages.proofs.AppTakes.{need_waits}
use Rattle.frame_stages.proofs.application.Application.go_on.Goals as goal

pub returns-then-merges-need-clause-polled : goal.returns-then-merges-need-clause-polled
returns-then-merges-need-clause-polled g c = λ ends.
    need_waits (g.D.Desk.number c.args.desk.now) (work_of c.args.self.now) (g.D.Desk.seen c.args.desk.now) (g.D.Desk.told c.args.desk.now) (with_back (g.T.TakeEnd.taken c.args.from.now) (g.T.TakeEnd.told_sent c.args.from.now) (record { bytes = g.O.Sink.written c.args.frames.now; faults = g.O.Sink.faults c.args.frames.now; at_fault = g.O.Sink.at_fault c.args.frames.now }) ends) c.requires.bare (omega arith)

pub returns-clause-polled : goal.returns-clause-polled
returns-clause-polled g c = λ ends. c.step.ensures.polled ends
