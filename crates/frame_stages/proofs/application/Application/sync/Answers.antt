-- A Sync, after what came back.
use Rattle.frame_stages.specs.Scripts.{next_step}
use Rattle.frame_stages.specs.AppWorks.{work_of}
use Rattle.frame_stages.proofs.AppBack.{sync_due, came_back, came_short, nothing_back}
use Rattle.frame_stages.proofs.application.Application.sync.Goals as goal

pub returns-in-Nothing-clause-polled : goal.returns-in-Nothing-clause-polled
returns-in-Nothing-clause-polled g c = λ ends.
    let t = c.in-Nothing.ensures.brings in
    nothing_back c.sync_turn.result (g.D.Desk.number c.args.desk.now) c.args.self.now c.bring_back.new.self (work_of c.sync_turn.new.self) (g.D.Desk.seen c.args.desk.now) (g.D.Desk.seen c.sync_turn.new.desk) (g.D.Desk.told c.args.desk.now) (g.D.Desk.told c.sync_turn.new.desk)
    (g.T.TakeEnd.taken c.args.from.now) (g.T.TakeEnd.taken c.bring_back.new.from) (g.T.TakeEnd.told_sent c.args.from.now) (record { bytes = g.O.Sink.written c.args.frames.now; faults = g.O.Sink.faults c.args.frames.now; at_fault = g.O.Sink.at_fault c.args.frames.now }) (record { bytes = g.O.Sink.written c.bring_back.new.sink; faults = g.O.Sink.faults c.bring_back.new.sink; at_fault = g.O.Sink.at_fault c.bring_back.new.sink }) ends t.0 t.1 t.2 t.3 (λ ends'. c.sync_turn.ensures.polled ends')

pub returns-in-Whole-clause-polled : goal.returns-in-Whole-clause-polled
returns-in-Whole-clause-polled g c = λ ends.
    let t = c.in-Whole.ensures.brings in
    came_back (g.D.Desk.number c.args.desk.now) c.args.self.now c.bring_back.new.self t.0 (g.D.Desk.seen c.args.desk.now) (g.D.Desk.told c.args.desk.now) (g.T.TakeEnd.taken c.args.from.now) (g.T.TakeEnd.taken c.bring_back.new.from) (g.T.TakeEnd.told_sent c.args.from.now) (record { bytes = g.O.Sink.written c.args.frames.now; faults = g.O.Sink.faults c.args.frames.now; at_fault = g.O.Sink.at_fault c.args.frames.now }) (record { bytes = g.O.Sink.written c.bring_back.new.sink; faults = g.O.Sink.faults c.bring_back.new.sink; at_fault = g.O.Sink.at_fault c.bring_back.new.sink }) ends t.1 c.requires.bare
    (sync_due c.args.asked c.args.self.now.synced (next_step c.args.self.now.script.rest) c.requires.next) t.2 c.requires.whole t.3

pub returns-in-Short-clause-polled : goal.returns-in-Short-clause-polled
returns-in-Short-clause-polled g c = λ ends.
    let t = c.in-Short.ensures.brings in
    came_short (g.D.Desk.number c.args.desk.now) c.args.self.now c.bring_back.new.self t.0 (g.D.Desk.seen c.args.desk.now) (g.D.Desk.seen c.stop.new.desk) (g.D.Desk.told c.args.desk.now) (g.D.Desk.told c.stop.new.desk) (g.T.TakeEnd.taken c.args.from.now) (g.T.TakeEnd.taken c.bring_back.new.from) (g.T.TakeEnd.told_sent c.args.from.now) (record { bytes = g.O.Sink.written c.args.frames.now; faults = g.O.Sink.faults c.args.frames.now; at_fault = g.O.Sink.at_fault c.args.frames.now }) (record { bytes = g.O.Sink.written c.bring_back.new.sink; faults = g.O.Sink.faults c.bring_back.new.sink; at_fault = g.O.Sink.at_fault c.bring_back.new.sink }) ends t.1 c.requires.bare
    (sync_due c.args.asked c.args.self.now.synced (next_step c.args.self.now.script.rest) c.requires.next) t.2 c.requires.whole t.3 c.stop.ensures.marks c.stop.ensures.counted
