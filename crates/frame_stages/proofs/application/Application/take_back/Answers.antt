-- A packet is taken back.
use Rattle.frame_stages.proofs.BroughtBack.{brought_back, brought_short, found_none}
use Rattle.frame_stages.proofs.application.Application.take_back.Goals as goal

pub returns-in-Nothing-clause-back : goal.returns-in-Nothing-clause-back
returns-in-Nothing-clause-back g c = λ ends.
    let t = c.in-Nothing.ensures.brings in
    found_none (g.D.Desk.number c.args.desk.now) c.args.self.now c.bring_back.new.self (g.D.Desk.seen c.args.desk.now) (g.D.Desk.told c.args.desk.now)
    (g.T.TakeEnd.taken c.args.from.now) (g.T.TakeEnd.taken c.bring_back.new.from) (g.T.TakeEnd.told_sent c.args.from.now)
    (record { bytes = g.O.Sink.written c.args.frames.now; faults = g.O.Sink.faults c.args.frames.now; at_fault = g.O.Sink.at_fault c.args.frames.now })
    (record { bytes = g.O.Sink.written c.bring_back.new.sink; faults = g.O.Sink.faults c.bring_back.new.sink; at_fault = g.O.Sink.at_fault c.bring_back.new.sink }) ends t.0 t.1 t.2 t.3

pub returns-in-Whole-clause-back : goal.returns-in-Whole-clause-back
returns-in-Whole-clause-back g c = λ ends.
    let t = c.in-Whole.ensures.brings in
    brought_back (g.D.Desk.number c.args.desk.now) c.args.self.now c.bring_back.new.self t.0 (g.D.Desk.seen c.args.desk.now) (g.D.Desk.told c.args.desk.now)
    (g.T.TakeEnd.taken c.args.from.now) (g.T.TakeEnd.taken c.bring_back.new.from) (g.T.TakeEnd.told_sent c.args.from.now)
    (record { bytes = g.O.Sink.written c.args.frames.now; faults = g.O.Sink.faults c.args.frames.now; at_fault = g.O.Sink.at_fault c.args.frames.now })
    (record { bytes = g.O.Sink.written c.bring_back.new.sink; faults = g.O.Sink.faults c.bring_back.new.sink; at_fault = g.O.Sink.at_fault c.bring_back.new.sink }) ends t.1 t.2 c.requires.whole t.3

pub returns-in-Short-clause-back : goal.returns-in-Short-clause-back
returns-in-Short-clause-back g c = λ ends.
    let t = c.in-Short.ensures.brings in
    brought_short (g.D.Desk.number c.args.desk.now) c.args.self.now c.bring_back.new.self t.0 (g.D.Desk.seen c.args.desk.now) (g.D.Desk.seen c.stop.new.desk) (g.D.Desk.told c.args.desk.now)
    (g.D.Desk.told c.stop.new.desk)
    (g.T.TakeEnd.taken c.args.from.now) (g.T.TakeEnd.taken c.bring_back.new.from) (g.T.TakeEnd.told_sent c.args.from.now)
    (record { bytes = g.O.Sink.written c.args.frames.now; faults = g.O.Sink.faults c.args.frames.now; at_fault = g.O.Sink.at_fault c.args.frames.now })
    (record { bytes = g.O.Sink.written c.bring_back.new.sink; faults = g.O.Sink.faults c.bring_back.new.sink; at_fault = g.O.Sink.at_fault c.bring_back.new.sink }) ends t.1 t.2 c.requires.whole t.3 c.stop.ensures.marks
    c.stop.ensures.counted
