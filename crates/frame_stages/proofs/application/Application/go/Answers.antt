-- The packet held is sent, or the next step is taken.
use Rattle.std.proofs.Common.{sym, ◌∙◌, subst}
use Rattle.frame_stages.specs.AppWorks.{AppWork, work_of}
use Rattle.frame_stages.specs.AppAnswers.{around, Polled}
use Rattle.std.proofs.Common.{Option, Ok}
use Rattle.stage_parts.specs.declared.packets.Packet.{Packet}
use Rattle.stage_parts.specs.declared.answers.Did.{Did}
use Rattle.stage_parts.specs.Answers.{did_of}
use Rattle.frame_stages.proofs.AppTakes.{held_again}
use Rattle.frame_stages.proofs.application.Application.go.Goals as goal

pub returns-in-Some-clause-polled : goal.returns-in-Some-clause-polled
returns-in-Some-clause-polled g c =
    subst (λ (d : Did). Polled (g.D.Desk.number c.args.desk.now) (Ok d) (work_of c.args.self.now) (work_of c.send.new.self) (around (g.D.Desk.seen c.args.desk.now) (g.D.Desk.told c.args.desk.now) (record { taken = g.T.TakeEnd.taken c.args.from.now; sent = g.S.SendEnd.sent c.args.to.now; told_sent = g.T.TakeEnd.told_sent c.args.from.now; told_taken = g.S.SendEnd.told_taken c.args.to.now; room = g.S.SendEnd.room c.args.to.now; sink = (record { bytes = g.O.Sink.written c.args.frames.now; faults = g.O.Sink.faults c.args.frames.now; at_fault = g.O.Sink.at_fault c.args.frames.now }) })) (around (g.D.Desk.seen c.args.desk.now) (g.D.Desk.told c.args.desk.now) (record { taken = g.T.TakeEnd.taken c.args.from.now; sent = g.S.SendEnd.sent c.send.new.to; told_sent = g.T.TakeEnd.told_sent c.args.from.now; told_taken = g.S.SendEnd.told_taken c.args.to.now; room = g.S.SendEnd.room c.args.to.now; sink = (record { bytes = g.O.Sink.written c.args.frames.now; faults = g.O.Sink.faults c.args.frames.now; at_fault = g.O.Sink.at_fault c.args.frames.now }) }))) (sym c.of.ensures)
    (subst (λ (v : AppWork). Polled (g.D.Desk.number c.args.desk.now) (Ok (did_of c.send.result)) v (work_of c.send.new.self) (around (g.D.Desk.seen c.args.desk.now) (g.D.Desk.told c.args.desk.now) (record { taken = g.T.TakeEnd.taken c.args.from.now; sent = g.S.SendEnd.sent c.args.to.now; told_sent = g.T.TakeEnd.told_sent c.args.from.now; told_taken = g.S.SendEnd.told_taken c.args.to.now; room = g.S.SendEnd.room c.args.to.now; sink = (record { bytes = g.O.Sink.written c.args.frames.now; faults = g.O.Sink.faults c.args.frames.now; at_fault = g.O.Sink.at_fault c.args.frames.now }) })) (around (g.D.Desk.seen c.args.desk.now) (g.D.Desk.told c.args.desk.now) (record { taken = g.T.TakeEnd.taken c.args.from.now; sent = g.S.SendEnd.sent c.send.new.to; told_sent = g.T.TakeEnd.told_sent c.args.from.now; told_taken = g.S.SendEnd.told_taken c.args.to.now; room = g.S.SendEnd.room c.args.to.now; sink = (record { bytes = g.O.Sink.written c.args.frames.now; faults = g.O.Sink.faults c.args.frames.now; at_fault = g.O.Sink.at_fault c.args.frames.now }) })))
    (held_again c.args.self.now c.in-Some.packet (sym c.take.ensures.value ∙ c.in-Some.is))
    (c.send.ensures.polled (g.D.Desk.number c.args.desk.now) (g.D.Desk.seen c.args.desk.now) (g.D.Desk.told c.args.desk.now) (record { taken = g.T.TakeEnd.taken c.args.from.now; sent = g.S.SendEnd.sent c.args.to.now; told_sent = g.T.TakeEnd.told_sent c.args.from.now; told_taken = g.S.SendEnd.told_taken c.args.to.now; room = g.S.SendEnd.room c.args.to.now; sink = (record { bytes = g.O.Sink.written c.args.frames.now; faults = g.O.Sink.faults c.args.frames.now; at_fault = g.O.Sink.at_fault c.args.frames.now }) })))

pub returns-in-None-clause-polled : goal.returns-in-None-clause-polled
returns-in-None-clause-polled g c =
    subst (λ (h : Option Packet). Polled (g.D.Desk.number c.args.desk.now) c.go_on.result (work_of (record c.args.self.now { held = h })) (work_of c.go_on.new.self) (around (g.D.Desk.seen c.args.desk.now) (g.D.Desk.told c.args.desk.now) (record { taken = g.T.TakeEnd.taken c.args.from.now; sent = g.S.SendEnd.sent c.args.to.now; told_sent = g.T.TakeEnd.told_sent c.args.from.now; told_taken = g.S.SendEnd.told_taken c.args.to.now; room = g.S.SendEnd.room c.args.to.now; sink = (record { bytes = g.O.Sink.written c.args.frames.now; faults = g.O.Sink.faults c.args.frames.now; at_fault = g.O.Sink.at_fault c.args.frames.now }) }))
    (around (g.D.Desk.seen c.go_on.new.desk) (g.D.Desk.told c.go_on.new.desk) (record { taken = g.T.TakeEnd.taken c.go_on.new.from; sent = g.S.SendEnd.sent c.args.to.now; told_sent = g.T.TakeEnd.told_sent c.args.from.now; told_taken = g.S.SendEnd.told_taken c.args.to.now; room = g.S.SendEnd.room c.args.to.now; sink = (record { bytes = g.O.Sink.written c.go_on.new.frames; faults = g.O.Sink.faults c.go_on.new.frames; at_fault = g.O.Sink.at_fault c.go_on.new.frames }) })))
    (c.take.ensures.after ∙ sym (sym c.take.ensures.value ∙ c.in-None.is))
    (c.go_on.ensures.polled (record { taken = g.T.TakeEnd.taken c.args.from.now; sent = g.S.SendEnd.sent c.args.to.now; told_sent = g.T.TakeEnd.told_sent c.args.from.now; told_taken = g.S.SendEnd.told_taken c.args.to.now; room = g.S.SendEnd.room c.args.to.now; sink = (record { bytes = g.O.Sink.written c.args.frames.now; faults = g.O.Sink.faults c.args.frames.now; at_fault = g.O.Sink.at_fault c.args.frames.now }) }))
