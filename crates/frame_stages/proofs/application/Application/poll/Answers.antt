-- A poll: it is over, or the next step is taken after a look.
use Rattle.std.proofs.Common.{true, Option, refl, sym, ◌∙◌, subst}
use Rattle.seat_lock.proofs.Logs.{found-self}
use Rattle.pf_scene.specs.Scenes.{SceneState}
use Rattle.stage_parts.specs.Answers.{is_over}
use Rattle.frame_stages.specs.AppWorks.{work_of}
use Rattle.frame_stages.specs.AppAnswers.{Around, around, Polled}
use Rattle.frame_stages.proofs.AppPolled.{over, looked}
use Rattle.frame_stages.proofs.AppLooks.{mark_seen}
use Rattle.frame_stages.proofs.application.Application.poll.Goals as goal

pub returns-then-is_done-clause-polled : goal.returns-then-is_done-clause-polled
returns-then-is_done-clause-polled g c =
    over (g.D.Desk.number c.args.desk.now) (work_of c.args.self.now) (g.D.Desk.seen c.args.desk.now) (g.D.Desk.seen c.args.desk.now) (g.D.Desk.told c.args.desk.now) (g.D.Desk.told c.args.desk.now) (record { taken = g.T.TakeEnd.taken c.args.from.now; sent = g.S.SendEnd.sent c.args.to.now; told_sent = g.T.TakeEnd.told_sent c.args.from.now; told_taken = g.S.SendEnd.told_taken c.args.to.now; room = g.S.SendEnd.room c.args.to.now; sink = record { bytes = g.O.Sink.written c.args.frames.now; faults = g.O.Sink.faults c.args.frames.now; at_fault = g.O.Sink.at_fault c.args.frames.now } }) (found-self (g.D.Desk.number c.args.desk.now) (g.D.Desk.seen c.args.desk.now)) refl

pub returns-then-is_done-clause-looked : goal.returns-then-is_done-clause-looked
returns-then-is_done-clause-looked g c = λ going. absurd (let done = c.if-is_done.true in let is = c.is_done.ensures.value in cc)

pub returns-then-sight-clause-polled : goal.returns-then-sight-clause-polled
returns-then-sight-clause-polled g c =
    over (g.D.Desk.number c.args.desk.now) (work_of c.args.self.now) (g.D.Desk.seen c.args.desk.now) (g.D.Desk.seen c.look-sight.new.desk) (g.D.Desk.told c.args.desk.now) (g.D.Desk.told c.look-sight.new.desk) (record { taken = g.T.TakeEnd.taken c.args.from.now; sent = g.S.SendEnd.sent c.args.to.now; told_sent = g.T.TakeEnd.told_sent c.args.from.now; told_taken = g.S.SendEnd.told_taken c.args.to.now; room = g.S.SendEnd.room c.args.to.now; sink = record { bytes = g.O.Sink.written c.args.frames.now; faults = g.O.Sink.faults c.args.frames.now; at_fault = g.O.Sink.at_fault c.args.frames.now } }) c.look-sight.ensures.found c.look-sight.ensures.told

pub returns-then-sight-clause-looked : goal.returns-then-sight-clause-looked
returns-then-sight-clause-looked g c = λ going.
    ((g.D.Desk.seen c.look-sight.new.desk), mark_seen (g.D.Desk.number c.args.desk.now) (g.D.Desk.seen c.args.desk.now) (g.D.Desk.seen c.look-sight.new.desk) (g.D.Desk.told c.args.desk.now) c.look-sight.result true c.look-sight.ensures.saw (sym c.if-sight.true))

pub returns-clause-polled : goal.returns-clause-polled
returns-clause-polled g c =
    let after : Around = around (g.D.Desk.seen c.go.new.desk) (g.D.Desk.told c.go.new.desk) (record { taken = g.T.TakeEnd.taken c.go.new.from; sent = g.S.SendEnd.sent c.go.new.to; told_sent = g.T.TakeEnd.told_sent c.args.from.now; told_taken = g.S.SendEnd.told_taken c.args.to.now; room = g.S.SendEnd.room c.args.to.now; sink = record { bytes = g.O.Sink.written c.go.new.frames; faults = g.O.Sink.faults c.go.new.frames; at_fault = g.O.Sink.at_fault c.go.new.frames } }) in
    looked c.go.result (g.D.Desk.number c.args.desk.now) (work_of c.args.self.now) (work_of c.go.new.self) (g.D.Desk.seen c.args.desk.now) (g.D.Desk.seen c.look-sight.new.desk) (g.D.Desk.told c.args.desk.now) (record { taken = g.T.TakeEnd.taken c.args.from.now; sent = g.S.SendEnd.sent c.args.to.now; told_sent = g.T.TakeEnd.told_sent c.args.from.now; told_taken = g.S.SendEnd.told_taken c.args.to.now; room = g.S.SendEnd.room c.args.to.now; sink = record { bytes = g.O.Sink.written c.args.frames.now; faults = g.O.Sink.faults c.args.frames.now; at_fault = g.O.Sink.at_fault c.args.frames.now } }) after c.look-sight.ensures.found
    (subst (λ k. Polled k c.go.result (work_of c.args.self.now) (work_of c.go.new.self) (around (g.D.Desk.seen c.look-sight.new.desk) (g.D.Desk.told c.args.desk.now) (record { taken = g.T.TakeEnd.taken c.args.from.now; sent = g.S.SendEnd.sent c.args.to.now; told_sent = g.T.TakeEnd.told_sent c.args.from.now; told_taken = g.S.SendEnd.told_taken c.args.to.now; room = g.S.SendEnd.room c.args.to.now; sink = record { bytes = g.O.Sink.written c.args.frames.now; faults = g.O.Sink.faults c.args.frames.now; at_fault = g.O.Sink.at_fault c.args.frames.now } })) after) c.look-sight.ensures.number
    (subst (λ (t : Option SceneState). Polled (g.D.Desk.number c.look-sight.new.desk) c.go.result (work_of c.args.self.now) (work_of c.go.new.self) (around (g.D.Desk.seen c.look-sight.new.desk) t (record { taken = g.T.TakeEnd.taken c.args.from.now; sent = g.S.SendEnd.sent c.args.to.now; told_sent = g.T.TakeEnd.told_sent c.args.from.now; told_taken = g.S.SendEnd.told_taken c.args.to.now; room = g.S.SendEnd.room c.args.to.now; sink = record { bytes = g.O.Sink.written c.args.frames.now; faults = g.O.Sink.faults c.args.frames.now; at_fault = g.O.Sink.at_fault c.args.frames.now } })) after)
    c.look-sight.ensures.told c.go.ensures.polled))

pub returns-clause-done : goal.returns-clause-done
returns-clause-done g c = λ done. absurd (let going = c.if-is_done.false in let is = c.is_done.ensures.value in cc)

pub returns-clause-looked : goal.returns-clause-looked
returns-clause-looked g c = λ going.
    ((g.D.Desk.seen c.look-sight.new.desk), mark_seen (g.D.Desk.number c.args.desk.now) (g.D.Desk.seen c.args.desk.now) (g.D.Desk.seen c.look-sight.new.desk) (g.D.Desk.told c.args.desk.now) c.look-sight.result (is_over c.go.result) c.look-sight.ensures.saw (c.go.ensures.on ∙ sym c.if-sight.false))
