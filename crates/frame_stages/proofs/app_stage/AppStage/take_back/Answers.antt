-- A packet is taken back: a line stays passed for each frame.
use Rattle.frame_stages.specs.AppWorks.{work_of}
use Rattle.frame_stages.specs.AppAnswers.{around, with_back}
use Rattle.frame_stages.proofs.BroughtBack.{back_passes, no_ends}
use Rattle.frame_stages.proofs.app_stage.AppStage.take_back.Goals as goal

pub invariant_of-self : goal.invariant_of-self
invariant_of-self g c =
    back_passes c.take_back.result (g.D.Desk.number c.args.desk.now) (work_of c.self.inside.parts) (work_of c.take_back.new.self)
    (around (g.D.Desk.seen c.args.desk.now) (g.D.Desk.told c.args.desk.now)
    (with_back (g.T.TakeEnd.taken c.args.from_draw.now) (g.T.TakeEnd.told_sent c.args.from_draw.now)
    (record { bytes = g.O.Sink.written c.args.frames.now; faults = g.O.Sink.faults c.args.frames.now; at_fault = g.O.Sink.at_fault c.args.frames.now }) no_ends))
    (around (g.D.Desk.seen c.take_back.new.desk) (g.D.Desk.told c.take_back.new.desk)
    (with_back (g.T.TakeEnd.taken c.take_back.new.from) (g.T.TakeEnd.told_sent c.args.from_draw.now)
    (record { bytes = g.O.Sink.written c.take_back.new.frames; faults = g.O.Sink.faults c.take_back.new.frames; at_fault = g.O.Sink.at_fault c.take_back.new.frames }) no_ends))
    (c.take_back.ensures.back no_ends) c.self.invariant
