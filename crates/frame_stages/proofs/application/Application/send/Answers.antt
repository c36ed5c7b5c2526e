-- A packet is sent, or held.
use Rattle.stage_parts.proofs.Full.{no_room}
use Rattle.frame_stages.proofs.AppBack.{was_sent, was_not_sent}
use Rattle.frame_stages.proofs.application.Application.send.Goals as goal

pub returns-in-Ok-clause-polled : goal.returns-in-Ok-clause-polled
returns-in-Ok-clause-polled g c = λ k seen told ends.
    was_sent k c.args.self.now c.args.packet c.is_end-last.result seen told (g.S.SendEnd.sent c.args.to.now) (g.S.SendEnd.sent c.push.new.self) (g.S.SendEnd.room c.args.to.now)
    (g.S.SendEnd.told_taken c.args.to.now) ends c.requires.bare c.requires.going c.is_end-last.ensures c.in-Ok.ensures.ok

pub returns-in-Err-clause-polled : goal.returns-in-Err-clause-polled
returns-in-Err-clause-polled g c = λ k seen told ends.
    was_not_sent k c.args.self.now c.args.packet c.in-Err.packet seen told (g.S.SendEnd.sent c.args.to.now) (g.S.SendEnd.sent c.push.new.self) (g.S.SendEnd.room c.args.to.now)
    (g.S.SendEnd.told_taken c.args.to.now) ends c.in-Err.ensures.err.0 c.in-Err.ensures.err.1
    (no_room (g.S.SendEnd.room c.args.to.now) (g.S.SendEnd.told_taken c.args.to.now) (g.S.SendEnd.sent c.args.to.now) c.in-Err.ensures.full c.in-Err.ensures.spare)
