-- A link that refuses has no room.
use Rattle.stage_parts.proofs.Full.{no_room}
use Rattle.isect_stage.proofs.probe_stage.ProbeStage.send.Goals as goal

pub returns-in-Err-clause-full : goal.returns-in-Err-clause-full
returns-in-Err-clause-full g c = λ no.
    no_room (g.S.SendEnd.room c.args.to.now) (g.S.SendEnd.told_taken c.args.to.now) (g.S.SendEnd.sent c.args.to.now) c.in-Err.ensures.full c.in-Err.ensures.spare
