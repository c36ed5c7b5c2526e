-- A link that refuses has no room.
use Rattle.stage_parts.proofs.Full.{no_room}
use Rattle.stream_stages.proofs.draw_stage.StreamDrawStage.give_back.Goals as goal

pub returns-in-Err-clause-full : goal.returns-in-Err-clause-full
returns-in-Err-clause-full g c = λ no.
    no_room (g.B.SendEnd.room c.args.back.now) (g.B.SendEnd.told_taken c.args.back.now) (g.B.SendEnd.sent c.args.back.now) c.in-Err.ensures.full c.in-Err.ensures.spare
