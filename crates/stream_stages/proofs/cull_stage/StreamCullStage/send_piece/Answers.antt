-- A link that refuses has no room.
use Rattle.stage_parts.proofs.Full.{no_room}
use Rattle.stream_stages.proofs.cull_stage.StreamCullStage.send_piece.Goals as goal

pub returns-in-Err-clause-full : goal.returns-in-Err-clause-full
returns-in-Err-clause-full g c = λ no.
    no_room (g.P.SendEnd.room c.args.pieces.now) (g.P.SendEnd.told_taken c.args.pieces.now) (g.P.SendEnd.sent c.args.pieces.now) c.in-Err.ensures.full c.in-Err.ensures.spare
