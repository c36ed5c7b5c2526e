-- A look tells the merges of the log.
use Rattle.frame_stages.proofs.AppLooks.{merges_seen}
use Rattle.frame_stages.proofs.app_turns.look.Goals as goal

pub returns-clause-merges : goal.returns-clause-merges
returns-clause-merges g c =
    merges_seen (g.D.Desk.number c.args.desk.now) (g.D.Desk.seen c.args.desk.now) (g.D.Desk.seen c.sight.new.desk) (g.D.Desk.told c.args.desk.now)
    c.sight.result c.sight.ensures.saw
