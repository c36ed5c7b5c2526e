-- The turn of a merge.
use Rattle.frame_stages.proofs.AppTurned.{counts_merged}
use Rattle.frame_stages.proofs.dbase_turns.enter.Goals as goal

pub returns-clause-counted : goal.returns-clause-counted
returns-clause-counted g c =
    let t = c.turn.ensures.turned in
    counts_merged c.args.merge (g.D.Desk.number c.args.desk.now) c.turn.result (g.D.Desk.told c.args.desk.now) (g.D.Desk.told c.turn.new.self) t.0 t.1 t.6 t.3
