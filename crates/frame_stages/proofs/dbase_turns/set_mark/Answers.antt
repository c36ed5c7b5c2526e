-- The turn that sets the stop mark.
use Rattle.frame_stages.proofs.AppTurned.{counts_marked}
use Rattle.frame_stages.proofs.dbase_turns.set_mark.Goals as goal

pub returns-clause-counted : goal.returns-clause-counted
returns-clause-counted g c =
    let t = c.turn.ensures.turned in
    counts_marked (g.D.Desk.told c.args.desk.now) (g.D.Desk.told c.turn.new.self) t.0 t.1 t.6 t.3
