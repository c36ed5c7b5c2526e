-- The turn of a view.
use Rattle.frame_stages.proofs.AppTurned.{counts_viewed}
use Rattle.frame_stages.proofs.app_turns.make_view.Goals as goal

pub returns-clause-counted : goal.returns-clause-counted
returns-clause-counted g c =
    let t = c.turn.ensures.turned in
    counts_viewed c.args.channel c.args.view (g.D.Desk.number c.args.desk.now) c.turn.result (g.D.Desk.told c.args.desk.now) (g.D.Desk.told c.turn.new.self) t.0 t.1 t.6 t.3
