-- The turn that sets the stop mark.
use Rattle.frame_stages.proofs.AppTurned.{turned_marks, counts_marked}
use Rattle.frame_stages.proofs.app_turns.stop.Goals as goal

pub returns-clause-marks : goal.returns-clause-marks
returns-clause-marks g c =
    let t = c.turn.ensures.turned in
    turned_marks (g.D.Desk.number c.args.desk.now) (g.D.Desk.seen c.args.desk.now) (g.D.Desk.seen c.turn.new.self) (g.D.Desk.told c.args.desk.now) (g.D.Desk.told c.turn.new.self) t.0 t.1 t.2 t.3 t.5 t.6

pub returns-clause-counted : goal.returns-clause-counted
returns-clause-counted g c =
    let t = c.turn.ensures.turned in
    counts_marked (g.D.Desk.told c.args.desk.now) (g.D.Desk.told c.turn.new.self) t.0 t.1 t.6 t.3
