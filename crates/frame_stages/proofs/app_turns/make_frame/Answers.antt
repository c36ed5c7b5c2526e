-- The turn of a frame.
use Rattle.frame_stages.proofs.AppTurned.{turned_begun, counts_on, counts_still}
use Rattle.frame_stages.proofs.app_turns.make_frame.Goals as goal

pub returns-in-Entered-clause-came : goal.returns-in-Entered-clause-came
returns-in-Entered-clause-came g c =
    let t = c.in-Entered.ensures.turned in
    turned_begun (g.D.Desk.number c.args.desk.now) c.args.ahead c.args.load.now c.swap_lists.new.self c.swap_lists-in-Entered.new.self c.replace_cut.new.self
    c.new-lists.result.items (record { lists = c.swap_lists.new.lists }) c.in-Entered.framed (g.D.Desk.seen c.args.desk.now) (g.D.Desk.seen c.turn.new.self)
    (g.D.Desk.told c.args.desk.now) (g.D.Desk.told c.turn.new.self) t.0 t.1 c.swap_lists.ensures.load c.swap_lists.ensures.back
    c.swap_lists-in-Entered.ensures.load c.replace_cut.ensures.load t.2 t.3 t.5 t.6

pub returns-in-Entered-clause-counted : goal.returns-in-Entered-clause-counted
returns-in-Entered-clause-counted g c =
    let t = c.in-Entered.ensures.turned in
    counts_on (g.D.Desk.told c.args.desk.now) (g.D.Desk.told c.turn.new.self) t.0 t.1 t.6 t.3.accounted

pub returns-in-NotNow-clause-counted : goal.returns-in-NotNow-clause-counted
returns-in-NotNow-clause-counted g c =
    let t = c.in-NotNow.ensures.turned in
    counts_still (g.D.Desk.told c.args.desk.now) (g.D.Desk.told c.turn.new.self) t.0 t.1 t.6 t.3.0

pub returns-in-NoMemory-clause-counted : goal.returns-in-NoMemory-clause-counted
returns-in-NoMemory-clause-counted g c =
    let t = c.in-NoMemory.ensures.turned in
    counts_on (g.D.Desk.told c.args.desk.now) (g.D.Desk.told c.turn.new.self) t.0 t.1 t.6 t.3.3
