-- The turn of an edit.
use Rattle.pf_model.specs.declared.lines.AppStep.TheVariants as app
use Rattle.pf_scene.specs.Acts.{MayEdit}
use Rattle.frame_stages.proofs.ScriptLines.{edit_there, edit_back}
use Rattle.frame_stages.proofs.AppTurned.{turned_barred, counts_on, counts_still}
use Rattle.frame_stages.proofs.app_turns.make_edit.Goals as goal

pub returns-in-NotNow-clause-came : goal.returns-in-NotNow-clause-came
returns-in-NotNow-clause-came g c =
    let t = c.in-NotNow.ensures.turned in
    let e = c.in-Edit.edit in
    let s = c.args.script.now in (
      e,
      edit_there s.rest c.exchange.new.self.rest app.Sync e c.in-Edit.ensures.exchanged,
      edit_back s c.exchange.new.self c.exchange-in-NotNow.new.self app.Sync c.exchange-in-NotNow.result e c.in-NotNow.edit c.exchange.ensures.same
          c.exchange-in-NotNow.ensures.same c.in-Edit.ensures.exchanged t.3.1 c.exchange-in-NotNow.ensures.exchanged,
      turned_barred (g.D.Desk.number c.args.desk.now) (λ s. MayEdit s e) (g.D.Desk.seen c.args.desk.now) (g.D.Desk.seen c.turn.new.self)
          (g.D.Desk.told c.args.desk.now) (g.D.Desk.told c.turn.new.self) t.0 t.1 t.2 t.3.0 t.3.2 t.5 t.6,
    )

pub returns-in-Entered-clause-counted : goal.returns-in-Entered-clause-counted
returns-in-Entered-clause-counted g c =
    let t = c.in-Entered.ensures.turned in
    counts_on (g.D.Desk.told c.args.desk.now) (g.D.Desk.told c.turn.new.self) t.0 t.1 t.6 t.3.1.accounted

pub returns-in-NotNow-clause-counted : goal.returns-in-NotNow-clause-counted
returns-in-NotNow-clause-counted g c =
    let t = c.in-NotNow.ensures.turned in
    counts_still (g.D.Desk.told c.args.desk.now) (g.D.Desk.told c.turn.new.self) t.0 t.1 t.6 t.3.0

pub returns-in-Edit-clause-counted : goal.returns-in-Edit-clause-counted
returns-in-Edit-clause-counted g c =
    let t = c.in-NoMemory.ensures.turned in
    counts_on (g.D.Desk.told c.args.desk.now) (g.D.Desk.told c.turn.new.self) t.0 t.1 t.6 t.3.2
