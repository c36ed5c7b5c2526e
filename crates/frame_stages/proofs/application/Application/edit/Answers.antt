-- An edit is made, or not.
use Rattle.std.proofs.Common.{Some, ap, subst}
use Rattle.pf_model.specs.declared.lines.AppStep.TheVariants as app
use Rattle.pf_scene.specs.Acts.{MayEdit}
use Rattle.frame_stages.specs.AppTurns.{Marks}
use Rattle.frame_stages.specs.AppWorks.{work_of}
use Rattle.frame_stages.specs.Scripts.{ScriptState, next_step}
use Rattle.frame_stages.proofs.AppTakes.{edited, barred, edit_wants, wanting}
use Rattle.frame_stages.proofs.application.Application.edit.Goals as goal

pub returns-in-Entered-clause-polled : goal.returns-in-Entered-clause-polled
returns-in-Entered-clause-polled g c = λ ends.
    let t = c.in-Entered.ensures.came in
    edited (g.D.Desk.number c.args.desk.now) c.args.self.now c.make_edit.new.script t.0 (g.D.Desk.seen c.args.desk.now) (g.D.Desk.seen c.make_edit.new.desk) (g.D.Desk.told c.args.desk.now) (g.D.Desk.told c.make_edit.new.desk) ends
    c.requires.bare c.requires.going t.1 c.requires.waited t.2 t.3 c.make_edit.ensures.counted

pub returns-in-NotNow-clause-polled : goal.returns-in-NotNow-clause-polled
returns-in-NotNow-clause-polled g c = λ ends.
    let t = c.in-NotNow.ensures.came in
    barred (g.D.Desk.number c.args.desk.now) (work_of c.args.self.now) (work_of (record c.args.self.now { script = c.make_edit.new.script })) (λ s. MayEdit s t.0) (g.D.Desk.seen c.args.desk.now) (g.D.Desk.seen c.make_edit.new.desk) (g.D.Desk.told c.args.desk.now) (g.D.Desk.told c.make_edit.new.desk) ends
    (Some (app.Edit t.0)) c.requires.bare t.1 (ap (λ (s : ScriptState). work_of (record c.args.self.now { script = s })) t.2) t.3 (λ bars. bars)

pub returns-in-NoMemory-clause-polled : goal.returns-in-NoMemory-clause-polled
returns-in-NoMemory-clause-polled g c = λ ends.
    let t = c.in-NoMemory.ensures.came in
    wanting (g.D.Desk.number c.args.desk.now) (work_of c.args.self.now) (work_of (record c.args.self.now { script = c.make_edit.new.script })) (g.D.Desk.seen c.args.desk.now) (g.D.Desk.seen c.make_edit.new.desk) (g.D.Desk.seen c.stop.new.desk)
    (g.D.Desk.told c.args.desk.now) (g.D.Desk.told c.make_edit.new.desk) (g.D.Desk.told c.stop.new.desk) ends
    (edit_wants (next_step c.args.self.now.script.rest) c.requires.next) c.requires.bare (ap (λ (s : ScriptState). work_of (record c.args.self.now { script = s })) t.0) t.1
    (subst (λ k. Marks k (g.D.Desk.seen c.make_edit.new.desk) (g.D.Desk.told c.make_edit.new.desk) (g.D.Desk.seen c.stop.new.desk) (g.D.Desk.told c.stop.new.desk)) c.make_edit.ensures.number c.stop.ensures.marks)
    (λ holds right. c.stop.ensures.counted (c.make_edit.ensures.counted holds))
