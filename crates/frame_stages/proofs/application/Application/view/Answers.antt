-- A view is set, or not.
use Rattle.std.proofs.Common.{Some, refl, sym, subst}
use Rattle.pf_model.specs.declared.lines.AppStep.TheVariants as app
use Rattle.pf_scene.specs.Acts.{MayView}
use Rattle.frame_stages.specs.AppTurns.{Marks}
use Rattle.frame_stages.specs.AppWorks.{work_of}
use Rattle.frame_stages.specs.AppAnswers.{MayWant}
use Rattle.frame_stages.proofs.AppTakes.{viewed, barred, wanting}
use Rattle.frame_stages.proofs.application.Application.view.Goals as goal

pub returns-in-Entered-clause-polled : goal.returns-in-Entered-clause-polled
returns-in-Entered-clause-polled g c = λ ends.
    viewed (g.D.Desk.number c.args.desk.now) c.args.self.now c.pass.new.self c.args.channel c.args.view (g.D.Desk.seen c.args.desk.now) (g.D.Desk.seen c.make_view.new.desk) (g.D.Desk.told c.args.desk.now) (g.D.Desk.told c.make_view.new.desk) ends
    c.requires.bare c.requires.going c.requires.next c.requires.waited c.pass.ensures c.in-Entered.ensures.came c.make_view.ensures.counted

pub returns-in-NotNow-clause-polled : goal.returns-in-NotNow-clause-polled
returns-in-NotNow-clause-polled g c = λ ends.
    barred (g.D.Desk.number c.args.desk.now) (work_of c.args.self.now) (work_of c.args.self.now) (λ s. MayView s c.args.channel c.args.view) (g.D.Desk.seen c.args.desk.now) (g.D.Desk.seen c.make_view.new.desk) (g.D.Desk.told c.args.desk.now) (g.D.Desk.told c.make_view.new.desk) ends
    (Some (app.View c.args.channel c.args.view)) c.requires.bare c.requires.next refl c.in-NotNow.ensures.came (λ bars. bars)

pub returns-in-NoMemory-clause-polled : goal.returns-in-NoMemory-clause-polled
returns-in-NoMemory-clause-polled g c = λ ends.
    wanting (g.D.Desk.number c.args.desk.now) (work_of c.args.self.now) (work_of c.args.self.now) (g.D.Desk.seen c.args.desk.now) (g.D.Desk.seen c.make_view.new.desk) (g.D.Desk.seen c.stop.new.desk)
    (g.D.Desk.told c.args.desk.now) (g.D.Desk.told c.make_view.new.desk) (g.D.Desk.told c.stop.new.desk) ends (subst MayWant (sym c.requires.next) tt) c.requires.bare refl c.in-NoMemory.ensures.came
    (subst (λ k. Marks k (g.D.Desk.seen c.make_view.new.desk) (g.D.Desk.told c.make_view.new.desk) (g.D.Desk.seen c.stop.new.desk) (g.D.Desk.told c.stop.new.desk)) c.make_view.ensures.number c.stop.ensures.marks)
    (λ holds right. c.stop.ensures.counted (c.make_view.ensures.counted holds))
