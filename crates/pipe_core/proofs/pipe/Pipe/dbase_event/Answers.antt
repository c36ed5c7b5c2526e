use Rattle.std.proofs.Common.{◌≡◌, refl, sym, ap, subst}
use Rattle.std.proofs.lemmas.Option.{same_Some}
use Rattle.pf_scene.specs.Scenes.{SceneState, KeepsCopies}
use Rattle.frame_stages.specs.DbaseWorks.{DbaseHolds}
use Rattle.frame_stages.specs.DbaseAnswers.{IsDbaseAnswer}
use Rattle.pipe_core.specs.Pipes.{PipeWork, core_of, PipeKeeps, Lifted, link_work}
use Rattle.pipe_core.specs.declared.events.Event.TheVariants as event
use Rattle.pipe_core.proofs.BaseLifts.{known}
use Rattle.pipe_core.proofs.Turns.{seen_legal, base_polls, IsSeenLegal}
use Rattle.stage_parts.specs.Answers.{is_over}
use Rattle.pipe_core.proofs.Lifting.{base_whole, found_mark}
use Rattle.pipe_core.proofs.pipe.Pipe.dbase_event.Goals as goal

pub returns-clause-lifted : goal.returns-clause-lifted
returns-clause-lifted g c =
    λ play ahead keeps.
    let d = c.self.inside in
    let p : PipeWork = record {
      app = d.app;
      cull = d.cull;
      draw = d.draw;
      dbase = d.dbase;
      scene = d.desk;
      a = link_work d.to_cull;
      b = link_work d.to_draw;
      c = link_work d.back;
    } in
    let q : PipeWork = record p { dbase = c.poll-result.new.self; scene = c.look.new.self } in
    let poll = c.poll-result.ensures in
    let still : c.look.new.self ≡ c.poll-result.new.desk = same_Some _ _ c.look.ensures.told in
    let legal = seen_legal c.poll-result.new.desk.shared.log c.look.new.self.shared.log c.poll-result.new.desk c.look.result c.look.ensures.looked in
    subst (λ (x : PipeWork). Lifted play ahead event.Dbase c.poll-result.result x q) c.self.view_is
    (base_polls play ahead p q c.poll-result.result
    (record {
      app = refl;
      cull = refl;
      draw = refl;
      first = refl;
      middle = refl;
      back = refl;
      legal = subst IsSeenLegal (sym still) legal;
      part = λ lines channels holds.
          subst (λ (scene : SceneState). DbaseHolds lines channels 0 c.poll-result.new.self scene.shared.log) (sym still) (poll.part lines channels holds);
      answer = subst (λ (scene : SceneState). IsDbaseAnswer 0 c.poll-result.result d.dbase c.poll-result.new.self (known p.scene) (known scene)) (sym still) poll.answer;
      ended = poll.ended;
      looked = λ alive. found_mark d.desk.shared.log d.desk (is_over c.poll-result.result) (poll.looked alive);
      counted = λ holds. subst KeepsCopies (sym still) (poll.counted holds);
    })
    (subst (PipeKeeps play ahead) (sym c.self.view_is) keeps))

pub returns-clause-stream : goal.returns-clause-stream
returns-clause-stream g c = λ play. ap (λ (x : PipeWork). (core_of play x).pipe.stream) c.self.view_is

pub returns-clause-whole : goal.returns-clause-whole
returns-clause-whole g c = base_whole _ _ _ _ _ _ c.poll-result.ensures.answer

pub returns-clause-uncut : goal.returns-clause-uncut
returns-clause-uncut g c = ap (λ (x : PipeWork). x.app.state.fault) c.self.view_is

pub returns-clause-app : goal.returns-clause-app
returns-clause-app g c = ap (λ (x : PipeWork). x.app) c.self.view_is
