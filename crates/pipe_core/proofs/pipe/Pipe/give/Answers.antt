use Rattle.std.proofs.Common.{◌≡◌, ℕ, [], ◌∷◌, OnOk, ◌∙◌, ap, subst}
use Rattle.play_format.specs.Plays.{Script}
use Rattle.frame_stages.specs.AppWorks.{more_work}
use Rattle.pipe_core.specs.Pipes.{PipeWork, PipeKeeps, link_work}
use Rattle.pipe_core.specs.Makes.{with_app, given_line}
use Rattle.pipe_core.proofs.Giving.{ok_as, err_as, line_keeps}
use Rattle.pipe_core.proofs.pipe.Pipe.give.Goals as goal

pub returns-clause-state : goal.returns-clause-state
returns-clause-state c =
    let d = c.self.inside in
    let q : PipeWork = record {
      app = c.give.new.self;
      cull = d.cull;
      draw = d.draw;
      dbase = d.dbase;
      scene = d.desk;
      a = link_work d.to_cull;
      b = link_work d.to_draw;
      c = link_work d.back;
    } in
    ok_as c.give.result (c.give.new.self ≡ more_work (c.args.line ∷ []) d.app.merges d.app) (q ≡ given_line c.args.line c.args.self.now)
    (λ is. (λ i. record q { app = is i }) ∙ ap (given_line c.args.line) c.self.view_is)
    c.give.ensures.state

pub returns-clause-keeps : goal.returns-clause-keeps
returns-clause-keeps c =
    let d = c.self.inside in
    let p : PipeWork = record {
      app = d.app;
      cull = d.cull;
      draw = d.draw;
      dbase = d.dbase;
      scene = d.desk;
      a = link_work d.to_cull;
      b = link_work d.to_draw;
      c = link_work d.back;
    } in
    subst (λ (x : PipeWork). OnOk c.give.result ((play : Script) (ahead : ℕ) → PipeKeeps play ahead x →
    PipeKeeps (with_app play (c.args.line ∷ [])) ahead (record p { app = c.give.new.self }))) c.self.view_is
    (line_keeps c.give.result p c.args.line c.give.new.self c.give.ensures.state c.give.ensures.given c.give.ensures.part)

pub returns-clause-unchanged : goal.returns-clause-unchanged
returns-clause-unchanged c =
    let d = c.self.inside in
    let p : PipeWork = record {
      app = d.app;
      cull = d.cull;
      draw = d.draw;
      dbase = d.dbase;
      scene = d.desk;
      a = link_work d.to_cull;
      b = link_work d.to_draw;
      c = link_work d.back;
    } in
    err_as c.give.result (c.give.new.self ≡ d.app) (record p { app = c.give.new.self } ≡ c.args.self.now)
    (λ is. (λ i. record p { app = is i }) ∙ c.self.view_is)
    c.give.ensures.unchanged
