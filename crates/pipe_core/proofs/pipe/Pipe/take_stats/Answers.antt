use Rattle.std.proofs.Common.{◌≡◌, ℕ, ◌∙◌, subst}
use Rattle.play_format.specs.Plays.{Script}
use Rattle.frame_stages.specs.Flights.{TellsNext}
use Rattle.pipe_core.specs.Pipes.{PipeWork, PipeKeeps, link_work}
use Rattle.pipe_core.proofs.Telling.{stats_keeps}
use Rattle.pipe_core.proofs.pipe.Pipe.take_stats.Goals as goal

pub returns-clause-tells : goal.returns-clause-tells
returns-clause-tells c =
    subst (λ (x : PipeWork). TellsNext x.app.state.stats x.app.told c.take_stats.new.self.told c.take_stats.result) c.self.view_is
    c.take_stats.ensures.tells

pub returns-clause-count_alone : goal.returns-clause-count_alone
returns-clause-count_alone c =
    let d = c.self.inside in
    let p : PipeWork = record {
      app = d.app;
      cull = d.cull;
      draw = d.draw;
      dbase = d.dbase;
      scene = d.desk;
      a = link_work d.to_cull;
      b = link_work d.to_draw;
      c = link_work d.back;
    } in
    (λ i. record p { app = c.take_stats.ensures.same i }) ∙ (λ i. record (c.self.view_is i) { app = record (c.self.view_is i).app { told = c.take_stats.new.self.told } })

pub returns-clause-keeps : goal.returns-clause-keeps
returns-clause-keeps c =
    let d = c.self.inside in
    let p : PipeWork = record {
      app = d.app;
      cull = d.cull;
      draw = d.draw;
      dbase = d.dbase;
      scene = d.desk;
      a = link_work d.to_cull;
      b = link_work d.to_draw;
      c = link_work d.back;
    } in
    subst (λ (x : PipeWork). (play : Script) (ahead : ℕ) → PipeKeeps play ahead x →
    PipeKeeps play ahead (record p { app = c.take_stats.new.self })) c.self.view_is
    (stats_keeps p c.take_stats.new.self c.take_stats.ensures.same)
