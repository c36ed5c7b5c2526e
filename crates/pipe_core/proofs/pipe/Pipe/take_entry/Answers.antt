use Rattle.std.proofs.Common.{◌≡◌, ℕ, subst}
use Rattle.play_format.specs.Plays.{Script}
use Rattle.pf_scene.specs.Scenes.{TellsOne}
use Rattle.pipe_core.specs.Pipes.{PipeWork, PipeKeeps, link_work}
use Rattle.pipe_core.proofs.Telling.{entry_keeps}
use Rattle.pipe_core.proofs.pipe.Pipe.take_entry.Goals as goal

pub returns-clause-tells : goal.returns-clause-tells
returns-clause-tells c =
    subst (λ (x : PipeWork). TellsOne x.scene c.take_oldest.new.desk c.take_oldest.result) c.self.view_is c.take_oldest.ensures

pub returns-clause-scene_alone : goal.returns-clause-scene_alone
returns-clause-scene_alone c = λ i. record (c.self.view_is i) { scene = c.take_oldest.new.desk }

pub returns-clause-keeps : goal.returns-clause-keeps
returns-clause-keeps c =
    let d = c.self.inside in
    let p : PipeWork = record {
      app = d.app;
      cull = d.cull;
      draw = d.draw;
      dbase = d.dbase;
      scene = d.desk;
      a = link_work d.to_cull;
      b = link_work d.to_draw;
      c = link_work d.back;
    } in
    subst (λ (x : PipeWork). (play : Script) (ahead : ℕ) → PipeKeeps play ahead x →
    PipeKeeps play ahead (record p { scene = c.take_oldest.new.desk })) c.self.view_is
    (entry_keeps p c.take_oldest.new.desk c.take_oldest.result c.take_oldest.ensures)
