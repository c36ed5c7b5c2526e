use Rattle.std.proofs.Common.{length, ◌∙◌, ap, sym, subst, arith}
use Rattle.pf_history.specs.Asks.{asked_dbase}
use Rattle.frame_stages.specs.AppWorks.{AppWork}
use Rattle.frame_stages.specs.DbaseWorks.{DbaseWork}
use Rattle.pipe_core.specs.Pipes.{PipeWork, PipeKeeps, link_work}
use Rattle.pipe_core.proofs.Giving.{block_many, block_keeps}
use Rattle.pipe_core.proofs.pipe.Pipe.give_base.Goals as goal

pub returns-in-Ok-clause-state : goal.returns-in-Ok-clause-state
returns-in-Ok-clause-state c =
    record {
      scene = ap (λ (x : PipeWork). x.scene) c.self.view_is;
      app = ap (λ (w : AppWork). w.state) c.note_merges.ensures.state ∙ ap (λ (x : PipeWork). x.app.state) c.self.view_is;
      back = ap (λ (x : PipeWork). x.c) c.self.view_is;
    }

pub returns-in-Ok-clause-keeps : goal.returns-in-Ok-clause-keeps
returns-in-Ok-clause-keeps c = λ play ahead can keeps.
    let d = c.self.inside in
    let p : PipeWork = record {
      app = d.app;
      cull = d.cull;
      draw = d.draw;
      dbase = d.dbase;
      scene = d.desk;
      a = link_work d.to_cull;
      b = link_work d.to_draw;
      c = link_work d.back;
    } in
    let kept : PipeKeeps play ahead p = subst (PipeKeeps play ahead) (sym c.self.view_is) keeps in
    let block = c.args.block.items in
    let own = c.merges.ensures ∙ kept.stages.app.merges in
    let count = c.count_merges.ensures ∙ ap (λ ls. length (asked_dbase ls)) c.deref.ensures.value in
    let many = block_many play ahead block c.merges.result c.count_merges.result c.saturating_add-merges.result can own count
    (λ few. omega (arith, few, c.saturating_add-merges.ensures)) in
    block_keeps play ahead p block c.saturating_add-merges.result c.note_merges.new.self c.give.new.self many
    (ap (λ (x : DbaseWork). x.failed) c.in-Ok.ensures.state) kept c.note_merges.ensures.state c.note_merges.ensures.given
    c.note_merges.ensures.part (c.in-Ok.ensures.holds play.dbase play.channels 0 p.scene.shared.log kept.dbase)

pub returns-in-Err-clause-unchanged : goal.returns-in-Err-clause-unchanged
returns-in-Err-clause-unchanged c =
    let d = c.self.inside in
    let p : PipeWork = record {
      app = d.app;
      cull = d.cull;
      draw = d.draw;
      dbase = d.dbase;
      scene = d.desk;
      a = link_work d.to_cull;
      b = link_work d.to_draw;
      c = link_work d.back;
    } in
    (λ i. record p { dbase = c.in-Err.ensures.unchanged i }) ∙ c.self.view_is
