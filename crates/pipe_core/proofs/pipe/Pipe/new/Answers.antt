use Rattle.std.proofs.Common.{◌≡◌, false, [], length, None, ap, ◌∙◌, subst}
use Rattle.pf_history.specs.Asks.{asked_dbase}
use Rattle.stage_parts.specs.States.{Setup}
use Rattle.frame_stages.specs.AppWorks as app
use Rattle.frame_stages.specs.AppWorks.{AppWork}
use Rattle.frame_stages.specs.DbaseWorks as base
use Rattle.frame_stages.specs.DbaseWorks.{DbaseHolds}
use Rattle.pipe_plays.specs.Plays.{setup_of}
use Rattle.pipe_core.specs.Pipes.{opening_scene}
use Rattle.pipe_core.proofs.Openings.{new_keeps, of_ok, one_ok}
use Rattle.pipe_core.proofs.pipe.Pipe.new.Goals as goal

pub returns-clause-keeps : goal.returns-clause-keeps
returns-clause-keeps c =
    let play = c.args.play in
    let parts = c.in_ok-parts.parts in
    let made = c.in_ok-parts.ensures in
    let lists = c.into_lists-app_lines.ensures in
    let lens = c.lens-lens.ensures.value in
    let colour = c.back-back.ensures.value in
    let channels = c.channels-channels.ensures.value in
    let merges = c.count_merges-merges.ensures ∙ ap (λ lines. length (asked_dbase lines)) c.dbase.ensures.value in
    let given : record {
      lines = c.into_lists-app_lines.result.0.items;
      merges = c.count_merges-merges.result;
      lens = c.lens-lens.result;
      back = c.back-back.result;
      ahead = c.args.ahead;
      channels = c.channels-channels.result;
    } ≡ setup_of play c.args.ahead =
    λ i. record { lines = lists.app i; merges = merges i; lens = lens i; back = colour i; ahead = c.args.ahead; channels = channels i } in
    new_keeps play c.args.ahead _ (record {
      app = of_ok _ made.app c.new.ensures.opens ∙ ap (λ (g : Setup). app.opening_work g parts.app.state.spare) given;
      loads = of_ok _ made.app c.new.ensures.loads;
      lens = of_ok _ made.cull c.new-2.ensures.lens ∙ lens;
      cull = of_ok _ made.cull c.new-2.ensures.keeps;
      draw = of_ok _ made.draw c.new-3.ensures
          ∙ (λ i. record { lens = lens i; back = colour i; state = record { ended = false; held = None } });
      dbase = one_ok made.dbase c.new-4.ensures.made ∙ ap base.opening_work lists.dbase;
      holds = subst (λ lines. DbaseHolds lines play.channels 0 (base.opening_work lines) []) lists.dbase (c.new-4.ensures.holds play.channels 0);
      scene = of_ok _ made.desk c.new_desk.ensures ∙ ap (opening_scene c.args.ahead) channels;
      a = of_ok _ made.to_cull c.new_link.ensures;
      b = of_ok _ made.to_draw c.new_link-2.ensures;
      c = of_ok _ made.back c.new_link-3.ensures;
    })

pub returns-clause-uncut : goal.returns-clause-uncut
returns-clause-uncut c = ap (λ (w : AppWork). w.state.fault) (of_ok _ c.in_ok-parts.ensures.app c.new.ensures.opens)

pub returns-clause-untold : goal.returns-clause-untold
returns-clause-untold c = ap (λ (w : AppWork). w.told) (of_ok _ c.in_ok-parts.ensures.app c.new.ensures.opens)
