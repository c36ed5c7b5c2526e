use Rattle.std.proofs.Common.{◌≡◌, List, [], drop, refl, sym, ap, ◌∙◌, subst, arith}
use Rattle.draw_list.specs.declared.stats.Stats.{Stats}
use Rattle.pf_history.specs.Logs.{Log}
use Rattle.pipe_plays.specs.declared.played.PlayEnd.TheVariants as ends
use Rattle.pipe_plays.specs.Plays.{CanRun}
use Rattle.pipe_plays.specs.Played.{LeavesPipe}
use Rattle.pipe_plays.proofs.Plays.{may_grow}
use Rattle.pipe_plays.proofs.Ended.{done_only, faulted, unfaulted}
use Rattle.pipe_core.specs.Cores.{one_seat}
use Rattle.pipe_core.proofs.Hosting.{leaves_pipe}
use Rattle.pipe_core.proofs.host.play_all.Goals as goal

pub returns-in-Ok : goal.returns-in-Ok
returns-in-Ok g c =
    let play = c.args.play in
    let ahead = c.args.ahead in
    let can : CanRun play ahead = record { is_play = may_grow play c.most_rounds-most.ensures.is_play; few_ahead = (c.requires.some, c.requires.few) } in
    let run = c.run-came.ensures in
    let made = c.in-Ok.ensures in
    let before = g.O.Sink.written c.args.frames.now in
    let now = g.O.Sink.written c.run-came.new.frames in
    let log = c.into_parts-history.result.0.entries in
    let stats = c.into_parts-history.result.1.items in
    let goes = run.goes play ahead can made.keeps in
    let untold : stats ≡ c.run-came.new.pipe.app.state.stats =
    c.into_parts-history.ensures.stats ∙ ap (λ n. drop n c.run-came.new.pipe.app.state.stats) (goes.told ∙ made.untold) in
    let pipe = leaves_pipe c.a_pipe_shows_its_history.ensures play ahead c.in-Ok.pipe c.run-came.new.pipe c.run-came.result before now c.of.result
    log stats can made.keeps made.log made.uncut goes run.uncut
    (run.ended play ahead can c.requires.can_end made.keeps made.unset (omega (arith, c.most_rounds-most.ensures.enough)))
    c.of.ensures c.into_parts-history.ensures.history untold in
    let left = c.a_play_leaves_its_history.ensures play ahead one_seat c.of.result log stats before now can pipe in
    record {
      legal = left.now.legal;
      fits = left.now.fits;
      wholly = λ is. (left.all is).wholly;
      pipe = pipe;
      front = left.now.front;
      whole = λ is. (left.all is).whole;
      stats = λ is. (left.all is).all_numbers;
      numbers = left.now.numbers;
      probes = c.new-in-Ok.ensures.items;
      flushed = λ is. done_only c.run-came.result _ run.flushed (sym c.of.ensures ∙ is);
      fault = λ is. (faulted c.run-came.result c.of.result _ _ _ _ run.blames c.of.ensures is).0;
      last = λ is. (faulted c.run-came.result c.of.result _ _ _ _ run.blames c.of.ensures is).1;
      calm = unfaulted c.run-came.result c.of.result _ _ _ _ run.blames c.of.ensures;
    }

pub returns-in-Err : goal.returns-in-Err
returns-in-Err g c =
    let play = c.args.play in
    let ahead = c.args.ahead in
    let can : CanRun play ahead = record { is_play = may_grow play c.most_rounds-most.ensures.is_play; few_ahead = (c.requires.some, c.requires.few) } in
    let bytes = g.O.Sink.written c.args.frames.now in
    let log = c.new-in-Err.result.entries in
    let stats = c.new-in-Err-2.result.items in
    let pipe : LeavesPipe play ahead one_seat ends.NoMemory log stats bytes bytes =
    subst (λ (kept : List Stats). LeavesPipe play ahead one_seat ends.NoMemory log kept bytes bytes) (sym c.new-in-Err-2.ensures.items)
    (subst (λ (l : Log). LeavesPipe play ahead one_seat ends.NoMemory l [] bytes bytes) (sym c.new-in-Err.ensures.entries)
    (c.a_play_not_begun_leaves_nothing.ensures play ahead one_seat bytes)) in
    let left = c.a_play_leaves_its_history.ensures play ahead one_seat ends.NoMemory log stats bytes bytes can pipe in
    record {
      legal = left.now.legal;
      fits = left.now.fits;
      wholly = λ is. (left.all is).wholly;
      pipe = pipe;
      front = left.now.front;
      whole = λ is. (left.all is).whole;
      stats = λ is. (left.all is).all_numbers;
      numbers = left.now.numbers;
      probes = c.new-in-Err-3.ensures.items;
      flushed = λ is. absurd (let clash : ends.NoMemory ≡ ends.Done = is in cc);
      fault = λ is. absurd (let clash : ends.NoMemory ≡ ends.FrameFault = is in cc);
      last = λ is. absurd (let clash : ends.NoMemory ≡ ends.FrameFault = is in cc);
      calm = λ other. refl;
    }
