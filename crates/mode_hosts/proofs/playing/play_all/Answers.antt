use Rattle.std.proofs.Common.{◌≡◌, ℕ, List, [], drop, Option, None, refl, sym, ap, ◌∙◌, subst}
use Rattle.draw_list.specs.declared.stats.Stats.{Stats}
use Rattle.pf_history.specs.Logs.{Log}
use Rattle.pipe_plays.specs.declared.played.PlayEnd.TheVariants as ends
use Rattle.pipe_plays.specs.Plays.{CanRun, setup_of}
use Rattle.pipe_plays.specs.Played.{LeavesPipe, StaysWhole}
use Rattle.pipe_plays.proofs.Plays.{may_grow}
use Rattle.mode_hosts.specs.declared.seats.AppSeat.{AppSeat}
use Rattle.mode_hosts.specs.Seats.{cull_site, draw_site, dbase_site, probe_site}
use Rattle.mode_hosts.specs.Crews.{all_of}
use Rattle.mode_hosts.specs.Posts.{crews_state}
use Rattle.mode_hosts.specs.Gathering.{own_seats}
use Rattle.mode_hosts.proofs.Crews.{still_full, divided_go}
use Rattle.mode_hosts.proofs.Ends.{all_home}
use Rattle.mode_hosts.proofs.Keeping.{all_stay_together, all_keep}
use Rattle.mode_hosts.proofs.Probes.{none_of}
use Rattle.mode_hosts.proofs.playing.play_all.Goals as goal

pub seats_of-seats-requires : goal.seats_of-seats-requires
seats_of-seats-requires g c =
    let seats = c.in-Ok.ready.opened.seats in
    let crews = crews_state c.run_all-app.result.crews in
    still_full (cull_site seats.cull) (draw_site seats.draw) (dbase_site seats.dbase) (probe_site seats.probe) (all_of crews)
    (divided_go c.args.setup.now.mode c.args.setup.now.dbase (cull_site seats.cull) (draw_site seats.draw) (dbase_site seats.dbase)
    (probe_site seats.probe) crews c.run_all-app.ensures.divided)

pub leave-requires : goal.leave-requires
leave-requires g c =
    let seats = c.in-Ok.ready.opened.seats in
    rw c.deref.ensures
    (all_stay_together _ _ _ (g.O.Sink.written c.args.frames.now) (g.O.Sink.written c.run_all-app.new.frames)
    (all_home c.args.setup.now.mode c.args.setup.now.dbase seats c.seats_of-seats.result c.run_all-app.result.app c.run_all-app.result.crews
    (g.O.Sink.written c.args.frames.now) (g.O.Sink.written c.run_all-app.new.frames) c.run_all-app.ensures.goes c.run_all-app.ensures.divided
    c.seats_of-seats.ensures.app c.seats_of-seats.ensures.crews)
    c.in-Ok.ensures.together)

pub returns-in-Ok : goal.returns-in-Ok
returns-in-Ok g c =
    let play = c.args.play in
    let setup = c.args.setup.now in
    let ahead = setup.ahead in
    let can : CanRun play ahead = record { is_play = may_grow play c.in-Ok.ensures.play; few_ahead = (c.requires.some, c.requires.few) } in
    let run = c.run_all-app.ensures in
    let ended = c.run_all-app.result in
    let seats = c.seats_of-seats.result in
    let before = g.O.Sink.written c.args.frames.now in
    let played = g.O.Sink.written c.run_all-app.new.frames in
    let now = g.O.Sink.written c.leave.new.frames in
    let go = all_home setup.mode setup.dbase c.in-Ok.ready.opened.seats seats ended.app ended.crews before played run.goes run.divided
    c.seats_of-seats.ensures.app c.seats_of-seats.ensures.crews in
    let keeps = all_keep (setup_of play ahead) play.dbase setup.probe _ _ before before played go (c.in-Ok.ensures.keeps before) in
    let came : StaysWhole ended.came None ended.app.stage.state.fault =
    subst (λ (fault : Option ℕ). StaysWhole ended.came fault ended.app.stage.state.fault) c.in-Ok.ensures.uncut run.uncut in
    let whole : StaysWhole ended.came None seats.app.stage.state.fault =
    subst (λ (a : AppSeat g.row.R.Denot). StaysWhole ended.came None a.stage.state.fault) (sym c.seats_of-seats.ensures.app) came in
    let untold : seats.app.stage.told ≡ 0 =
    subst (λ (a : AppSeat g.row.R.Denot). a.stage.told ≡ 0) (sym c.seats_of-seats.ensures.app) (run.goes.told ∙ c.in-Ok.ensures.untold) in
    let all = c.leave.ensures.stats ∙ ap (λ n. drop n seats.app.stage.state.stats) untold in
    let pipe : LeavesPipe play ahead own_seats c.leave.result.end c.leave.result.history.entries c.leave.result.stats.items before now =
    subst (λ (stats : List Stats). LeavesPipe play ahead own_seats c.leave.result.end c.leave.result.history.entries stats before now) (sym all)
    (c.leave.ensures.leaves play ahead seats.app.stage.merges setup.probe before can keeps whole) in
    let left = c.a_play_leaves_its_history.ensures play ahead own_seats c.leave.result.end c.leave.result.history.entries c.leave.result.stats.items before now
    can pipe in
    let hits = c.leave.ensures.probes play ahead seats.app.stage.merges setup.probe before can keeps in
    let blames = c.leave.ensures.blames (g.O.Sink.faults c.args.frames.now) run.blames in
    record {
      legal = left.now.legal;
      fits = left.now.fits;
      wholly = λ is. (left.all is).wholly;
      pipe = pipe;
      front = left.now.front;
      whole = λ is. (left.all is).whole;
      stats = λ is. (left.all is).all_numbers;
      numbers = left.now.numbers;
      flushed = c.leave.ensures.flushed;
      probes = hits.all;
      no_probe = hits.none;
      early = hits.early;
      fault = blames.fault;
      last = blames.last;
      calm = blames.calm;
    }

pub returns-in-Err : goal.returns-in-Err
returns-in-Err g c =
    let play = c.args.play in
    let ahead = c.args.setup.now.ahead in
    let can : CanRun play ahead = record { is_play = may_grow play c.in-Err.ensures.play; few_ahead = (c.requires.some, c.requires.few) } in
    let bytes = g.O.Sink.written c.args.frames.now in
    let pipe : LeavesPipe play ahead own_seats ends.NoMemory c.new.result.entries c.new-in-Err.result.items bytes bytes =
    subst (λ (stats : List Stats). LeavesPipe play ahead own_seats ends.NoMemory c.new.result.entries stats bytes bytes) (sym c.new-in-Err.ensures.items)
    (subst (λ (log : Log). LeavesPipe play ahead own_seats ends.NoMemory log [] bytes bytes) (sym c.new.ensures.entries)
    (c.a_play_not_begun_leaves_nothing.ensures play ahead own_seats bytes)) in
    let left = c.a_play_leaves_its_history.ensures play ahead own_seats ends.NoMemory c.new.result.entries c.new-in-Err.result.items bytes bytes can pipe in
    record {
      legal = left.now.legal;
      fits = left.now.fits;
      wholly = λ is. (left.all is).wholly;
      pipe = pipe;
      front = left.now.front;
      whole = λ is. (left.all is).whole;
      stats = λ is. (left.all is).all_numbers;
      numbers = left.now.numbers;
      flushed = λ is. absurd (let clash : ends.NoMemory ≡ ends.Done = is in cc);
      probes = λ is. absurd (let clash : ends.NoMemory ≡ ends.Done = is in cc);
      no_probe = none_of c.args.setup.now.probe c.new-in-Err-2.ensures.items;
      early = λ other. c.new-in-Err-2.ensures.items;
      fault = λ is. absurd (let clash : ends.NoMemory ≡ ends.FrameFault = is in cc);
      last = λ is. absurd (let clash : ends.NoMemory ≡ ends.FrameFault = is in cc);
      calm = λ other. refl;
    }
