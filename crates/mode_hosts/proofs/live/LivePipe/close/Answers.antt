use Rattle.std.proofs.Common.{◌≡◌, ◌≤◌, ℕ, drop, None, sym, ap, ◌∙◌, subst, length, arith}
use Rattle.std.specs.Arc.{arc_value}
use mathlib.Core.List.{IsPrefix}
use Rattle.seat_lock.specs.Tokens.{lock_id}
use Rattle.seat_lock.proofs.Logs.{prefix_trans}
use Rattle.pf_history.specs.Asks.{asked_dbase}
use Rattle.frame_stages.specs.AppWorks.{AppWork}
use Rattle.pipe_plays.specs.Played.{StaysWhole}
use Rattle.mode_hosts.specs.declared.seats.AppSeat.{AppSeat}
use Rattle.mode_hosts.specs.Seats.{dbase_site}
use Rattle.mode_hosts.specs.Crews.{all_of}
use Rattle.mode_hosts.specs.Posts.{crews_state}
use Rattle.mode_hosts.specs.Gathering.{own_seats}
use Rattle.mode_hosts.specs.Homes.{all_sites}
use Rattle.mode_hosts.specs.Lives.{live_setup, live_sites}
use Rattle.mode_hosts.proofs.Crews.{still_full}
use Rattle.mode_hosts.proofs.Keeping.{all_keep, all_stay_together}
use Rattle.mode_hosts.proofs.Given.{given_seats, together_given, app_seat_given, all_given, all_fewer}
use Rattle.mode_hosts.proofs.Telling.{first_on}
use Rattle.mode_hosts.proofs.Lives.{seen_at, all_back, home_go}
use Rattle.mode_hosts.proofs.live.LivePipe.close.Goals as goal

pub seats_of-seats-requires : goal.seats_of-seats-requires
seats_of-seats-requires g c =
    let live = c.requires in
    still_full live.cull live.draw (dbase_site c.args.self.dbase) live.probe (all_of (crews_state c.back-crews.result))
    (all_back live.crews c.args.self.posts c.run_unless-came.new.posts c.back-crews.result c.args.self.dbase live.cull live.draw live.probe live.posts
    live.sent (λ cs are. c.run_unless-came.ensures.posts cs (rw c.with_dbase-posts.ensures are)) c.back-crews.ensures)

pub leave-requires : goal.leave-requires
leave-requires g c =
    let p = c.args.self in
    let live = c.requires in
    let s = live_sites p live.cull live.draw live.probe in
    let w = c.await_less-merges.new.app in
    let before = g.O.Sink.written c.args.frames.now in
    let played = g.O.Sink.written c.run_unless-came.new.frames in
    let go = home_go s w c.seats_of-seats.result c.run_unless-came.new.app c.back-crews.result before played c.run_unless-came.ensures.goes
    (all_back live.crews p.posts c.run_unless-came.new.posts c.back-crews.result p.dbase live.cull live.draw live.probe live.posts live.sent
    (λ cs are. c.run_unless-came.ensures.posts cs (rw c.with_dbase-posts.ensures are)) c.back-crews.ensures) c.seats_of-seats.ensures.app
    c.seats_of-seats.ensures.crews in
    rw c.deref-2.ensures
    (all_stay_together (lock_id (arc_value p.lock)) (given_seats w s.four.dbase.work s) (all_sites c.seats_of-seats.result) before played go
    (together_given w s.four.dbase.work (lock_id (arc_value p.lock)) s live.together))

pub returns-clause-left : goal.returns-clause-left
returns-clause-left g c = λ play ahead asked bytes can keeps.
    let p = c.args.self in
    let live = keeps.live in
    let given = live_setup play ahead in
    let m = c.await_less-merges.result in
    let w = c.await_less-merges.new.app in
    let less = c.await_less-merges.ensures in
    let s = live_sites p live.cull live.draw live.probe in
    let s' = given_seats w s.four.dbase.work s in
    let seats = c.seats_of-seats.result in
    let before = g.O.Sink.written c.args.frames.now in
    let played = g.O.Sink.written c.run_unless-came.new.frames in
    let now = g.O.Sink.written c.leave.new.frames in
    let run = c.run_unless-came.ensures in
    let was = keeps.keeps.four.app.given in
    let lowered = all_given given given.lines m play.dbase play.dbase asked s w s.four.dbase.work bytes before keeps.keeps
    (app_seat_given given (record given { merges = m }) s.four.app w bytes before (less.setup given was)
    (λ seat log taken sent stream old. less.part given seat log taken sent stream was old) keeps.keeps.four.app)
    keeps.keeps.four.dbase in
    let go = home_go s w seats c.run_unless-came.new.app c.back-crews.result before played run.goes
    (all_back live.crews p.posts c.run_unless-came.new.posts c.back-crews.result p.dbase live.cull live.draw live.probe live.posts live.sent
    (λ cs are. run.posts cs (rw c.with_dbase-posts.ensures are)) c.back-crews.ensures) c.seats_of-seats.ensures.app c.seats_of-seats.ensures.crews in
    let ended = all_keep (record given { merges = m }) play.dbase asked s' (all_sites seats) bytes before played go lowered in
    let n = length (asked_dbase play.dbase) in
    let few : n ≤ m = let own = was.merges in let least = less.merges in omega (arith, own, least) in
    let home = all_fewer (record given { merges = m }) n play.dbase asked (all_sites seats) bytes played few ended in
    let came : StaysWhole c.run_unless-came.result None c.run_unless-came.new.app.stage.state.fault =
    run.uncut (subst (λ (x : AppWork). StaysWhole p.came None x.state.fault) (sym less.state) keeps.whole) in
    let whole = subst (λ (a : AppSeat g.row.R.Denot). StaysWhole c.run_unless-came.result None a.stage.state.fault) (sym c.seats_of-seats.ensures.app) came in
    let result = c.leave.result in
    let log = result.history.entries in
    let numbers = seats.app.stage.state.stats in
    let told = subst (λ (a : AppSeat g.row.R.Denot). a.stage.told ≡ p.app.stage.told) (sym c.seats_of-seats.ensures.app)
    (run.goes.told ∙ ap (λ (x : AppWork). x.told) less.state) in
    let front = prefix_trans (seen_at p.app) (seen_at seats.app) log
    (subst (λ (a : AppSeat g.row.R.Denot). IsPrefix (seen_at p.app) (seen_at a)) (sym c.seats_of-seats.ensures.app) run.goes.front)
    c.leave.ensures.front in
    let pipe = c.leave.ensures.leaves play ahead n asked bytes can home whole in
    record {
      numbers = numbers;
      pipe = pipe;
      left = c.a_play_leaves_its_history.ensures play ahead own_seats result.end log numbers bytes now can pipe;
      rest = c.leave.ensures.stats ∙ ap (λ (k : ℕ). drop k numbers) told;
      probed = c.leave.ensures.probes play ahead n asked bytes can home;
      front = front;
      told = first_on p.told (seen_at p.app) log front live.few;
    }

pub returns-clause-flushed : goal.returns-clause-flushed
returns-clause-flushed g c = c.leave.ensures.flushed

pub returns-clause-blames : goal.returns-clause-blames
returns-clause-blames g c = λ before calm. c.leave.ensures.blames before (c.run_unless-came.ensures.blames before calm)
