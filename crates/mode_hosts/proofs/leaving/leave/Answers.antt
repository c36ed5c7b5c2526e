use Rattle.std.proofs.Common.{ℕ, List, Option, refl, sym, ◌∙◌, subst}
use Rattle.seat_lock.specs.Tokens.{lock_id}
use Rattle.pipe_plays.specs.Plays.{setup_of}
use Rattle.pipe_plays.proofs.Ended.{done_only}
use Rattle.mode_hosts.specs.Probes.{AllKeep, with_merges}
use Rattle.mode_hosts.specs.Homes.{all_sites}
use Rattle.mode_hosts.proofs.Tells.{leaves_pipe}
use Rattle.mode_hosts.proofs.Probes.{four_home, probed}
use Rattle.mode_hosts.proofs.Given.{together_merges, home_merges}
use Rattle.mode_hosts.proofs.leaving.leave.Goals as goal

pub returns-clause-leaves : goal.returns-clause-leaves
returns-clause-leaves g c = λ play ahead merges probe bytes can keeps whole.
    let s = with_merges merges (all_sites c.args.seats) in
    let lock = lock_id c.args.lock.now in
    let log = c.gather-gathered.result.history.entries in
    let written = g.O.Sink.written c.finish-came.new.frames in
    let came = c.finish-came.ensures in
    let kept = subst (λ (now : Option (List ℕ)). AllKeep (setup_of play ahead) play.dbase probe s bytes now) (sym came.bytes) keeps in
    let home = four_home c.two_links_are_one.ensures (setup_of play ahead) play.dbase probe lock s log bytes written
    (together_merges merges lock (all_sites c.args.seats) c.requires) kept
    (home_merges merges (all_sites c.args.seats) log c.gather-gathered.ensures.home) in
    leaves_pipe c.streamed_frames_are_whole_ones.ensures play ahead lock s.four c.finish-came.result c.of-end.result log
    s.four.app.work.state.stats bytes written can kept.four home refl c.of-end.ensures
    (came.uncut s.four.app.work.state.fault whole)
    (λ done.
    let end = sym c.of-end.ensures ∙ done in
    record {
      app = sym c.has_ended-app_ended.ensures ∙ done_only c.finish-came.result _ came.app end;
      dbase = sym c.has_ended-dbase_ended.ensures ∙ done_only c.finish-came.result _ came.dbase end;
    })

pub returns-clause-front : goal.returns-clause-front
returns-clause-front g c = let home = c.gather-gathered.ensures.home.app in (home.0, sym home.1)

pub returns-clause-probes : goal.returns-clause-probes
returns-clause-probes g c = λ play ahead merges probe bytes can keeps.
    let s = with_merges merges (all_sites c.args.seats) in
    let came = c.finish-came.ensures in
    let answers = c.answers_at.ensures in
    probed c.a_pipe_shows_its_history.ensures c.streamed_frames_are_whole_ones.ensures c.answers_follow_the_application.ensures
    c.two_links_are_one.ensures play ahead probe (lock_id c.args.lock.now) s c.of-end.result c.gather-gathered.result.history.entries c.answers_at.result.items bytes
    (g.O.Sink.written c.args.frames.now) can (together_merges merges (lock_id c.args.lock.now) (all_sites c.args.seats) c.requires) keeps
    (home_merges merges (all_sites c.args.seats) c.gather-gathered.result.history.entries c.gather-gathered.ensures.home)
    (λ done.
    let end = sym c.of-end.ensures ∙ done in
    record {
      app = sym c.has_ended-app_ended.ensures ∙ done_only c.finish-came.result _ came.app end;
      whole = sym c.has_failed-probe_failed.ensures ∙ done_only c.finish-came.result _ came.probe end;
      answers = answers.done done ∙ c.gather-gathered.ensures.answers;
    })
    answers.early
