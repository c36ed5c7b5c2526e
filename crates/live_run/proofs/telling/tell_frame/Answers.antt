use Rattle.std.proofs.Common.{ap}
use Rattle.mode_hosts.specs.Lives.{stats_of}
use Rattle.live_run.specs.Driven.{told_log}
use Rattle.live_run.proofs.TellLemmas.{on_err, frame_told, frame_lost, next_stats}
use Rattle.live_run.proofs.telling.tell_frame.Goals as goal

pub returns-in_err-append_frame-clause-front : goal.returns-in_err-append_frame-clause-front
returns-in_err-append_frame-clause-front g c =
    let p = c.args.pipe.now in
    let q = c.take_stats.new.self in
    let alone = c.take_stats.ensures.count_alone in
    on_err c.from_residual.result _
    (frame_lost c.args.frames.now p q c.in-Some.stats c.args.text.now.items c.append_frame.new.out.items (ap told_log alone)
    (next_stats p q c.in-Some.stats c.in-Some.ensures.tells (ap stats_of alone)) c.in_err-append_frame.ensures.kept)

pub returns-clause-told : goal.returns-clause-told
returns-clause-told g c =
    let p = c.args.pipe.now in
    let q = c.take_stats.new.self in
    let alone = c.take_stats.ensures.count_alone in
    frame_told c.args.frames.now p q c.in-Some.stats c.args.text.now.items c.append_frame.new.out.items (ap told_log alone)
    (next_stats p q c.in-Some.stats c.in-Some.ensures.tells (ap stats_of alone)) c.in_ok-append_frame.ensures.text
