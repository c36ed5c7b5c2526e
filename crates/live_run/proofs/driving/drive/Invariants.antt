use Rattle.std.proofs.Common.{◌≡◌, ℕ, List, Option}
use Rattle.pf_io.specs.Causes.{Calm}
use Rattle.mode_hosts.specs.Lives.{LiveBlames}
use Rattle.live_run.specs.Runs.{Start, RunsOn, HasHeader}
use Rattle.live_run.proofs.driving.drive.Given as goal

-- what was read so far was settled
abbrev pub invariant-loop : goal.invariant-loop
invariant-loop g l =
    record {
      header : HasHeader l.reading;
      runs : (s : Start)
          → RunsOn s (g.S.LiveSource.left l.fn.source) (g.O.Sink.written l.fn.frames) (g.P.Sink.written l.fn.report) (g.P.Sink.faults l.fn.report) l.fn.reading l.fn.live
          → RunsOn s (g.S.LiveSource.left l.source) (g.O.Sink.written l.frames) (g.P.Sink.written l.report) (g.P.Sink.faults l.report) l.reading l.live;
      calm : Calm (g.S.LiveSource.faults l.fn.source) (g.S.LiveSource.faults l.source);
      blamed : (before : ℕ)
          → LiveBlames l.fn.live.pipe before (g.O.Sink.faults l.fn.frames) (g.O.Sink.at_fault l.fn.frames) (g.O.Sink.written l.fn.frames)
          → LiveBlames l.live.pipe before (g.O.Sink.faults l.frames) (g.O.Sink.at_fault l.frames) (g.O.Sink.written l.frames);
    }
