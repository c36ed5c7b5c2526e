use Rattle.std.proofs.Common.{◌≡◌, ℕ, List, Option}
use Rattle.mode_hosts.specs.Lives.{LiveBlames}
use Rattle.live_run.specs.Runs.{Start, RunsOn, HasHeader}
use Rattle.live_run.proofs.driving.give_all.Given as goal

-- what was read so far was given
abbrev pub invariant-loop : goal.invariant-loop
invariant-loop g l =
    record {
      header : HasHeader l.reading;
      runs : (s : Start) (left report : Option (List ℕ)) (faults : ℕ)
          → RunsOn s left (g.O.Sink.written l.fn.frames) report faults l.fn.reading l.fn.live
          → RunsOn s left (g.O.Sink.written l.frames) report faults l.reading l.live;
      shown : l.live.frames ≡ l.fn.live.frames;
      blamed : (before : ℕ)
          → LiveBlames l.fn.live.pipe before (g.O.Sink.faults l.fn.frames) (g.O.Sink.at_fault l.fn.frames) (g.O.Sink.written l.fn.frames)
          → LiveBlames l.live.pipe before (g.O.Sink.faults l.frames) (g.O.Sink.at_fault l.frames) (g.O.Sink.written l.frames);
    }
