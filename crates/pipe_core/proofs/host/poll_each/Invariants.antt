use Rattle.std.proofs.Common.{◌≡◌, ℕ, take}
use Rattle.pf_io.specs.Causes.{Calm}
use Rattle.play_format.specs.Plays.{Script}
use Rattle.pipe_plays.specs.Plays.{CanRun}
use Rattle.pipe_core.specs.Pipes.{core_of, PipeKeeps}
use Rattle.pipe_core.specs.Hosts.{GoesOn, ArePolled}
use Rattle.pipe_core.proofs.host.poll_each.Given as goal

-- the polls so far answered no error, and the sink met no fault
abbrev pub invariant-loop-event : goal.invariant-loop-event
invariant-loop-event g l =
    record {
      calm : Calm (g.O.Sink.faults l.fn.frames) (g.O.Sink.faults l.frames);
      uncut : l.pipe.app.state.fault ≡ l.fn.pipe.app.state.fault;
      goes : (play : Script) (ahead : ℕ) → CanRun play ahead → PipeKeeps play ahead l.fn.pipe →
          GoesOn play ahead l.fn.pipe l.pipe (g.O.Sink.written l.fn.frames) (g.O.Sink.written l.frames);
      polled : (play : Script) (ahead : ℕ) → CanRun play ahead → PipeKeeps play ahead l.fn.pipe →
          ArePolled play ahead (take l.event-index l.events) l.over (core_of play l.fn.pipe) (core_of play l.pipe);
    }
