use Rattle.std.proofs.Common.{ℕ, take}
use Rattle.pf_io.specs.Causes.{Calm}
use Rattle.play_format.specs.Plays.{Script}
use Rattle.pipe_plays.specs.Plays.{CanRun}
use Rattle.pipe_core.specs.Pipes.{PipeKeeps, HasRun}
use Rattle.pipe_core.proofs.pipe.Pipe.run_events.Given as goal

-- the events so far answered no error
abbrev pub invariant-loop-event : goal.invariant-loop-event
invariant-loop-event g l =
    record {
      calm : Calm (g.O.Sink.faults l.fn.frames) (g.O.Sink.faults l.frames);
      run : (play : Script) (ahead : ℕ) → CanRun play ahead → PipeKeeps play ahead l.fn.self →
          HasRun play ahead (take l.event-index l.events) l.fn.self l.self (g.O.Sink.written l.fn.frames) (g.O.Sink.written l.frames);
    }
