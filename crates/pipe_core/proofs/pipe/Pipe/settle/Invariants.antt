use Rattle.std.proofs.Common.{ℕ}
use Rattle.pf_io.specs.Causes.{Calm}
use Rattle.play_format.specs.Plays.{Script}
use Rattle.pipe_plays.specs.Plays.{CanRun}
use Rattle.pipe_core.specs.Pipes.{PipeKeeps}
use Rattle.pipe_core.specs.Settling.{HaveGone}
use Rattle.pipe_core.proofs.pipe.Pipe.settle.Given as goal

-- each round so far did something, and the sink met no fault
abbrev pub invariant-loop-made : goal.invariant-loop-made
invariant-loop-made g l =
    record {
      calm : Calm (g.O.Sink.faults l.fn.frames) (g.O.Sink.faults l.frames);
      gone : (play : Script) (ahead : ℕ) → CanRun play ahead → PipeKeeps play ahead l.fn.self →
          HaveGone play ahead l._made l.fn.self l.self (g.O.Sink.written l.fn.frames) (g.O.Sink.written l.frames);
    }
