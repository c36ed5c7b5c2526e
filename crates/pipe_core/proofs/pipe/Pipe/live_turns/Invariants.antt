use Rattle.std.proofs.Common.{ℕ, take, Ok}
use Rattle.pf_io.specs.Causes.{Calm}
use Rattle.play_format.specs.Plays.{Script}
use Rattle.pipe_plays.specs.Plays.{CanRun}
use Rattle.pipe_core.specs.Pipes.{PipeKeeps}
use Rattle.pipe_core.specs.Settling.{AreIdle, TurnsGo}
use Rattle.pipe_core.proofs.pipe.Pipe.live_turns.Given as goal

-- the turns so far answered no error, and the sink met no fault
abbrev pub invariant-loop-turn : goal.invariant-loop-turn
invariant-loop-turn g l =
    record {
      calm : Calm (g.O.Sink.faults l.fn.frames) (g.O.Sink.faults l.frames);
      goes : (play : Script) (ahead : ℕ) → CanRun play ahead → PipeKeeps play ahead l.fn.self →
          TurnsGo play ahead (AreIdle play ahead (take l.turn-index l.turns)) (Ok l.some) l.fn.self l.self
          (g.O.Sink.written l.fn.frames) (g.O.Sink.written l.frames);
    }
