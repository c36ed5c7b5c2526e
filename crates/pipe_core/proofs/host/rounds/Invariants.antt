use Rattle.std.proofs.Common.{◌≡◌, ℕ, false}
use Rattle.pf_io.specs.Causes.{Calm}
use Rattle.play_format.specs.Plays.{Script}
use Rattle.play_check.specs.Stuck.{IsStuck}
use Rattle.pipe_plays.specs.Plays.{CanRun}
use Rattle.pipe_core.specs.Pipes.{core_of, PipeKeeps}
use Rattle.pipe_core.specs.Hosts.{GoesOn, HasPlayed}
use Rattle.pipe_core.proofs.host.rounds.Given as goal

-- the rounds so far answered no error, and the sink met no fault
abbrev pub invariant-loop-made : goal.invariant-loop-made
invariant-loop-made g l =
    record {
      calm : Calm (g.O.Sink.faults l.fn.frames) (g.O.Sink.faults l.frames);
      uncut : l.pipe.app.state.fault ≡ l.fn.pipe.app.state.fault;
      goes : (play : Script) (ahead : ℕ) → CanRun play ahead → PipeKeeps play ahead l.fn.pipe →
          GoesOn play ahead l.fn.pipe l.pipe (g.O.Sink.written l.fn.frames) (g.O.Sink.written l.frames);
      played : (play : Script) (ahead : ℕ) → CanRun play ahead → (IsStuck play.app play.dbase → ⊥) → PipeKeeps play ahead l.fn.pipe →
          (core_of play l.fn.pipe).stopped ≡ false → HasPlayed play l._made (core_of play l.pipe);
    }
