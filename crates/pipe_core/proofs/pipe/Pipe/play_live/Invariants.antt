use Rattle.std.proofs.Common.{◌≡◌, ℕ, take, drop}
use Rattle.pf_io.specs.Causes.{Calm}
use Rattle.play_format.specs.Plays.{Script}
use Rattle.pipe_core.specs.Makes.{IsReady}
use Rattle.pipe_core.specs.LiveRuns.{CanMakeAll, HasMadeAll}
use Rattle.pipe_core.proofs.pipe.Pipe.play_live.Given as goal

-- the commands so far were made, the others are left, and the sink met no fault
abbrev pub invariant-loop-at : goal.invariant-loop-at
invariant-loop-at g l =
    record {
      left : l.left.items ≡ drop l.at l.fn.commands.items;
      calm : Calm (g.O.Sink.faults l.fn.frames) (g.O.Sink.faults l.frames);
      made : (play : Script) (ahead : ℕ) → CanMakeAll play ahead l.fn.commands.items → IsReady play ahead l.fn.self →
          HasMadeAll play ahead (take l.at l.fn.commands.items) l.fn.self l.self (g.O.Sink.written l.fn.frames) (g.O.Sink.written l.frames);
    }
