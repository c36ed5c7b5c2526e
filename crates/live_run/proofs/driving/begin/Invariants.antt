use Rattle.std.proofs.Common.{◌≡◌, ℕ}
use Rattle.pf_io.specs.Causes.{Calm}
use Rattle.live_run.specs.Runs.{NotYet}
use Rattle.live_run.proofs.driving.begin.Given as goal

-- no header came so far
abbrev pub invariant-loop : goal.invariant-loop
invariant-loop g l =
    record {
      yet : NotYet (g.S.LiveSource.left l.fn.source) (g.S.LiveSource.left l.source) l.reading;
      calm : Calm (g.S.LiveSource.faults l.fn.source) (g.S.LiveSource.faults l.source);
    }
