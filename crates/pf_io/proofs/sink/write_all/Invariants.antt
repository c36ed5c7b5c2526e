use Rattle.std.proofs.Common.{◌≡◌, ◌-◌, ◌≤◌, length, take}
use Rattle.std.specs.Io.KnownBytes.{append_known}
use Rattle.pf_io.specs.Causes.{Calm}
use Rattle.pf_io.proofs.sink.write_all.Given as goal

-- what went out so far, and no fault came
abbrev pub invariant-loop-written : goal.invariant-loop-written
invariant-loop-written g l =
    (l.written ≤ length l.bytes)
    × (g.S.Sink.written l.sink ≡ append_known (g.S.Sink.written l.fn.sink) (take l.written l.bytes))
    × Calm (g.S.Sink.faults l.fn.sink) (g.S.Sink.faults l.sink)
    × (g.S.Sink.at_fault l.sink ≡ g.S.Sink.at_fault l.fn.sink)

abbrev pub decreases-loop-written : goal.decreases-loop-written
decreases-loop-written g l = length l.bytes - l.written
