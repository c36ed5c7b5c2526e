use Rattle.std.proofs.Common.{◌≡◌}
use Rattle.std.specs.Io.KnownBytes.{Keeps}
use Rattle.pf_io.proofs.standard.StdSinkSink.write.Given as goal

-- calls that were interrupted changed nothing
abbrev pub invariant-loop : goal.invariant-loop
invariant-loop g l =
    Keeps (g.W.Write.contents l.fn.self.writer) (g.W.Write.contents l.self-inside.writer)
    × (l.self-inside.faults ≡ l.fn.self.faults)
    × (l.self-inside.flushed ≡ l.fn.self.flushed)
