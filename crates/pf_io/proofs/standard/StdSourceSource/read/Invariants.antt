use Rattle.std.proofs.Common.{◌≡◌}
use Rattle.std.specs.Io.KnownBytes.{Keeps}
use Rattle.pf_io.proofs.standard.StdSourceSource.read.Given as goal

-- calls that were interrupted changed nothing
abbrev pub invariant-loop : goal.invariant-loop
invariant-loop g l =
    Keeps (g.R.Read.remaining l.fn.self.reader) (g.R.Read.remaining l.self-inside.reader)
    × (l.self-inside.faults ≡ l.fn.self.faults)
    × (l.self-inside.ends ≡ l.fn.self.ends)
