use Rattle.std.proofs.Common.{◌≡◌, ◌-◌, ◌≤◌, vec_len}
use Rattle.std.specs.Io.KnownBytes.{prepend_known}
use Rattle.pf_io.specs.Causes.{Calm}
use Rattle.pf_io.proofs.source.read_all.Given as goal

-- what was taken so far, no fault came, and no read found the end
abbrev pub invariant-loop-piece : goal.invariant-loop-piece
invariant-loop-piece g l =
    (vec_len l.bytes ≤ 16777217)
    × (g.S.Source.left l.fn.source ≡ prepend_known l.bytes.items (g.S.Source.left l.source))
    × Calm (g.S.Source.faults l.fn.source) (g.S.Source.faults l.source)
    × (g.S.Source.ends l.source ≡ g.S.Source.ends l.fn.source)

abbrev pub decreases-loop-piece : goal.decreases-loop-piece
decreases-loop-piece g l = 16777217 - vec_len l.bytes
