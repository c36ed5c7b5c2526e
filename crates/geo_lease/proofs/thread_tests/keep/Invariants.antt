use Rattle.std.proofs.Common.{◌≡◌, ◌≤◌}
use Rattle.geo_lease.specs.Tokens.{keeper_of, keeper_view, geodes_of}
use Rattle.geo_lease.proofs.thread_tests.keep.Given as goal

abbrev pub invariant-loop-frame : goal.invariant-loop-frame
invariant-loop-frame g l =
    (keeper_of l.keeper ≡ g.B.Bench.table)
    × (geodes_of l.keeper ≡ l.geodes)
    × ((keeper_view l.keeper).above ≤ l.frame)
