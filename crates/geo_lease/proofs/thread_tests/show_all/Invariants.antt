use Rattle.std.proofs.Common.{◌≡◌, []}
use Rattle.geo_lease.specs.Tokens.{turn_of, turn_view}
use Rattle.geo_lease.proofs.thread_tests.show_all.Given as goal

abbrev pub invariant-loop-frame : goal.invariant-loop-frame
invariant-loop-frame g l = (turn_of l.turn ≡ g.B.Bench.table) × ((turn_view l.turn).out ≡ [])
