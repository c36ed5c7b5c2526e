use Rattle.std.proofs.Common.{◌≡◌, ℕ, ◌+◌, ◌<◌, ◌≤◌, length, Some}
use Rattle.geo_lease.specs.Tokens.{keeper_of, keeper_view, geodes_of, content_of}
use Rattle.geo_lease.proofs.thread_tests.grant_soon.Given as goal

abbrev pub invariant-loop : goal.invariant-loop
invariant-loop g l =
    (keeper_of l.keeper ≡ keeper_of l.fn.keeper)
    × (geodes_of l.keeper ≡ geodes_of l.fn.keeper)
    × ((keeper_view l.keeper).above ≤ l.frame)
    × ((h : ℕ) → h < length l.names → content_of l.keeper h ≡ Some (l.first + h))
