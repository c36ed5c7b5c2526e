use Rattle.std.proofs.Common.{◌≡◌, ℕ, ◌+◌, ◌<◌, Some}
use Rattle.geo_lease.specs.Tokens.{keeper_of, keeper_view, geodes_of, content_of}
use Rattle.geo_lease.proofs.thread_tests.store_all.Given as goal

abbrev pub invariant-loop-geode : goal.invariant-loop-geode
invariant-loop-geode l =
    (keeper_of l.keeper ≡ keeper_of l.fn.keeper)
    × (geodes_of l.keeper ≡ l.geodes)
    × ((keeper_view l.keeper).above ≡ (keeper_view l.fn.keeper).above)
    × ((h : ℕ) → h < l.geode → content_of l.keeper h ≡ Some (l.first + h))
