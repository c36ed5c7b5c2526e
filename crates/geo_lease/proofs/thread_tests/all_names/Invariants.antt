use Rattle.std.proofs.Common.{◌≡◌, ℕ, ◌<◌, length, Some}
use Rattle.std.specs.Prelude.{slice_get}
use Rattle.geo_lease.proofs.thread_tests.all_names.Given as goal

abbrev pub invariant-loop-geode : goal.invariant-loop-geode
invariant-loop-geode l =
    (length l.names.items ≡ l.geode)
    × ((h : ℕ) → h < l.geode → slice_get l.names.items h ≡ Some h)
