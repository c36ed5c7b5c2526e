use Rattle.std.proofs.Common.{◌≡◌, ℕ, ◌+◌, ◌<◌, true, [], Some}
use Rattle.std.specs.Prelude.{is_some}
use Rattle.geo_lease.specs.Plans.{slot_at}
use Rattle.geo_lease.specs.Tokens.{turn_of, turn_view, lease_of, number_of, lease_slots, content_under}
use Rattle.geo_lease.proofs.thread_tests.show.Given as goal

abbrev pub invariant-loop-geode : goal.invariant-loop-geode
invariant-loop-geode g l =
    (turn_of l.turn ≡ g.B.Bench.table)
    × ((turn_view l.turn).out ≡ [])
    × (lease_of l.lease ≡ g.B.Bench.table)
    × (number_of l.lease ≡ (turn_view l.turn).next)
    × ((h : ℕ) → h < l.geodes → is_some (slot_at h (lease_slots l.lease)) ≡ true)
    × ((h : ℕ) → h < l.geodes → content_under l.lease h ≡ Some (l.first + h))
