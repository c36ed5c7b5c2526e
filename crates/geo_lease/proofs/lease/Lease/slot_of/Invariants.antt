use Rattle.std.proofs.Common.{◌≡◌, drop}
use Rattle.geo_lease.specs.Plans.{slot_at}
use Rattle.geo_lease.proofs.lease.Lease.slot_of.Given as goal

abbrev pub invariant-loop-place : goal.invariant-loop-place
invariant-loop-place g l = slot_at l.geode (drop l.place-index l.self.places.items) ≡ slot_at l.geode l.self.places.items
