use Rattle.std.proofs.Common.{◌≡◌, ◌++◌, drop}
use Rattle.geo_lease.specs.Plans.{with_slots}
use Rattle.geo_lease.proofs.keeper.Keeper.places_for.Given as goal

abbrev pub invariant-loop-name : goal.invariant-loop-name
invariant-loop-name g l = l.places.items ++ with_slots l.self.current.items (drop l.name-index l.names) ≡ with_slots l.self.current.items l.names
