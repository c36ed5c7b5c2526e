use Rattle.std.proofs.Common.{◌≡◌, drop}
use Rattle.geo_lease.specs.Calls.{marked}
use Rattle.geo_lease.proofs.leases.mark.Given as goal

abbrev pub invariant-loop-place : goal.invariant-loop-place
invariant-loop-place l = marked l.last (drop l.place-index l.places) l.number ≡ marked l.fn.last l.places l.number
