use Rattle.geo_lease.specs.Plans.{plan_of}
use Rattle.geo_lease.proofs.leases.Leases.grant.Given as goal

-- what the named geodes contain now
abbrev pub ghosts-hand_out : goal.ghosts-hand_out
ghosts-hand_out g a = record { plan = plan_of a.frame a.places.items a.keeper.now.seat.me.0.contents }
