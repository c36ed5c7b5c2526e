use Rattle.geo_lease.proofs.leases.Leases.put_back.Given as goal

-- the slot of the call
abbrev pub ghosts-swap_in : goal.ghosts-swap_in
ghosts-swap_in g a = record { slot = a.slot }
