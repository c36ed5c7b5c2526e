use Rattle.geo_lease.proofs.leases.Leases.store.Given as goal

-- the slot of the call
abbrev pub ghosts-swap_free : goal.ghosts-swap_free
ghosts-swap_free g a = record { slot = a.slot }
