use Rattle.geo_lease.proofs.leases.Leases.fetch.Given as goal

-- the slot of the call
abbrev pub ghosts-swap_out : goal.ghosts-swap_out
ghosts-swap_out g a = record { slot = a.slot }
