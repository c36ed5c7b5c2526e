use Rattle.geo_lease.proofs.thread_tests.many_geodes_two_hundred_frames.Given as goal

-- the table of the call
abbrev pub ghosts-on_two_threads : goal.ghosts-on_two_threads
ghosts-on_two_threads g a = record { table = a.leases.now.table.shared.table_id }
