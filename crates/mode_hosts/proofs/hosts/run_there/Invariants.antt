use Rattle.std.proofs.Common.{◌≡◌}
use Rattle.frame_link.specs.Ends.{ring_taken, ring_take_at}
use Rattle.mode_hosts.proofs.hosts.run_there.Given as goal

-- nothing was taken yet
abbrev pub invariant-loop : goal.invariant-loop
invariant-loop g l = (ring_take_at l.take ≡ ring_take_at l.fn.take) × (ring_taken l.take ≡ ring_taken l.fn.take)
