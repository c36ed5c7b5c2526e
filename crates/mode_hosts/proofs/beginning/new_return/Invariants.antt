use Rattle.std.proofs.Common.{◌≡◌}
use Rattle.frame_link.specs.Ends.{ring_sent, ring_send_at, ring_send_room, ring_take_at}
use Rattle.mode_hosts.specs.Deals.{AreFirst}
use Rattle.mode_hosts.proofs.beginning.new_return.Given as goal

-- so many pieces lie on the link
abbrev pub invariant-loop-put : goal.invariant-loop-put
invariant-loop-put l =
    record {
      at : ring_send_at l.send ≡ ring_take_at l.take;
      room : ring_send_room l.send ≡ 4;
      first : AreFirst l.limit l.put (ring_sent l.send);
    }
