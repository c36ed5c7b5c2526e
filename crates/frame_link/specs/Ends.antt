-- What a contract sees of the two ends of a ring, and of a `ListLink`.
use Rattle.std.specs.Prelude.{◌≡◌, ℕ, List, []}
use Rattle.rtrb.specs.Ring as ring
use Rattle.frame_link.specs.Link.{Link, ring_link, list_link}
use Rattle.frame_link.specs.declared.ring_ends.RingSend.{RingSend}
use Rattle.frame_link.specs.declared.ring_ends.RingTake.{RingTake}
use Rattle.frame_link.specs.declared.list_link.ListLink.{ListLink}

module _ {T : Type 0} where
  -- every item pushed so far, oldest first
  abbrev pub ring_sent : RingSend T → List T
  ring_sent send = ring.sent send.end

  -- how many places the end knows to be free: so many next pushes are accepted
  abbrev pub ring_free : RingSend T → ℕ
  ring_free send = ring.known_free send.end

  abbrev pub ring_send_at : RingSend T → Link
  ring_send_at send = ring_link send.end.end.words send.end.end.slots send.end.end.names send.end.end.heap

  abbrev pub ring_send_room : RingSend T → ℕ
  ring_send_room send = ring.producer_capacity send.end

  -- every item popped so far, oldest first
  abbrev pub ring_taken : RingTake T → List T
  ring_taken take = ring.received take.end

  -- the items that the end has seen in the ring and not yet popped: the next pops give them
  abbrev pub ring_waiting : RingTake T → List T
  ring_waiting take = ring.known_items take.end

  abbrev pub ring_take_at : RingTake T → Link
  ring_take_at take = ring_link take.end.end.words take.end.end.slots take.end.end.names take.end.end.heap

  abbrev pub ring_take_room : RingTake T → ℕ
  ring_take_room take = ring.consumer_capacity take.end

  -- the two ends of one ring with room for so many items, through which nothing went
  pub record IsNewRing (room : ℕ) (send : RingSend T) (take : RingTake T) : Type 0 where
    pub link : ring_take_at take ≡ ring_send_at send
    pub sent : ring_sent send ≡ []
    pub taken : ring_taken take ≡ []
    pub send_room : ring_send_room send ≡ room
    pub take_room : ring_take_room take ≡ room

  -- every item pushed so far, oldest first
  abbrev pub list_sent : ListLink T → List T
  list_sent link = link.seat.me.0.sent

  -- every item popped so far, oldest first
  abbrev pub list_taken : ListLink T → List T
  list_taken link = link.seat.me.0.taken

  -- the items that are in the link, oldest first
  abbrev pub list_waiting : ListLink T → List T
  list_waiting link = link.items.items

  abbrev pub list_room : ListLink T → ℕ
  list_room link = link.room

  abbrev pub list_at : ListLink T → Link
  list_at link = list_link link.seat.table_id
