-- What a host's thread is given, and what comes back from it.
use Rattle.std.specs.Prelude.{◌≡◌, [], ◌∷◌, ◌++◌}
use Rattle.frame_link.specs.declared.ring_ends.RingSend.{RingSend}
use Rattle.frame_link.specs.declared.ring_ends.RingTake.{RingTake}
use Rattle.frame_link.specs.Ends.{ring_sent, ring_send_room, ring_taken, ring_take_at}
use Rattle.mode_hosts.specs.declared.crew.Crew.{Crew}
use Rattle.mode_hosts.specs.Sites.{CrewGoes}
use Rattle.mode_hosts.specs.Seats.{crew_state}

module _ {R : Type 0} where
  -- The end of the ring came back, with a crew that was taken from there, after polls.
  pub record CameBack (take : RingTake (Crew R)) (back : RingTake (Crew R) × Crew R) : Type 0 where
    pub link : ring_take_at back.0 ≡ ring_take_at take
    pub crew : Crew R
    pub came : ring_taken back.0 ≡ ring_taken take ++ crew ∷ []
    pub goes : CrewGoes (crew_state crew) (crew_state back.1)

  -- A ring of one place, over which nothing went.
  pub record IsFresh (send : RingSend (Crew R)) (take : RingTake (Crew R)) : Type 0 where
    pub room : ring_send_room send ≡ 1
    pub sent : ring_sent send ≡ []
    pub taken : ring_taken take ≡ []

  -- The crew was sent to a thread that had taken nothing when it started.
  pub record WillCome (crew : Crew R) (send : RingSend (Crew R)) (take : RingTake (Crew R)) : Type 0 where
    pub sent : ring_sent send ≡ crew ∷ []
    pub taken : ring_taken take ≡ []
