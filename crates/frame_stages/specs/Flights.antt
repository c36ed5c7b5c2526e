-- The frames in flight, and what comes back of them.
use Rattle.std.specs.Prelude.{◌≡◌, ℕ, ◌+◌, ◌<◌, ◌≤◌, List, [], ◌∷◌, ◌++◌, map, length, take, drop, Option, Some, None}
use Rattle.std.specs.Io.KnownBytes.{append_known}
use Rattle.fx_math.specs.declared.lenses.Lens.{Lens}
use Rattle.pf_io.specs.Causes.{Rose}
use Rattle.pf_model.specs.Copies.{UpdateList}
use Rattle.draw_list.specs.declared.stats.Stats.{Stats}
use Rattle.draw_list.specs.Lists.{Drawables}
use Rattle.stage_parts.specs.declared.packets.Packet.{Packet}
use Rattle.stage_parts.specs.Loads.{LoadState, Each, AreImages}
use Rattle.stage_parts.specs.Packets.{loads_in, bytes_in, updates_in}
use Rattle.stage_parts.specs.Parts.{cut_short}
use Rattle.frame_stages.specs.declared.taking_back.Brought.{Brought}
use Rattle.frame_stages.specs.declared.taking_back.Brought.TheVariants as brought
use Rattle.stage_parts.specs.Answers.{IsDry}

-- How many frames were begun, how many pictures were wholly written, and how many bytes of the next one before a fault;
-- the loads in hand, the update lists that go home with the next Sync, in the order in which they came, the numbers of
-- the frames that came back, how many of them were told (the oldest ones) and for how many more there is room, and how
-- many frames may be in flight.
pub record FlightState : Type 0 where
  pub frames : ℕ
  pub written : ℕ
  pub fault : Option ℕ
  pub spare : List LoadState
  pub home : List UpdateList
  pub stats : List Stats
  pub told : ℕ
  pub room : ℕ
  pub ahead : ℕ

-- each draw list has a joint
abbrev pub HaveFirst : List Drawables → Type 0
HaveFirst lists = Each (λ d. 0 < length d.joints.lists) lists

-- No more pictures came back than frames were begun, with at most a load each, and there is room for the loads and the
-- numbers of all frames, and for as many update lists as frames may be in flight.
pub record IsInFlight (frames written ahead : ℕ) (fault : Option ℕ) (spare : List LoadState) (hold lists stats room : ℕ) : Type 0 where
  pub back : written + cut_short fault ≤ frames
  pub loads : length spare + frames ≤ ahead + (written + cut_short fault)
  pub places : ahead ≤ hold
  pub homeward : ahead ≤ lists
  pub came : stats ≤ written + cut_short fault
  pub numbers : frames ≤ stats + room
  pub settled : Each (λ l. HaveFirst l.lists) spare

-- a play begins at most so many frames, since each has a line
abbrev pub most_frames : ℕ
most_frames = 2147483648

-- a frame is begun
abbrev pub begun : FlightState → FlightState
begun f = record f { frames = f.frames + 1 }

-- A load was taken out of hand for a frame, and there is room for the frame's numbers.
pub record IsTaken (f : FlightState) : Type 0 where
  pub loads : length f.spare + 1 + f.frames ≤ f.ahead + (f.written + cut_short f.fault)
  pub few : f.frames < most_frames
  pub room : f.frames < length f.stats + f.room

-- Of these numbers so many were told: the oldest that were not told are told now; or all were told before.
abbrev pub TellsNext : List Stats → (told told' : ℕ) → Option Stats → Type 0
TellsNext stats told told' (Some numbers) = (told' ≡ told + 1) × (drop told stats ≡ numbers ∷ drop told' stats)
TellsNext stats told told' None = (told' ≡ told) × (told ≡ length stats)

-- The load has a draw list with a joint and an image of the lens's size for each of so many channels.
pub record IsFitFor (lens : Lens) (channels : ℕ) (l : LoadState) : Type 0 where
  pub first : HaveFirst l.lists
  pub lists : length l.lists ≡ channels
  pub images : AreImages lens channels l.images

-- What is kept of a packet that came back: the load, its numbers, and its update list, where fewer lists go home than
-- frames may be in flight.
pub record IsKeptOf (packet : Packet) (old new : FlightState) : Type 0 where
  pub spare : length new.spare ≡ length old.spare + length (loads_in (packet ∷ []))
  pub home : length old.home < old.ahead → new.home ≡ old.home ++ updates_in (loads_in (packet ∷ []))
  pub stats : new.stats ≡ old.stats ++ map (λ l. l.stats) (loads_in (packet ∷ []))

-- What is known of the frame sink: the bytes written, the number of its faults, and the bytes written at the last one.
pub record SinkSide : Type 0 where
  pub bytes : Option (List ℕ)
  pub faults : ℕ
  pub at_fault : Option (List ℕ)

-- A packet came back, and its picture was wholly written.
pub record CameBack (packet : Packet) (old new : FlightState) (sink sink' : SinkSide) : Type 0 where
  pub kept : IsKeptOf packet old new
  pub state : new ≡ record old { written = old.written + 1; spare = new.spare; home = new.home; stats = new.stats; room = new.room }
  pub wrote : sink' ≡ record sink { bytes = append_known sink.bytes (bytes_in packet) }

-- A packet came back, and a fault cut its picture short.
pub record CameShort (packet : Packet) (old new : FlightState) (sink sink' : SinkSide) : Type 0 where
  pub bytes : ℕ
  pub kept : IsKeptOf packet old new
  pub state : new ≡ record old { fault = Some bytes; spare = new.spare; home = new.home; stats = new.stats; room = new.room }
  pub wrote : sink'.bytes ≡ append_known sink.bytes (take bytes (bytes_in packet))
  pub rose : Rose sink.faults sink'.faults
  pub last : sink'.at_fault ≡ sink'.bytes

-- what came of bringing a packet back, where `told` tells what was sent
abbrev pub Brings : Brought → FlightState → FlightState → (taken taken' : List Packet) → (told : Option (List Packet)) →
    (sink sink' : SinkSide) → Type 0
Brings brought.Nothing old new taken taken' told sink sink' =
    (new ≡ old) × (taken' ≡ taken) × (sink' ≡ sink) × (old.written < old.frames → IsDry told taken)
Brings brought.Whole old new taken taken' told sink sink' =
    (packet : Packet) × (taken' ≡ taken ++ packet ∷ []) × (old.written < old.frames) × CameBack packet old new sink sink'
Brings brought.Short old new taken taken' told sink sink' =
    (packet : Packet) × (taken' ≡ taken ++ packet ∷ []) × (old.written < old.frames) × CameShort packet old new sink sink'
