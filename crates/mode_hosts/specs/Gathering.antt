-- What the seats of a play keep whose draw lists go whole, what comes home of seats, and the pipe that this makes.
use Rattle.std.specs.Prelude.{◌≡◌, ℕ, ◌≤◌, List, [], Option, Some}
use Rattle.std.specs.Io.KnownBytes.{append_known}
use Rattle.atomic_table.specs.Seated.{TableId}
use Rattle.seat_lock.specs.Log.{of, Found}
use Rattle.pf_model.specs.declared.lines.BaseLine.{BaseLine}
use Rattle.pf_history.specs.Logs.{Log, IsLegal}
use Rattle.stage_parts.specs.Packets.{LinkPart}
use Rattle.stage_parts.specs.Frames.{AreOwnFrames}
use Rattle.stage_parts.specs.States.{Setup, Seats, PipeState}
use Rattle.stage_parts.specs.Parts.{DrawPart}
use Rattle.stage_parts.specs.Pipes.{PipeFits}
use Rattle.frame_stages.specs.AppWorks.{AppWork, IsGiven}
use Rattle.frame_stages.specs.CullWorks.{CullWork, CullKeeps, cull_state}
use Rattle.frame_stages.specs.Works.{DrawWork}
use Rattle.frame_stages.specs.DbaseWorks.{DbaseHolds, dbase_state}
use Rattle.mode_hosts.specs.Sites.{Place, Site, DbaseSite, AppWrote, AreApp, AreBase, AppGoes, CullGoes, DrawGoes, DbaseGoes}

-- each stage has a desk of its own, in every mode: APP 0, CULL 1, DRAW 2 and DBASE 3; the probe's is 4
abbrev pub own_seats : Seats
own_seats = record { app = 0; dbase = 3 }

-- The seats of the four stages of a play, however CULL and DRAW work.
pub record SitesOf (X Y : Type 0) : Type 0 where
  pub app : Site AppWork
  pub cull : Site X
  pub draw : Site Y
  pub dbase : DbaseSite

-- where both hand on whole draw lists
abbrev pub Sites : Type 0
Sites = SitesOf CullWork DrawWork

-- a desk of this number at this lock
pub record IsDesk (id : TableId) (k : ℕ) (p : Place) : Type 0 where
  pub number : p.number ≡ k
  pub lock : p.stand.lock ≡ Some id

-- The desks are those of one lock, which has a seat for each, and one for the probe.
pub record AreAtDesks {X Y : Type 0} (lock : TableId) (s : SitesOf X Y) : Type 0 where
  pub app : IsDesk lock 0 s.app.place
  pub cull : IsDesk lock 1 s.cull.place
  pub draw : IsDesk lock 2 s.draw.place
  pub dbase : IsDesk lock 3 s.dbase.place
  pub seats : s.app.place.stand.seats ≡ 5

-- The desks are those of one lock, and the ends, without a probe, are those of three links: from APP to CULL, from CULL to
-- DRAW, and from DRAW to APP.
pub record AreTogether (lock : TableId) (s : Sites) : Type 0 where
  pub desks : AreAtDesks lock s
  pub a : s.cull.take_at ≡ s.app.send_at
  pub b : s.draw.take_at ≡ s.cull.send_at
  pub c : s.app.take_at ≡ s.draw.send_at

-- What APP's seat keeps, with the bytes of the frame sink before the play and now: its part, where all Frames of the log that
-- its desk has seen are its own. The entries of its number are the application's.
pub record AppSeatKeeps (g : Setup) (s : Site AppWork) (bytes bytes' : Option (List ℕ)) : Type 0 where
  pub given : IsGiven g s.work
  pub part : AreOwnFrames s.place.number s.place.seen → AppWrote g s bytes bytes' []
  pub own : AreApp (of s.place.number s.place.seen)

-- What CULL's seat keeps: its part, and no entries of its number.
pub record CullSeatKeeps (g : Setup) (s : Site CullWork) : Type 0 where
  pub lens : s.work.lens ≡ g.lens
  pub keeps : CullKeeps s.work s.taken s.sent
  pub own : of s.place.number s.place.seen ≡ []

-- What DRAW's seat keeps: its part, and no entries of its number.
pub record DrawSeatKeeps (g : Setup) (s : Site DrawWork) : Type 0 where
  pub lens : s.work.lens ≡ g.lens
  pub back : s.work.back ≡ g.back
  pub part : DrawPart s.work.lens s.work.back s.work.state s.taken s.sent
  pub own : of s.place.number s.place.seen ≡ []

-- What DBASE's seat keeps: it holds to its section, and the entries of its number are the database process's.
pub record DbaseSeatKeeps (lines : List BaseLine) (channels : ℕ) (s : DbaseSite) : Type 0 where
  pub holds : DbaseHolds lines channels s.place.number s.work s.place.seen
  pub own : AreBase (of s.place.number s.place.seen)

-- What the four seats keep, with the bytes of the frame sink before the play and now.
pub record SeatsKeep (g : Setup) (lines : List BaseLine) (s : Sites) (bytes bytes' : Option (List ℕ)) : Type 0 where
  pub app : AppSeatKeeps g s.app bytes bytes'
  pub cull : CullSeatKeeps g s.cull
  pub draw : DrawSeatKeeps g s.draw
  pub dbase : DbaseSeatKeeps lines g.channels s.dbase

-- the pipe that the four seats make with the log of the closed lock
abbrev pub pipe_of : List BaseLine → Sites → Log → List ℕ → PipeState
pipe_of lines s log stream =
    record {
      log = log;
      app = s.app.work.state;
      cull = cull_state s.cull.work;
      draw = s.draw.work.state;
      dbase = dbase_state lines s.dbase.work;
      a = record { sent = s.app.sent; taken = s.cull.taken };
      b = record { sent = s.cull.sent; taken = s.draw.taken };
      c = record { sent = s.draw.sent; taken = s.app.taken };
      stream = stream;
    }

-- The seats came home: the closed log is legal, has no entries of other numbers than theirs, and goes on from what each desk
-- has seen with no further entry of its number; and on each link what was received is a front of what was sent.
pub record CameHome {X Y : Type 0} (s : SitesOf X Y) (log : Log) : Type 0 where
  pub legal : (channels : ℕ) → IsLegal channels log
  pub within : (k : ℕ) → 4 ≤ k → of k log ≡ []
  pub app : Found 0 s.app.place.seen log
  pub cull : Found 1 s.cull.place.seen log
  pub draw : Found 2 s.draw.place.seen log
  pub dbase : Found 3 s.dbase.place.seen log
  pub link_a : LinkPart s.app.sent s.cull.taken
  pub link_b : LinkPart s.cull.sent s.draw.taken
  pub link_c : LinkPart s.draw.sent s.app.taken

-- The pipe that is gathered fits its play, and the frame sink was given its stream.
pub record IsPipeOf (g : Setup) (lines : List BaseLine) (s : Sites) (log : Log) (bytes bytes' : Option (List ℕ)) : Type 0 where
  pub stream : List ℕ
  pub wrote : bytes' ≡ append_known bytes stream
  pub fits : PipeFits g lines own_seats (pipe_of lines s log stream)

-- The four seats after polls of their stages, with the bytes of the frame sink before and after them.
pub record SeatsGo (old new : Sites) (bytes bytes' : Option (List ℕ)) : Type 0 where
  pub app : AppGoes old.app new.app bytes bytes'
  pub cull : CullGoes old.cull new.cull
  pub draw : DrawGoes old.draw new.draw
  pub dbase : DbaseGoes old.dbase new.dbase
