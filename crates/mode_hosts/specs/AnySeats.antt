-- The seats of a play whose draw lists go whole or in pieces: what they keep, and the pipe that they make.
use Rattle.std.specs.Prelude.{◌≡◌, ℕ, List, [], Option}
use Rattle.std.specs.Io.KnownBytes.{append_known}
use Rattle.seat_lock.specs.Log.{of}
use Rattle.pf_model.specs.declared.lines.BaseLine.{BaseLine}
use Rattle.pf_history.specs.Logs.{Log}
use Rattle.stage_parts.specs.States.{Setup, PipeState}
use Rattle.stage_parts.specs.Pipes.{PipeFits}
use Rattle.frame_stages.specs.DbaseWorks.{dbase_state}
use Rattle.stream_stages.specs.WholeFrames.{WholeFrames}
use Rattle.mode_hosts.specs.Works.{AnyCullWork, AnyDrawWork, cull_lens, draw_lens, draw_back, KeepsCull, KeepsDraw}
use Rattle.mode_hosts.specs.Sites.{Site, AppGoes, AnyCullGoes, AnyDrawGoes, DbaseGoes}
use Rattle.mode_hosts.specs.Gathering.{own_seats, SitesOf, AppSeatKeeps, DbaseSeatKeeps}

-- the seats of the four stages of a play
abbrev pub AnySites : Type 0
AnySites = SitesOf AnyCullWork AnyDrawWork

-- What CULL's seat keeps: its part, and no entries of its number.
pub record AnyCullSeatKeeps (g : Setup) (s : Site AnyCullWork) : Type 0 where
  pub lens : cull_lens s.work ≡ g.lens
  pub keeps : KeepsCull s.work s.taken s.sent
  pub own : of s.place.number s.place.seen ≡ []

-- What DRAW's seat keeps: its part, and no entries of its number.
pub record AnyDrawSeatKeeps (g : Setup) (s : Site AnyDrawWork) : Type 0 where
  pub lens : draw_lens s.work ≡ g.lens
  pub back : draw_back s.work ≡ g.back
  pub keeps : KeepsDraw s.work s.taken s.sent
  pub own : of s.place.number s.place.seen ≡ []

-- What the four seats keep, with the bytes of the frame sink before the play and now.
pub record AnySeatsKeep (g : Setup) (lines : List BaseLine) (s : AnySites) (bytes bytes' : Option (List ℕ)) : Type 0 where
  pub app : AppSeatKeeps g s.app bytes bytes'
  pub cull : AnyCullSeatKeeps g s.cull
  pub draw : AnyDrawSeatKeeps g s.draw
  pub dbase : DbaseSeatKeeps lines g.channels s.dbase

-- The four seats after polls of their stages, with the bytes of the frame sink before and after them.
pub record AnySeatsGo (old new : AnySites) (bytes bytes' : Option (List ℕ)) : Type 0 where
  pub app : AppGoes old.app new.app bytes bytes'
  pub cull : AnyCullGoes old.cull new.cull
  pub draw : AnyDrawGoes old.draw new.draw
  pub dbase : DbaseGoes old.dbase new.dbase

-- the pipe that APP and DBASE make with the log of the closed lock, where CULL and DRAW handed this on between APP's links
abbrev pub pipe_around : {X Y : Type 0} → List BaseLine → SitesOf X Y → WholeFrames → Log → List ℕ → PipeState
pipe_around lines s w log stream =
    record {
      log = log;
      app = s.app.work.state;
      cull = w.cull;
      draw = w.draw;
      dbase = dbase_state lines s.dbase.work;
      a = record { sent = s.app.sent; taken = w.a_taken };
      b = record { sent = w.b_sent; taken = w.b_taken };
      c = record { sent = s.draw.sent; taken = s.app.taken };
      stream = stream;
    }

-- The seats make a pipe that fits the play, each frame that DRAW sent seen as handed on whole, and the frame sink was given
-- its stream.
pub record HavePipe (g : Setup) (lines : List BaseLine) (s : AnySites) (log : Log) (bytes bytes' : Option (List ℕ)) : Type 0 where
  pub between : WholeFrames
  pub stream : List ℕ
  pub wrote : bytes' ≡ append_known bytes stream
  pub fits : PipeFits g lines own_seats (pipe_around lines s between log stream)
