-- The running system while no poll is under way, and when a poll of a stage, alone, would do nothing.
use Rattle.std.specs.Prelude.{◌≡◌, ◌⊎◌, ℕ, ◌+◌, ◌≤◌, true, List, Option, Some}
use Rattle.atomic_table.specs.Seated.{TableId}
use Rattle.play_format.specs.Plays.{Script}
use Rattle.pf_scene.specs.Scenes.{SceneState}
use Rattle.stage_parts.specs.Answers.{IsFull, IsDry, WaitsToPass}
use Rattle.frame_stages.specs.Flights.{SinkSide}
use Rattle.frame_stages.specs.AppWorks.{is_done, merges_in}
use Rattle.frame_stages.specs.AppAnswers.{Ends, AppWaits}
use Rattle.frame_stages.specs.DbaseWorks.{is_ended, has_ended}
use Rattle.frame_stages.specs.DbaseAnswers.{HasToWait}
use Rattle.pipe_plays.specs.Plays.{setup_of}
use Rattle.mode_hosts.specs.Gathering.{Sites, AreTogether, SeatsKeep, CameHome}

-- A stage of the pipe.
pub data Stage : Type 0 where
  App : Stage
  Cull : Stage
  Draw : Stage
  Dbase : Stage

-- The system while no poll is under way: the four stages at their desks, the scene that they share, and what is known of the
-- frame sink.
pub record System : Type 0 where
  pub sites : Sites
  pub scene : SceneState
  pub sink : SinkSide

-- What a system of a play keeps, where so many frames may be in flight and the frame sink had these bytes before: its desks
-- and links belong together; each seat keeps its part; the seats could come home to the scene's log as it is; the merges that
-- APP waited for stand in the log that it has seen; and a fault of the frame sink, or want of memory of DBASE, has set the
-- stop mark.
pub record IsOfPlay (play : Script) (ahead : ℕ) (bytes : Option (List ℕ)) (s : System) : Type 0 where
  pub lock : TableId
  pub together : AreTogether lock s.sites
  pub seats : SeatsKeep (setup_of play ahead) play.dbase s.sites bytes s.sink.bytes
  pub scene : CameHome s.sites s.scene.shared.log
  pub in_flight : s.scene.shared.ahead ≡ ahead
  pub channels : s.scene.shared.channels ≡ play.channels
  pub waited : s.sites.app.work.state.need ≤ merges_in s.sites.app.place.seen
  pub faulted : (n : ℕ) → s.sites.app.work.state.fault ≡ Some n → s.scene.shared.stopped ≡ true
  pub failed : s.sites.dbase.work.failed ≡ true → s.scene.shared.stopped ≡ true

-- The stage has come to its end: APP has sent the End, CULL has passed it on, DRAW has taken it, and DBASE has passed each line
-- of its section.
abbrev pub HasEnded : Stage → System → Type 0
HasEnded App s = s.sites.app.work.state.ended ≡ true
HasEnded Cull s = s.sites.cull.work.ended ≡ true
HasEnded Draw s = s.sites.draw.work.state.ended ≡ true
HasEnded Dbase s = has_ended s.sites.dbase.work ≡ true

-- The stage does no more: it has ended, or broken off, which APP does at a fault of the frame sink and DBASE for want of memory.
abbrev pub IsDone : Stage → System → Type 0
IsDone App s = is_done s.sites.app.work.state ≡ true
IsDone Cull s = s.sites.cull.work.ended ≡ true
IsDone Draw s = s.sites.draw.work.state.ended ≡ true
IsDone Dbase s = is_ended s.sites.dbase.work.rest ≡ true

-- The stage is over: a poll of it answers Over.
abbrev pub IsOver : Stage → System → Type 0
IsOver stage s = IsDone stage s ⊎ (s.scene.shared.stopped ≡ true)

-- what there is to know of APP's ends, where the links have room for one packet more than frames may be in flight
abbrev pub app_ends : ℕ → System → Ends
app_ends ahead s =
    record {
      taken = s.sites.app.taken;
      sent = s.sites.app.sent;
      told_sent = Some s.sites.draw.sent;
      told_taken = Some s.sites.cull.taken;
      room = ahead + 1;
      sink = s.sink;
    }

-- Why the stage has to wait: the cause that the contract of its poll names, where the desk tells the scene and the ends tell
-- what went over the links.
abbrev pub MustWait : ℕ → Stage → System → Type 0
MustWait ahead App s = AppWaits s.sites.app.work (Some s.scene) (app_ends ahead s) s.scene.shared.log
MustWait ahead Cull s =
    WaitsToPass s.sites.cull.work.held (IsDry (Some s.sites.app.sent) s.sites.cull.taken)
    (IsFull (ahead + 1) (Some s.sites.draw.taken) s.sites.cull.sent)
MustWait ahead Draw s =
    WaitsToPass s.sites.draw.work.state.held (IsDry (Some s.sites.cull.sent) s.sites.draw.taken)
    (IsFull (ahead + 1) (Some s.sites.app.taken) s.sites.draw.sent)
MustWait ahead Dbase s = HasToWait s.sites.dbase.work.rest s.sites.dbase.work.hand s.scene.shared.log

-- The stage waits: a poll of it, alone, answers NotYet.
abbrev pub IsWaiting : ℕ → Stage → System → Type 0
IsWaiting ahead stage s = (IsOver stage s → ⊥) × MustWait ahead stage s

-- A poll of the stage, alone, would do nothing.
abbrev pub WouldRest : ℕ → Stage → System → Type 0
WouldRest ahead stage s = IsWaiting ahead stage s ⊎ IsOver stage s
