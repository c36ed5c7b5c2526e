-- The pipe on one thread: its stages, its scene and its links, what it keeps, and what its events answer.
use Rattle.std.specs.Prelude.{◌≡◌, ◌⊎◌, ⊤, ℕ, ◌+◌, ◌≤◌, true, false, List, [], ◌∷◌, ◌++◌, map, take, slice_get, Option, None, Some, Result, Ok, Err}
use Rattle.std.specs.Io.KnownBytes.{append_known}
use Rattle.pf_history.specs.declared.commands.Caller.{Caller}
use Rattle.pf_history.specs.declared.commands.Caller.TheVariants.{App, Dbase}
use Rattle.pf_history.specs.declared.commands.Entry.{Entry}
use Rattle.pf_history.specs.Logs.{Log, state_of}
use Rattle.play_format.specs.Plays.{Script}
use Rattle.pf_scene.specs.Scenes.{SceneState, KeepsCopies}
use Rattle.frame_link.specs.declared.list_link.ListLink.{ListLink}
use Rattle.frame_link.specs.Ends.{list_room, list_sent, list_taken}
use Rattle.stage_parts.specs.declared.packets.Packet.{Packet}
use Rattle.stage_parts.specs.Packets.{bytes_in}
use Rattle.stage_parts.specs.Frames.{RetiresJust}
use Rattle.stage_parts.specs.Pictures.{streamed}
use Rattle.stage_parts.specs.States.{Line}
use Rattle.stage_parts.specs.declared.answers.Did.{Did}
use Rattle.stage_parts.specs.declared.answers.Did.TheVariants as did
use Rattle.stage_parts.specs.declared.answers.StageError.{StageError}
use Rattle.stage_parts.specs.declared.answers.StageError.TheVariants as error
use Rattle.frame_stages.specs.AppWorks.{AppWork, IsGiven}
use Rattle.frame_stages.specs.Copies.{HasHome}
use Rattle.frame_stages.specs.CullWorks.{CullWork, CullKeeps, cull_state}
use Rattle.frame_stages.specs.Works.{DrawWork}
use Rattle.frame_stages.specs.DbaseWorks.{DbaseWork, DbaseHolds, dbase_state}
use Rattle.pipe_core.specs.declared.events.Event.{Event}
use Rattle.pipe_core.specs.declared.events.Event.TheVariants as event
use Rattle.pipe_plays.specs.Plays.{setup_of}
use Rattle.pipe_core.specs.Cores.{CoreState, CoreFits}
use Rattle.pipe_core.specs.Waits.{IsOver, MustWait}
use Rattle.pipe_core.specs.Runs.{HasMoved, Ran}

-- A link on one thread: its room, and what was sent and received.
pub record LinkWork : Type 0 where
  pub room : ℕ
  pub line : Line

-- What contracts see of a pipe: its four stages, the scene, and the links from APP to CULL (a), from CULL to DRAW (b) and
-- from DRAW to APP (c).
pub record PipeWork : Type 0 where
  pub app : AppWork
  pub cull : CullWork
  pub draw : DrawWork
  pub dbase : DbaseWork
  pub scene : SceneState
  pub a : LinkWork
  pub b : LinkWork
  pub c : LinkWork

-- the core that a pipe of a play is; its stream are the pictures that came back
abbrev pub core_of : Script → PipeWork → CoreState
core_of play p =
    record {
      pipe = record {
        log = p.scene.shared.log;
        app = p.app.state;
        cull = cull_state p.cull;
        draw = p.draw.state;
        dbase = dbase_state play.dbase p.dbase;
        a = p.a.line;
        b = p.b.line;
        c = p.c.line;
        stream = streamed p.app.state.written p.app.state.fault (map bytes_in p.c.line.taken);
      };
      stopped = p.scene.shared.stopped;
    }

-- the links have room for one packet more than frames may be in flight
pub record HaveRoom (ahead : ℕ) (p : PipeWork) : Type 0 where
  pub a : p.a.room ≡ ahead + 1
  pub b : p.b.room ≡ ahead + 1
  pub c : p.c.room ≡ ahead + 1

-- a link through which nothing went
abbrev pub opening_link : ℕ → LinkWork
opening_link ahead = record { room = ahead + 1; line = record { sent = []; taken = [] } }

-- the scene before the first command
abbrev pub opening_scene : (ahead channels : ℕ) → SceneState
opening_scene ahead channels =
    record {
      shared = record { log = []; seat = 0; stopped = false; ahead = ahead; channels = channels };
      copies = 0;
      out = 0 ∷ [];
      accounted = true;
      told = 0;
    }

-- The stages are those of a play: each has what it is given.
pub record AreOf (play : Script) (ahead : ℕ) (p : PipeWork) : Type 0 where
  pub app : IsGiven (setup_of play ahead) p.app
  pub cull : p.cull.lens ≡ play.lens
  pub draw_lens : p.draw.lens ≡ play.lens
  pub draw_back : p.draw.back ≡ play.back
  pub in_flight : p.scene.shared.ahead ≡ ahead
  pub channels : p.scene.shared.channels ≡ play.channels

-- A pipe of a play keeps: it is a core that fits the play, its stages and links are as they were made, the waits passed
-- have their merges in the history, CULL's boxes are right where they can be, and DBASE holds to its section, unless it
-- wanted memory and set the stop mark. The update lists that APP is to bring home are those that came back since its last
-- Sync, and the copies that are out of the scene's cycles are accounted for.
pub record PipeKeeps (play : Script) (ahead : ℕ) (p : PipeWork) : Type 0 where
  pub core : CoreFits play ahead (core_of play p)
  pub stages : AreOf play ahead p
  pub room : HaveRoom ahead p
  pub waited : p.app.state.need ≤ (state_of play.channels p.scene.shared.log).merges
  pub cull : CullKeeps p.cull p.a.line.taken p.b.line.sent
  pub dbase : DbaseHolds play.dbase play.channels 0 p.dbase p.scene.shared.log
  pub failed : p.dbase.failed ≡ true → p.scene.shared.stopped ≡ true
  pub home : HasHome (setup_of play ahead) 0 p.app p.scene.shared.log p.c.line.taken
  pub copies : KeepsCopies p.scene

-- The error may come from the stage that the event polls: APP meets faults of the frame sink and may want memory, DBASE
-- may want memory, CULL and DRAW never fail.
abbrev pub MayFail : Event → StageError → Type 0
MayFail event.App e = ⊤
MayFail event.Dbase error.NoMemory = ⊤
MayFail _ _ = ⊥

-- What an event answers. Did: its stage was not over, and the core moved. NotYet: it changed nothing, and its stage has to
-- wait. Over: it changed nothing, and its stage is over. An error: its stage was not over, no entry was added, and the stop
-- mark is set.
abbrev pub Answers : Script → ℕ → Event → Result Did StageError → CoreState → CoreState → Type 0
Answers play ahead e (Ok did.Did) s t = HasMoved play e s t
Answers play ahead e (Ok did.NotYet) s t = (t ≡ s) × (IsOver play e s → ⊥) × MustWait play ahead e s
Answers play ahead e (Ok did.Over) s t = (t ≡ s) × IsOver play e s
Answers play ahead e (Err error) s t =
    (IsOver play e s → ⊥) × MayFail e error × (t.pipe.log ≡ s.pipe.log) × (t.stopped ≡ true)

-- the caller whose commands the stage that the event polls makes: CULL and DRAW make none
abbrev pub polled_caller : Event → Option Caller
polled_caller event.App = Some App
polled_caller event.Dbase = Some Dbase
polled_caller _ = None

-- An event adds nothing to the history, or one entry, which is of the caller of the stage that it polls. A Sync retires
-- just the frames whose pictures are wholly written, as many as these.
abbrev pub AddsAtMostOne : Event → ℕ → Log → Log → Type 0
AddsAtMostOne e written before after =
    (after ≡ before)
    ⊎ ((entry : Entry) × (polled_caller e ≡ Some entry.caller) × RetiresJust written entry.command
    × (after ≡ before ++ (0, entry) ∷ []))

-- An event of a pipe that keeps what a pipe of a play keeps: it keeps it, adds at most one entry, tells no frame's numbers,
-- and this is what it answers.
pub record Lifted (play : Script) (ahead : ℕ) (e : Event) (result : Result Did StageError) (p q : PipeWork) : Type 0 where
  pub keeps : PipeKeeps play ahead q
  pub adds : AddsAtMostOne e q.app.state.written p.scene.shared.log q.scene.shared.log
  pub told : q.app.told ≡ p.app.told
  pub answer : Answers play ahead e result (core_of play p) (core_of play q)

-- a link's room, and what was sent over it and received
abbrev pub link_work : ListLink Packet → LinkWork
link_work l = record { room = list_room l; line = record { sent = list_sent l; taken = list_taken l } }

-- What the frame sink was given: the stream grew by what was written.
pub record IsWritten (bytes bytes' : Option (List ℕ)) (s t : CoreState) : Type 0 where
  pub more : List ℕ
  pub stream : t.pipe.stream ≡ s.pipe.stream ++ more
  pub wrote : bytes' ≡ append_known bytes more

-- A poll of the application: what it answers, and what the frame sink was given. It does not close while lines are left, or
-- a packet is held.
pub record AppLifted (play : Script) (ahead : ℕ) (result : Result Did StageError) (p q : PipeWork)
    (bytes bytes' : Option (List ℕ)) : Type 0 where
  pub lifted : Lifted play ahead event.App result p q
  pub wrote : IsWritten bytes bytes' (core_of play p) (core_of play q)
  pub going : p.app.state.closed ≡ false →
      (p.app.rest ≡ [] → p.app.state.held ≡ None → IsOver play event.App (core_of play p)) → q.app.state.closed ≡ false

-- Events up to the first error: those before it answered none, and this one did.
pub record FailsAt (play : Script) (ahead : ℕ) (events : List Event) (error : StageError) (s t : CoreState) : Type 0 where
  pub place : ℕ
  pub event : Event
  pub there : slice_get events place ≡ Some event
  pub at : CoreState
  pub ran : Ran play ahead (take place events) s at
  pub fails : Answers play ahead event (Err error) at t

-- A pipe after events of which none answered an error, and what the frame sink was given.
pub record HasRun (play : Script) (ahead : ℕ) (events : List Event) (p q : PipeWork) (bytes bytes' : Option (List ℕ)) : Type 0 where
  pub keeps : PipeKeeps play ahead q
  pub ran : Ran play ahead events (core_of play p) (core_of play q)
  pub wrote : IsWritten bytes bytes' (core_of play p) (core_of play q)
