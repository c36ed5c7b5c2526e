-- What the stages are given, and their states.
use Rattle.std.specs.Prelude.{ℕ, Bool, if◌then◌else◌, List, [], ◌∷◌, ◌++◌, map, take, drop, Option}
use Rattle.std.specs.List.{fold}
use Rattle.fx_math.specs.declared.lenses.Lens.{Lens}
use Rattle.pf_model.specs.declared.lines.AppLine.{AppLine}
use Rattle.pf_model.specs.declared.lines.BaseLine.{BaseLine}
use Rattle.pf_model.specs.declared.lines.BaseStep.{BaseStep}
use Rattle.pf_model.specs.declared.lines.BaseStep.TheVariants as base
use Rattle.pf_model.specs.Graphs.{Nodes}
use Rattle.pf_model.specs.Merges.{BufferState}
use Rattle.draw_list.specs.declared.stats.Stats.{Stats}
use Rattle.pf_history.specs.Logs.{Log}
use Rattle.pf_history.specs.Asks.{Ask, BaseAsk, asked_from, asked_base_from}
use Rattle.stage_parts.specs.declared.packets.Packet.{Packet}
use Rattle.stage_parts.specs.Loads.{LoadState}

-- What the application's stage is given: its section of the play, how many merges the play has, the lens and the
-- background, how many frames may be in flight, and the number of channels.
pub record Setup : Type 0 where
  pub lines : List AppLine
  pub merges : ℕ
  pub lens : Lens
  pub back : List ℕ
  pub ahead : ℕ
  pub channels : ℕ

-- The application's stage: how many lines it passed, the greatest wait among them, whether a Sync stands since the last
-- Frame, whether the closing Sync was made and the End was sent; how many frames it began, how many pictures it wrote
-- wholly, and how many bytes of the next one before a fault of the sink; the packet that it holds to send, the loads in
-- its hand, and the numbers of the frames that came back.
pub record AppState : Type 0 where
  pub at : ℕ
  pub need : ℕ
  pub synced : Bool
  pub closed : Bool
  pub ended : Bool
  pub frames : ℕ
  pub written : ℕ
  pub fault : Option ℕ
  pub held : Option Packet
  pub spare : List LoadState
  pub stats : List Stats

-- The cull: its copy of the scene, whether the End was passed on, and the packet that it holds to send.
pub record CullState : Type 0 where
  pub nodes : Nodes
  pub ended : Bool
  pub held : Option Packet

-- The draw: whether the End was taken, and the packet that it holds to send.
pub record DrawState : Type 0 where
  pub ended : Bool
  pub held : Option Packet

-- The database process: how many lines it passed, the greatest await among them, and its buffer.
pub record DbaseState : Type 0 where
  pub at : ℕ
  pub need : ℕ
  pub buffer : BufferState

-- what is still asked of the application
abbrev pub still_asked : Setup → AppState → List Ask
still_asked g a = if a.closed then [] else asked_from a.need a.synced (drop a.at (map (λ l. l.step) g.lines))

-- the steps since the last buffer was opened or merged, where these were and one more is passed
abbrev pub since_step : List BaseStep → BaseStep → List BaseStep
since_step since base.Buffer = []
since_step since base.Merge = []
since_step since (base.Await n) = since
since_step since (base.Edit e) = since ++ base.Edit e ∷ []
since_step since (base.Ask e) = since ++ base.Ask e ∷ []

-- the steps of a section since the last buffer was opened or merged
abbrev pub steps_since : List BaseStep → List BaseStep
steps_since steps = fold since_step [] steps

-- the steps of the open buffer
abbrev pub in_buffer : List BaseLine → DbaseState → List BaseStep
in_buffer lines d = steps_since (take d.at (map (λ l. l.step) lines))

-- what is still asked of the database process
abbrev pub still_asked_dbase : List BaseLine → DbaseState → List BaseAsk
still_asked_dbase lines d = asked_base_from d.need (in_buffer lines d) (drop d.at (map (λ l. l.step) lines))

-- A link: all that was sent, and all that was received.
pub record Line : Type 0 where
  pub sent : List Packet
  pub taken : List Packet

-- The numbers of the desks of the application and of the database process.
pub record Seats : Type 0 where
  pub app : ℕ
  pub dbase : ℕ

-- The pipe: the history, the four stages, the links from APP to CULL (a), from CULL to DRAW (b) and from DRAW to APP
-- (c), and the bytes that the frame sink was given.
pub record PipeState : Type 0 where
  pub log : Log
  pub app : AppState
  pub cull : CullState
  pub draw : DrawState
  pub dbase : DbaseState
  pub a : Line
  pub b : Line
  pub c : Line
  pub stream : List ℕ
