-- The pipe invariant and what the stages keep.
use Rattle.std.specs.Prelude.{◌≡◌, ◌+◌, ◌<◌, true, List, [], length, Some, None}
use Rattle.pf_model.specs.declared.lines.BaseLine.{BaseLine}
use Rattle.pf_history.specs.declared.commands.Caller.TheVariants.{App, Dbase}
use Rattle.pf_history.specs.Logs.{IsLegal, is_by, state_of}
use Rattle.pf_history.specs.Asks.{asked_dbase}
use Rattle.pf_history.specs.Fits.{turns_at, FitsPlay, FitsWholly}
use Rattle.stage_parts.specs.declared.packets.Packet.{Packet}
use Rattle.stage_parts.specs.Loads.{Each}
use Rattle.stage_parts.specs.Packets.{LinkPart}
use Rattle.stage_parts.specs.Frames.{last_sync}
use Rattle.stage_parts.specs.States.{Setup, Seats, PipeState, still_asked, still_asked_dbase}
use Rattle.stage_parts.specs.Parts.{AppKeeps, CullPart, DrawPart, DbaseKeeps}
use Rattle.stage_parts.specs.Pipes.{PipeFits}

-- What is gathered of the stages, the links and the lock: a legal history in which each caller's entries have the number
-- of its desk, the links, and what each stage keeps.
pub record IsGathered (g : Setup) (dbase : List BaseLine) (seats : Seats) (s : PipeState) : Type 0 where
  pub merges : g.merges ≡ length (asked_dbase dbase)
  pub legal : IsLegal g.channels s.log
  pub app_entries : Each (λ e. is_by App e ≡ true → e.0 ≡ seats.app) s.log
  pub dbase_entries : Each (λ e. is_by Dbase e ≡ true → e.0 ≡ seats.dbase) s.log
  pub link_a : LinkPart s.a.sent s.a.taken
  pub link_b : LinkPart s.b.sent s.b.taken
  pub link_c : LinkPart s.c.sent s.c.taken
  pub app : AppKeeps g seats.app s.app s.log s.c.taken s.a.sent s.stream
  pub cull : CullPart g.lens s.cull s.a.taken s.b.sent
  pub draw : DrawPart g.lens g.back s.draw s.b.taken s.c.sent
  pub base : DbaseKeeps dbase g.channels seats.dbase s.dbase s.log

-- The pipe fits where its parts are gathered, and only there; then its history fits the play, and wholly where nothing is
-- still asked.
pub record FitsAsGathered (g : Setup) (dbase : List BaseLine) (seats : Seats) (s : PipeState) : Type 0 where
  pub fits : IsGathered g dbase seats s → PipeFits g dbase seats s
  pub gathered : PipeFits g dbase seats s → IsGathered g dbase seats s
  pub play : PipeFits g dbase seats s → FitsPlay g.channels g.ahead g.lines dbase s.log
  pub wholly : PipeFits g dbase seats s → still_asked g s.app ≡ [] → still_asked_dbase dbase s.dbase ≡ [] →
      FitsWholly g.channels g.ahead g.lines dbase s.log

abbrev pub GatheringLaw : Type 0
GatheringLaw = (g : Setup) (dbase : List BaseLine) (seats : Seats) (s : PipeState) → FitsAsGathered g dbase seats s

-- Each link that has room for one packet more than frames may be in flight has room for what its stage holds.
pub record LinksHaveRoom (g : Setup) (s : PipeState) : Type 0 where
  pub a : (p : Packet) → s.app.held ≡ Some p → length s.a.sent < length s.a.taken + (g.ahead + 1)
  pub b : (p : Packet) → s.cull.held ≡ Some p → length s.b.sent < length s.b.taken + (g.ahead + 1)
  pub c : (p : Packet) → s.draw.held ≡ Some p → length s.c.sent < length s.c.taken + (g.ahead + 1)

-- The End follows the closing Sync from stage to stage, and where the application has closed, all frames have come back.
pub record EndsFollow (s : PipeState) : Type 0 where
  pub app : s.app.ended ≡ true → s.app.closed ≡ true
  pub cull : s.cull.ended ≡ true → s.app.ended ≡ true
  pub draw : s.draw.ended ≡ true → s.cull.ended ≡ true
  pub back : s.app.closed ≡ true → length s.c.taken ≡ s.app.frames

-- Where no stage holds a packet and all that was sent was received, all frames have come back, and were written but for
-- one that a fault cut short; and each stage has ended where the application has closed.
pub record IsDrained (s : PipeState) : Type 0 where
  pub app_held : s.app.held ≡ None
  pub cull_held : s.cull.held ≡ None
  pub draw_held : s.draw.held ≡ None
  pub a : s.a.taken ≡ s.a.sent
  pub b : s.b.taken ≡ s.b.sent
  pub c : s.c.taken ≡ s.c.sent

pub record AllCameBack (s : PipeState) : Type 0 where
  pub back : length s.c.taken ≡ s.app.frames
  pub written : s.app.fault ≡ None → s.app.written ≡ s.app.frames
  pub app : s.app.ended ≡ s.app.closed
  pub cull : s.cull.ended ≡ s.app.closed
  pub draw : s.draw.ended ≡ s.app.closed

-- The state after the history has as many frames as APP has begun, and retired as many as its last Sync says; where a
-- Sync stands since the last Frame, it has room for one more.
pub record StateAgrees (g : Setup) (seats : Seats) (s : PipeState) : Type 0 where
  pub frames : (state_of g.channels s.log).frames ≡ s.app.frames
  pub retired : (state_of g.channels s.log).retired ≡ last_sync (turns_at g.channels seats.app App s.log)
  pub room : s.app.synced ≡ true → (state_of g.channels s.log).frames < (state_of g.channels s.log).retired + g.ahead

-- How the frames and the packets of a pipe that fits are counted.
pub record IsCounted (g : Setup) (seats : Seats) (s : PipeState) : Type 0 where
  pub state : StateAgrees g seats s
  pub room : LinksHaveRoom g s
  pub ends : EndsFollow s
  pub drained : IsDrained s → AllCameBack s

abbrev pub CountingLaw : Type 0
CountingLaw =
    (g : Setup) (dbase : List BaseLine) (seats : Seats) (s : PipeState) →
    PipeFits g dbase seats s → IsCounted g seats s
