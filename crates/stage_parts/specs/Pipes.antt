-- The pipe invariant: how the history, the stages, the links and the stream of a pipe belong together.
use Rattle.std.specs.Prelude.{◌≡◌, true, List, length}
use Rattle.pf_model.specs.declared.lines.BaseLine.{BaseLine}
use Rattle.pf_history.specs.declared.commands.Caller.TheVariants.{App, Dbase}
use Rattle.pf_history.specs.Logs.{Log, IsLegal, is_by}
use Rattle.pf_history.specs.Asks.{Ask, BaseAsk, asked_dbase}
use Rattle.pf_history.specs.Fits.{FollowsPlay}
use Rattle.stage_parts.specs.Loads.{Each}
use Rattle.stage_parts.specs.Packets.{LinkPart}
use Rattle.stage_parts.specs.States.{Setup, Seats, PipeState, still_asked, still_asked_dbase}
use Rattle.stage_parts.specs.Parts.{AppPart, CullPart, DrawPart, StreamPart, LoadPart, BufferPart}

-- The history is legal, and what was made of each section is the first of what it asks, each where it may be made, where
-- these are still asked. Each entry of the application has the number of its desk, and each merge that of DBASE's.
pub record HistoryPart (g : Setup) (dbase : List BaseLine) (seats : Seats) (log : Log) (left_app : List Ask)
    (left_dbase : List BaseAsk) : Type 0 where
  pub legal : IsLegal g.channels log
  pub follows : FollowsPlay g.channels g.ahead g.lines dbase log left_app left_dbase
  pub app_entries : Each (λ e. is_by App e ≡ true → e.0 ≡ seats.app) log
  pub dbase_entries : Each (λ e. is_by Dbase e ≡ true → e.0 ≡ seats.dbase) log

-- A pipe fits what its stages are given.
pub record PipeFits (g : Setup) (dbase : List BaseLine) (seats : Seats) (s : PipeState) : Type 0 where
  pub merges : g.merges ≡ length (asked_dbase dbase)
  pub history : HistoryPart g dbase seats s.log (still_asked g s.app) (still_asked_dbase dbase s.dbase)
  pub link_a : LinkPart s.a.sent s.a.taken
  pub link_b : LinkPart s.b.sent s.b.taken
  pub link_c : LinkPart s.c.sent s.c.taken
  pub app : AppPart g seats.app s.app s.log s.a.sent
  pub cull : CullPart g.lens s.cull s.a.taken s.b.sent
  pub draw : DrawPart g.lens g.back s.draw s.b.taken s.c.sent
  pub stream : StreamPart g seats.app s.app s.log s.c.taken s.stream
  pub loads : LoadPart g s.app s.c.taken
  pub buffer : BufferPart dbase s.dbase
