-- A poll of one stage, alone: what its contract says where the desk tells the scene and the ends tell what went over the links.
use Rattle.std.specs.Prelude.{◌≡◌, ⊤, ℕ, ◌≤◌, false, [], None, Some, Result, Ok, Err}
use Rattle.pf_history.specs.Logs.{Log, IsLegal}
use Rattle.stage_parts.specs.Packets.{LinkPart}
use Rattle.stage_parts.specs.declared.answers.Did.{Did}
use Rattle.stage_parts.specs.declared.answers.Did.TheVariants as did
use Rattle.stage_parts.specs.declared.answers.StageError.{StageError}
use Rattle.stage_parts.specs.Answers.{Placed, PassesOn, is_over}
use Rattle.frame_stages.specs.Looks.{FoundMark}
use Rattle.frame_stages.specs.AppWorks.{merges_in}
use Rattle.frame_stages.specs.AppAnswers.{Around, around, AppAnswers, is_fault}
use Rattle.frame_stages.specs.DbaseAnswers.{Known, IsDbaseAnswer}
use Rattle.mode_hosts.specs.Sites.{Site}
use Rattle.mode_hosts.specs.Gathering.{SeatsGo}
use Rattle.mode_hosts.specs.Waits.{Stage, App, Cull, Draw, Dbase, System, IsDone, MustWait, app_ends}

-- the number of the stage's desk
abbrev pub desk_number : Stage → ℕ
desk_number App = 0
desk_number Cull = 1
desk_number Draw = 2
desk_number Dbase = 3

-- the log that the stage's desk has seen
abbrev pub seen_by : Stage → System → Log
seen_by App s = s.sites.app.place.seen
seen_by Cull s = s.sites.cull.place.seen
seen_by Draw s = s.sites.draw.place.seen
seen_by Dbase s = s.sites.dbase.place.seen

-- No poll was made: the history is empty, as each desk has seen it, nothing was received, and no stage has waited or failed.
pub record HasNotBegun (s : System) : Type 0 where
  pub log : s.scene.shared.log ≡ []
  pub seen : (stage : Stage) → seen_by stage s ≡ []
  pub a : s.sites.cull.taken ≡ []
  pub b : s.sites.draw.taken ≡ []
  pub c : s.sites.app.taken ≡ []
  pub waited : s.sites.app.work.state.need ≡ 0
  pub faulted : s.sites.app.work.state.fault ≡ None
  pub failed : s.sites.dbase.work.failed ≡ false

-- the stage's seat is as it was
abbrev pub IsSameSeat : Stage → (s t : System) → Type 0
IsSameSeat App s t = t.sites.app ≡ s.sites.app
IsSameSeat Cull s t = t.sites.cull ≡ s.sites.cull
IsSameSeat Draw s t = t.sites.draw ≡ s.sites.draw
IsSameSeat Dbase s t = t.sites.dbase ≡ s.sites.dbase

-- around APP
abbrev pub around_app : ℕ → System → Around
around_app ahead s = around (seen_by App s) (Some s.scene) (app_ends ahead s)

-- a stage with what it took and sent
abbrev pub placed : {X : Type 0} → Site X → Placed X
placed site = record { state = site.work; taken = site.taken; sent = site.sent }

-- what DBASE's desk knows
abbrev pub known_to_dbase : System → Known
known_to_dbase s = record { seen = seen_by Dbase s; told = Some s.scene }

-- What APP's contract says of its answer, of its waits, and of faults.
pub record AppSays (ahead : ℕ) (result : Result Did StageError) (s t : System) : Type 0 where
  pub answer : AppAnswers result 0 s.sites.app.work t.sites.app.work (around_app ahead s) (around_app ahead t)
  pub waited : s.sites.app.work.state.need ≤ merges_in (seen_by App s) → t.sites.app.work.state.need ≤ merges_in (seen_by App t)
  pub whole : is_fault result ≡ false → t.sites.app.work.state.fault ≡ s.sites.app.work.state.fault

-- What the contract of the stage's poll says of its answer. CULL and DRAW leave the scene.
abbrev pub Says : ℕ → Stage → Result Did StageError → (s t : System) → Type 0
Says ahead App result s t = AppSays ahead result s t
Says ahead Cull result s t = PassesOn result (placed s.sites.cull) (placed t.sites.cull) (MustWait ahead Cull s) × (t.scene ≡ s.scene)
Says ahead Draw result s t = PassesOn result (placed s.sites.draw) (placed t.sites.draw) (MustWait ahead Draw s) × (t.scene ≡ s.scene)
Says ahead Dbase result s t = IsDbaseAnswer 3 result s.sites.dbase.work t.sites.dbase.work (known_to_dbase s) (known_to_dbase t)

-- A poll of a stage, alone, from one system to another.
pub record IsPoll (ahead : ℕ) (stage : Stage) (result : Result Did StageError) (s t : System) : Type 0 where
  -- the answer; it is Over where the stage was done, or else exactly where the look found the stop mark
  pub says : Says ahead stage result s t
  pub done : IsDone stage s → result ≡ Ok did.Over
  pub looked : (IsDone stage s → ⊥) → FoundMark (desk_number stage) (seen_by stage s) (Some s.scene) (is_over result)
  -- after a look or a turn the desk has seen the scene's whole log
  pub seen : (IsDone stage s → ⊥) → seen_by stage t ≡ t.scene.shared.log
  -- the seats go on as their polls ensure, and those of the other stages stay
  pub seats : SeatsGo s.sites t.sites s.sink.bytes t.sink.bytes
  pub others : (other : Stage) → (other ≡ stage → ⊥) → IsSameSeat other s t
  -- what the types of the scene and of the links keep
  pub legal : (channels : ℕ) → IsLegal channels t.scene.shared.log
  pub link_a : LinkPart t.sites.app.sent t.sites.cull.taken
  pub link_b : LinkPart t.sites.cull.sent t.sites.draw.taken
  pub link_c : LinkPart t.sites.draw.sent t.sites.app.taken

-- the answer of a poll that did something: Did, or an error
abbrev pub IsOfDoing : Result Did StageError → Type 0
IsOfDoing (Ok did.Did) = ⊤
IsOfDoing (Ok did.NotYet) = ⊥
IsOfDoing (Ok did.Over) = ⊥
IsOfDoing (Err e) = ⊤

-- a poll of the stage, alone, did something
abbrev pub DidSomething : ℕ → Stage → (s t : System) → Type 0
DidSomething ahead stage s t = (result : Result Did StageError) × IsOfDoing result × IsPoll ahead stage result s t
