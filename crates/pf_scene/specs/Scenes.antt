-- What clauses see of the scene, and what its type keeps.
use Rattle.std.specs.Prelude.{◌≡◌, ℕ, ◌+◌, ◌-◌, ◌^◌, ◌<◌, ◌≤◌, max, ◌==◌, Bool, true, if◌then◌else◌, is_some, Option, List, [], ◌∷◌, ◌++◌, length, take, drop, get_or, Some, None}
use Rattle.std.specs.List.{sum_by, list_any}
use Rattle.pf_model.specs.declared.nodes.Node.{Node}
use Rattle.pf_model.specs.Kinds.{geom_of, is_geode}
use Rattle.pf_model.specs.Graphs.{node_at}
use Rattle.pf_model.specs.Edits.{fault_of}
use Rattle.pf_model.specs.Merges.{merge_fault}
use Rattle.pf_model.specs.Copies.{UpdateList}
use Rattle.pf_history.specs.declared.commands.Command.{Command}
use Rattle.pf_history.specs.declared.commands.Entry.{Entry}
use Rattle.pf_history.specs.declared.commands.Command.TheVariants as command
use Rattle.pf_history.specs.Objects.{FrameState}
use Rattle.pf_history.specs.Logs.{Log, state_of, IsLegal}
use Rattle.pf_history.specs.Laws.{own_entry}
use Rattle.pf_history.specs.Cuts.{marked}
use Rattle.pf_history.specs.Away.{came_back_between}
use Rattle.pf_scene.specs.Stock.{Written, makes_geode}
use Rattle.cycle_buffer.specs.Cycles.{CyclesState, written_at}
use Rattle.pf_scene.specs.Counts.{FitHome, AreCounted, fitting_in_all}

-- What the stages share: the log, the number of the seat under which the next entries stand, whether the stop mark is
-- set, how many frames may be ahead, and how many channels there are.
pub record Shared : Type 0 where
  pub log : Log
  pub seat : ℕ
  pub stopped : Bool
  pub ahead : ℕ
  pub channels : ℕ

-- What clauses see of the scene: what is shared, the greatest number of copies that a geode's cycle has had, how many
-- copies of a geode's triangles are out, by serials from 0 on, whether they are accounted for (`are_accounted`: no cycle
-- has had more than frames may be ahead and one more, and of no geode's triangles more are out than are away), and how many
-- entries of the log were told, the oldest ones.
pub record SceneState : Type 0 where
  pub shared : Shared
  pub copies : ℕ
  pub out : List ℕ
  pub accounted : Bool
  pub told : ℕ

-- how many copies are out under a serial
abbrev pub out_in : SceneState → ℕ → ℕ
out_in s serial = get_or s.out serial 0

-- the copies that are out are accounted for, and no cycle has had more copies than frames may be ahead and one more
abbrev pub KeepsCopies : SceneState → Type 0
KeepsCopies s = (s.accounted ≡ true) × (s.copies ≤ s.shared.ahead + 1)

-- the state of the one-thread object after the log
abbrev pub state_in : Shared → FrameState
state_in s = state_of s.channels s.log

-- these update lists are what came back of the frames that a Sync retires
abbrev pub AreOfRetired : ℕ → Shared → List UpdateList → Type 0
AreOfRetired retired s lists = lists ≡ came_back_between s.channels s.log (state_in s).retired retired

-- Each geode took back its arrays among these lists: those that are as long as its triangles, as many as were out.
abbrev pub TakesHome : List UpdateList → SceneState → SceneState → Type 0
TakesHome lists old new =
    (id : ℕ) (n : Node) → node_at (state_in old.shared).graph.nodes id ≡ Some n → is_geode n.kind ≡ true →
    out_in new n.serial ≡ out_in old n.serial - fitting_in_all (geom_of n.kind) n.serial lists

-- the one-thread object's own entry for a command stands at the end of the log
abbrev pub entered : Command → Shared → Shared
entered c s = record s { log = s.log ++ own_entry s.channels s.log s.seat c ∷ [] }

-- the oldest entry that was not told is told now, and nothing else changes; or all were told before
abbrev pub TellsOne : SceneState → SceneState → Option (ℕ × Entry) → Type 0
TellsOne old new (Some e) =
    (new ≡ record old { told = old.told + 1 }) × (drop old.told old.shared.log ≡ e ∷ drop (old.told + 1) old.shared.log)
TellsOne old new None = (new ≡ old) × (old.told ≡ length old.shared.log)

-- the entries to be told next, up to so many: the oldest ones that were not told
abbrev pub next_told : ℕ → SceneState → Log
next_told most s = take most (drop s.told s.shared.log)

-- these are told now, and nothing else changes
abbrev pub TellsNext : ℕ → SceneState → SceneState → Type 0
TellsNext most old new = new ≡ record old { told = old.told + length (next_told most old) }

-- what a command adds to the weight of a log: its entry, and the edits of a merge
abbrev pub weight_of : Command → ℕ
weight_of (command.Merge m) = 1 + length m.edits
weight_of _ = 1

-- the number of the entries of a log and of the edits of its merges
abbrev pub weight_in : Log → ℕ
weight_in log = sum_by (λ e. weight_of e.1.command) log

-- with this command the weight stays below 2 ^ 31
abbrev pub HasWeight : Shared → Command → Type 0
HasWeight s c = weight_in s.log + weight_of c < 2 ^ 31

-- the greatest number of copies after one more cycle was made, where one was
abbrev pub with_cycle : Bool → ℕ → ℕ → ℕ
with_cycle made ahead most = if made then max most (ahead + 1) else most

-- the greatest number of copies after a Frame, where the cycles had at most so many: as long as there was none, none
abbrev pub with_grown : ℕ → ℕ → ℕ
with_grown cycles most = if most == 0 then 0 else max most cycles

-- what a Frame can make of the greatest number of copies: one more, where there was a cycle
abbrev pub one_more : ℕ → ℕ
one_more most = if most == 0 then 0 else most + 1

-- the greatest number of copies after an edit or a merge: each geode that it makes has `ahead` + 1 copies
abbrev pub copies_after : ℕ → FrameState → Command → ℕ → ℕ
copies_after ahead s (command.Edit e) most =
    if is_some (fault_of s.graph e) then most else with_cycle (makes_geode e) ahead most
copies_after ahead s (command.Merge m) most =
    if is_some (merge_fault s.graph m.edits) then most else with_cycle (list_any makes_geode m.edits) ahead most
copies_after ahead s _ most = most

-- from 1 to 4
abbrev pub IsSmall : ℕ → Type 0
IsSmall n = (1 ≤ n) × (n ≤ 4)

-- What the type of a scene keeps: the history is legal, the state is the state after it, the marked ids are those that
-- the next Frame cuts, and the weight is that of the log.
pub record IsKept (channels : ℕ) (log : Log) (state : FrameState) (marks : List ℕ) (weight : ℕ) : Type 0 where
  pub legal : IsLegal channels log
  pub after : state_of channels log ≡ state
  pub marks_are : marked channels log ≡ marks
  pub weighs : weight ≡ weight_in log
  pub light : weight < 2 ^ 31

-- A scene: what it keeps of its history and of its cycles, and its two numbers from 1 to 4.
pub record IsScene (ahead channels : ℕ) (log : Log) (state : FrameState) (marks : List ℕ) (weight : ℕ) (written : Written) : Type 0 where
  pub few_ahead : IsSmall ahead
  pub few_channels : IsSmall channels
  pub kept : IsKept channels log state marks weight
  pub home : FitHome channels log state.graph.next_serial written

-- What the type of a scene keeps: the scene, and the numbers of copies of its cycles.
pub record KeepsScene (ahead channels : ℕ) (log : Log) (state : FrameState) (marks : List ℕ) (weight copies : ℕ)
    (c : CyclesState) : Type 0 where
  pub scene : IsScene ahead channels log state marks weight (written_at c)
  pub counted : AreCounted ahead copies c
