-- The update list that each Frame of a history cuts, and the copies that these lists keep.
use Rattle.std.specs.Prelude.{ℕ, ◌-◌, if◌then◌else◌, List, [], ◌∷◌, map, is_some, take, slice_index_or}
use Rattle.pf_model.specs.Graphs.{Nodes, node_at}
use Rattle.pf_model.specs.Edits.{fault_of}
use Rattle.pf_model.specs.Merges.{merge_fault}
use Rattle.pf_model.specs.Copies.{named_by, UpdateList, put_all, updates_of, copy_of}
use Rattle.pf_history.specs.declared.commands.Command.{Command}
use Rattle.pf_history.specs.declared.commands.Command.TheVariants as command
use Rattle.pf_history.specs.Objects.{FrameState, opening_state, next_state}
use Rattle.pf_history.specs.Commands.{is_frame}
use Rattle.pf_history.specs.Logs.{Log, state_of}

-- the ids that a command names, where it is an accepted edit or merge
abbrev pub names : FrameState → Command → List ℕ
names s (command.Edit e) = if is_some (fault_of s.graph e) then [] else named_by e ∷ []
names s (command.Merge m) = if is_some (merge_fault s.graph m.edits) then [] else map named_by m.edits
names s _ = []

-- A Frame: the ids named since the Frame before it, rising, and the state that it found.
pub record Cutting : Type 0 where
  pub ids : List ℕ
  pub found : FrameState

-- the Frames of a log, from a state on, where these ids were named since the last Frame
abbrev pub cuttings : List ℕ → FrameState → Log → List Cutting
cuttings ids s [] = []
cuttings ids s (e ∷ es) =
    if is_frame e.1.command then record { ids = ids; found = s } ∷ cuttings [] (next_state s e.1.command) es
    else cuttings (put_all (names s e.1.command) ids) (next_state s e.1.command) es

-- the states that the Frames of a log found
abbrev pub found_by_frames : ℕ → Log → List FrameState
found_by_frames channels log = map (λ c. c.found) (cuttings [] (opening_state channels) log)

-- the update list that a Frame cuts: the ids named since the Frame before it, each with its node before the Frame
abbrev pub cut_at : Cutting → UpdateList
cut_at c = updates_of (node_at c.found.graph.nodes) c.ids

-- the update lists of all Frames of a log
abbrev pub cuts_of : ℕ → Log → List UpdateList
cuts_of channels log = map cut_at (cuttings [] (opening_state channels) log)

-- the copy that the first k update lists keep
abbrev pub copy_after : ℕ → Log → ℕ → Nodes
copy_after channels log k = copy_of (take k (cuts_of channels log))

-- the update list that Frame k cuts, counted from 1
abbrev pub cut_of : ℕ → Log → ℕ → UpdateList
cut_of channels log k = slice_index_or (cuts_of channels log) (k - 1) []

-- the ids named since the last Frame, where these were and one more command was made in this state
abbrev pub marks_after : List ℕ → FrameState → Command → List ℕ
marks_after ids s c = if is_frame c then [] else put_all (names s c) ids

-- the ids named since the last Frame of a log, from a state on where these were
abbrev pub marks_from : List ℕ → FrameState → Log → List ℕ
marks_from ids s [] = ids
marks_from ids s (e ∷ es) = marks_from (marks_after ids s e.1.command) (next_state s e.1.command) es

-- the ids that the next Frame's update list holds
abbrev pub marked : ℕ → Log → List ℕ
marked channels log = marks_from [] (opening_state channels) log

-- the update list that a Frame would cut after a log
abbrev pub next_cut : ℕ → Log → UpdateList
next_cut channels log = updates_of (node_at (state_of channels log).graph.nodes) (marked channels log)
