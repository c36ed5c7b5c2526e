-- The triangles of geodes that update lists hold, what comes back of the lists, and how often a geode's triangles are away.
use Rattle.std.specs.Prelude.{◌≡◌, ℕ, ◌+◌, ◌-◌, ◌≤◌, ◌==◌, ◌&&◌, false, if◌then◌else◌, List, [], ◌∷◌, ◌++◌, map, length, take, drop, Option, None, Some}
use Rattle.std.specs.List.{sum_by}
use Rattle.pf_model.specs.declared.nodes.Node.{Node}
use Rattle.pf_model.specs.Kinds.{is_geode}
use Rattle.pf_model.specs.Graphs.{Nodes, node_at, empty_scene}
use Rattle.pf_model.specs.Copies.{UpdateList, updates_of, updated_by}
use Rattle.pf_history.specs.declared.commands.Command.TheVariants as command
use Rattle.pf_history.specs.declared.commands.Entry.{Entry}
use Rattle.pf_history.specs.Commands.{is_frame}
use Rattle.pf_history.specs.Logs.{Log, state_of, IsLegal}
use Rattle.pf_history.specs.Cuts.{cuts_of, copy_after, next_cut}
use Rattle.pf_history.specs.CutLaws.{with_last}

-- how many arrays of a serial's triangles a node or none holds: one, where it is a geode of that serial
abbrev pub arrays_of : ℕ → Option Node → ℕ
arrays_of s None = 0
arrays_of s (Some n) = if is_geode n.kind && n.serial == s then 1 else 0

-- how many an update list holds
abbrev pub arrays_in : ℕ → UpdateList → ℕ
arrays_in s us = sum_by (λ u. arrays_of s u.1) us

-- how many update lists hold together
abbrev pub arrays_in_all : ℕ → List UpdateList → ℕ
arrays_in_all s lists = sum_by (arrays_in s) lists

-- how many a copy holds
abbrev pub arrays_at : ℕ → Nodes → ℕ
arrays_at s nodes = sum_by (λ e. arrays_of s (Some e.1)) nodes

-- what stood in a copy under the ids of an update list
abbrev pub replaced : Nodes → UpdateList → UpdateList
replaced nodes us = updates_of (node_at nodes) (map (λ u. u.0) us)

-- what comes back of update lists that go into a copy one after the other: in place of each what stood there
abbrev pub replaced_by_all : Nodes → List UpdateList → List UpdateList
replaced_by_all nodes [] = []
replaced_by_all nodes (us ∷ lists) = replaced nodes us ∷ replaced_by_all (updated_by nodes us) lists

-- what comes back of the update lists of all Frames of a log
abbrev pub came_back : ℕ → Log → List UpdateList
came_back channels log = replaced_by_all empty_scene.nodes (cuts_of channels log)

-- what comes back of the Frames behind the first r ones, up to Frame n
abbrev pub came_back_between : ℕ → Log → (r n : ℕ) → List UpdateList
came_back_between channels log r n = take (n - r) (drop r (came_back channels log))

-- how often a serial's triangles are away: in the copy that the retired Frames left, and with the Frames that are not
-- retired
abbrev pub away : ℕ → Log → ℕ → ℕ
away channels log s =
    arrays_at s (copy_after channels log (state_of channels log).retired)
    + arrays_in_all s (drop (state_of channels log).retired (cuts_of channels log))

-- What an entry that may be made changes of what is away: a Frame adds the arrays of its update list, a Sync takes off
-- those of the lists that came back of the Frames that it retires, and any other command changes nothing. A Frame's list
-- comes back as what stood in the copy that all Frames before it left.
pub record AddsToAway (channels : ℕ) (log : Log) (e : ℕ × Entry) : Type 0 where
  pub frame : e.1.command ≡ command.Frame → (s : ℕ) →
      away channels (log ++ e ∷ []) s ≡ away channels log s + arrays_in s (next_cut channels log)
  pub sync : (r : ℕ) → e.1.command ≡ command.Sync r → (state_of channels log).retired ≤ r →
      r ≤ (state_of channels log).frames → (s : ℕ) →
      away channels (log ++ e ∷ []) s
      + arrays_in_all s (came_back_between channels log (state_of channels log).retired r) ≡ away channels log s
  pub others : is_frame e.1.command ≡ false → ((r : ℕ) → e.1.command ≡ command.Sync r → ⊥) → (s : ℕ) →
      away channels (log ++ e ∷ []) s ≡ away channels log s
  pub back : came_back channels (log ++ e ∷ [])
      ≡ with_last (is_frame e.1.command) (came_back channels log)
      (replaced (copy_after channels log (state_of channels log).frames) (next_cut channels log))

-- Of a legal history: one list comes back of each Frame; an update list holds a serial's triangles at most once, and so
-- they are away at most once more than Frames are not retired; and what each entry adds.
pub record IsAway (channels : ℕ) (log : Log) : Type 0 where
  pub many : length (came_back channels log) ≡ (state_of channels log).frames
  pub once : (s : ℕ) → arrays_in s (next_cut channels log) ≤ 1
  pub few : (s : ℕ) → away channels log s + (state_of channels log).retired ≤ (state_of channels log).frames + 1
  pub adds : (e : ℕ × Entry) → AddsToAway channels log e

abbrev pub AwayLaw : Type 0
AwayLaw = (channels : ℕ) (log : Log) → IsLegal channels log → IsAway channels log
