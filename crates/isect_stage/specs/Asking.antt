-- What the stage keeps: an answer for each frame that it was asked for.
use Rattle.std.specs.Prelude.{◌≡◌, ◌⊎◌, true, ℕ, ◌+◌, ◌≤◌, List, [], map, take, length, slice_get, slice_index_or, Option, Some}
use Rattle.std.specs.List.{AllByRecursion}
use Rattle.pf_model.specs.Angles.{Viewpoint, home_view}
use Rattle.pf_model.specs.Graphs.{Nodes, node_at}
use Rattle.pf_model.specs.Limits.{KeepsLimits, IsWithinLimits}
use Rattle.pf_model.specs.Copies.{UpdateList, copy_of}
use Rattle.pf_history.specs.Objects.{FrameState, opening_state}
use Rattle.pf_history.specs.Commands.{command_fits}
use Rattle.pf_history.specs.Logs.{Log}
use Rattle.pf_history.specs.Cuts.{Cutting, cuttings, cut_at, found_by_frames}
use Rattle.multibuffer.specs.StageCopies.{CopyState, boxes_of, HasRightBoxes}
use Rattle.nearest_hit.specs.declared.found.Near.{Near}
use Rattle.nearest_hit.specs.declared.segment.Segment.{Segment}
use Rattle.nearest_hit.specs.Nearest.{nearest}
use Rattle.nearest_hit.specs.Working.{searched}

-- The segment, the copy with its boxes, the answers so far, and for how many answers there is room.
pub record IsectWork : Type 0 where
  pub segment : Segment
  pub copy : CopyState
  pub answers : List (Option Near)
  pub room : ℕ

-- what the probe finds in a copy at a time, from a view, also where the copy is beyond the limits
abbrev pub hit_in : CopyState → ℕ → Viewpoint → Segment → Option Near
hit_in c time view segment =
    (searched (record { look = node_at c.nodes; boxes = boxes_of c; time = time; segment = segment }) view 0).best

-- What the stage is asked for a frame: its number, the view of the first channel, and its update list.
pub record Question : Type 0 where
  pub frame : ℕ
  pub view : Viewpoint
  pub updates : UpdateList

abbrev pub updates_in : List Question → List UpdateList
updates_in asked = map (λ q. q.updates) asked

-- memory may be wanted for a frame: there is an update to copy, or no room for one answer more
abbrev pub MayWant : IsectWork → UpdateList → Type 0
MayWant w updates = (updates ≡ [] → ⊥) ⊎ (w.room ≤ length w.answers)

-- the copy that the update lists of the first k questions keep
abbrev pub copy_at : List Question → ℕ → Nodes
copy_at asked k = copy_of (updates_in (take k asked))

-- The answer to the question at a place can be exact: up to it the copies are within the limits.
pub record CanAnswer (asked : List Question) (i : ℕ) (q : Question) : Type 0 where
  pub limits : (k : ℕ) → k ≤ i + 1 → KeepsLimits (node_at (copy_at asked k))
  pub within : IsWithinLimits (node_at (copy_at asked (i + 1))) q.frame

-- each question whose answer can be exact is answered by the nearest hit in the copy of its frame
abbrev pub AreAnswered : Segment → List Question → List (Option Near) → Type 0
AreAnswered segment asked answers =
    (i : ℕ) (q : Question) → slice_get asked i ≡ Some q → CanAnswer asked i q →
    slice_get answers i ≡ Some (nearest (node_at (copy_at asked (i + 1))) q.frame q.view segment)

-- All that the stage keeps: its copy is that of all update lists, its boxes are right while the copies are within the
-- limits, and there is an answer to each question.
pub record IsectKeeps (w : IsectWork) (asked : List Question) : Type 0 where
  pub copy : w.copy.nodes ≡ copy_of (updates_in asked)
  pub right : ((k : ℕ) → k ≤ length asked → KeepsLimits (node_at (copy_at asked k))) → HasRightBoxes w.copy
  pub many : length w.answers ≡ length asked
  pub answered : AreAnswered w.segment asked w.answers

-- Histories

-- the edits and merges of a history have their numbers in range
abbrev pub HasEditsInRange : Log → Type 0
HasEditsInRange log = AllByRecursion (λ e. command_fits e.1.command ≡ true) log

-- the view of the first channel in a state
abbrev pub first_view : FrameState → Viewpoint
first_view s = slice_index_or s.views 0 home_view

-- the nearest hit in a state, from the view of its first channel
abbrev pub nearest_in_state : Segment → FrameState → Option Near
nearest_in_state segment s = nearest (node_at s.graph.nodes) s.graph.time (first_view s) segment

-- the nearest hit of each Frame of a history, in the state that it found
abbrev pub nearest_hits : ℕ → Segment → Log → List (Option Near)
nearest_hits channels segment log = map (nearest_in_state segment) (found_by_frames channels log)

-- what a Frame asks: its number, the view that it found, and its cut
abbrev pub question_of : Cutting → Question
question_of c = record { frame = c.found.frames + 1; view = first_view c.found; updates = cut_at c }

-- the questions of the Frames of a history, in order
abbrev pub questions : ℕ → Log → List Question
questions channels log = map question_of (cuttings [] (opening_state channels) log)
