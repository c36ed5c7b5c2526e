-- Lists of edits: a merge applies all of them or none, and a buffer records those that it accepts.
use Rattle.std.specs.Prelude.{ℕ, ◌+◌, if◌then◌else◌, List, [], ◌∷◌, ◌++◌, Option, Some, None, is_some}
use Rattle.std.specs.List.{fold}
use Rattle.std.specs.Option.{option_map_or}
use Rattle.pf_model.specs.declared.edits.Edit.{Edit}
use Rattle.pf_model.specs.declared.edits.Fault.{Fault}
use Rattle.pf_model.specs.declared.lines.BaseStep.{BaseStep}
use Rattle.pf_model.specs.declared.lines.BaseStep.TheVariants as step
use Rattle.pf_model.specs.Graphs.{SceneGraph, empty_scene}
use Rattle.pf_model.specs.Edits.{fault_of, effect}

-- the first fault of a list of edits applied in order, with its place counted from k
abbrev pub fault_from : ℕ → SceneGraph → List Edit → Option (ℕ × Fault)
fault_from k g [] = None
fault_from k g (e ∷ es) = option_map_or (λ f. Some (k, f)) (fault_of g e) (fault_from (k + 1) (effect g e) es)

-- the first fault of a merge, with its place from 1
abbrev pub merge_fault : SceneGraph → List Edit → Option (ℕ × Fault)
merge_fault g es = fault_from 1 g es

-- the graph after a merge: all its edits applied in order, or the graph itself where one has a fault
abbrev pub after_all : SceneGraph → List Edit → SceneGraph
after_all g es = if is_some (merge_fault g es) then g else fold effect g es

-- A buffer: its own graph, the edits that it recorded, and how many it dropped.
pub record BufferState : Type 0 where
  pub graph : SceneGraph
  pub edits : List Edit
  pub dropped : ℕ

abbrev pub empty_buffer : BufferState
empty_buffer = record { graph = empty_scene; edits = []; dropped = 0 }

-- an edit judged in the buffer's own graph: recorded where it has no fault, else dropped
abbrev pub judged : BufferState → Edit → BufferState
judged b e =
    if is_some (fault_of b.graph e) then record b { dropped = b.dropped + 1 }
    else record b { graph = effect b.graph e; edits = b.edits ++ e ∷ [] }

-- a link recorded without a test
abbrev pub recorded : BufferState → Edit → BufferState
recorded b e = record b { edits = b.edits ++ e ∷ [] }

-- a buffer after a line between its opening and its merge
abbrev pub after_step : BufferState → BaseStep → BufferState
after_step b (step.Edit e) = judged b e
after_step b (step.Ask e) = recorded b e
after_step b _ = b

-- the buffer after these lines, from an empty one on
abbrev pub buffer_after : List BaseStep → BufferState
buffer_after steps = fold after_step empty_buffer steps
