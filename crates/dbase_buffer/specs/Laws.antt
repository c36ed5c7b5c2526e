-- Laws of buffers, over the lines between the opening of a buffer and its merge.
use Rattle.std.specs.Prelude.{◌≡◌, ℕ, ◌+◌, ◌≤◌, Bool, true, false, List, [], ◌∷◌, ◌++◌, length}
use Rattle.std.specs.List.{list_all}
use Rattle.pf_model.specs.declared.lines.BaseStep.{BaseStep}
use Rattle.pf_model.specs.declared.lines.BaseStep.TheVariants as step
use Rattle.pf_model.specs.Merges.{BufferState, empty_buffer, after_step, buffer_after}
use Rattle.pf_history.specs.Asks.{merge_of, asked_base_from}

-- A buffer goes on line by line from an empty one.
pub record GoesLineByLine : Type 0 where
  pub empty : buffer_after [] ≡ empty_buffer
  pub line : (steps : List BaseStep) (s : BaseStep) → buffer_after (steps ++ s ∷ []) ≡ after_step (buffer_after steps) s

abbrev pub LineLaw : Type 0
LineLaw = GoesLineByLine

-- a line that may stand in a buffer
abbrev pub stands_in_buffer : BaseStep → Bool
stands_in_buffer (step.Edit e) = true
stands_in_buffer (step.Ask e) = true
stands_in_buffer _ = false

-- a buffer that is opened and merged asks for the merge of its lines, whatever stood before it and comes after
abbrev pub MergeLaw : Type 0
MergeLaw =
    (need : ℕ) (since steps rest : List BaseStep) → list_all stands_in_buffer steps ≡ true
    → asked_base_from need since (step.Buffer ∷ (steps ++ step.Merge ∷ rest))
    ≡ record { need = need; merge = merge_of (buffer_after steps) } ∷ asked_base_from need [] rest

-- A buffer of so many lines: the next serial of its graph, and the edits that it recorded and dropped, are no more.
pub record IsCounted (lines : ℕ) (b : BufferState) : Type 0 where
  pub serials : b.graph.next_serial ≤ lines + 1
  pub edits : length b.edits + b.dropped ≤ lines

abbrev pub CountLaw : Type 0
CountLaw = (steps : List BaseStep) → IsCounted (length steps) (buffer_after steps)
