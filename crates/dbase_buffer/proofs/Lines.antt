-- A buffer line by line.
use Rattle.std.proofs.Common.{◌≡◌, ℕ, ◌+◌, ◌≤◌, Bool, true, false, cond, List, [], ◌∷◌, ◌++◌, length, is_some, refl, ◌∙◌, append_assoc, append-nil, length-append, arith}
use Rattle.std.proofs.lemmas.List.Sums.{fold-append}
use Rattle.std.specs.List.{fold, list_all}
use Rattle.pf_model.specs.declared.edits.Edit.{Edit}
use Rattle.pf_model.specs.declared.edits.Edit.TheVariants as edit
use Rattle.pf_model.specs.declared.lines.BaseStep.{BaseStep}
use Rattle.pf_model.specs.declared.lines.BaseStep.TheVariants as step
use Rattle.pf_model.specs.Graphs.{SceneGraph}
use Rattle.pf_model.specs.Edits.{fault_of, effect}
use Rattle.pf_model.specs.Merges.{BufferState, empty_buffer, judged, after_step, buffer_after}
use Rattle.pf_history.specs.Asks.{merge_of, asked_base_from}
use Rattle.dbase_buffer.specs.Laws.{LineLaw, stands_in_buffer, MergeLaw, CountLaw}

pub line_law : LineLaw
line_law = record { empty = refl; line = λ steps s. fold-append after_step empty_buffer steps (s ∷ []) }

-- What a merge asks for

asked_behind : (need : ℕ) (since steps rest : List BaseStep) → list_all stands_in_buffer steps ≡ true
    → asked_base_from need since (steps ++ step.Merge ∷ rest)
    ≡ record { need = need; merge = merge_of (buffer_after (since ++ steps)) } ∷ asked_base_from need [] rest
asked_behind need since [] rest stand = rw append-nil
asked_behind need since (step.Edit e ∷ steps) rest stand =
    asked_behind need (since ++ step.Edit e ∷ []) steps rest stand ∙ rw (append_assoc since (step.Edit e ∷ []) steps)
asked_behind need since (step.Ask e ∷ steps) rest stand =
    asked_behind need (since ++ step.Ask e ∷ []) steps rest stand ∙ rw (append_assoc since (step.Ask e ∷ []) steps)
asked_behind need since (_ ∷ steps) rest stand = absurd (cc)

pub merge_law : MergeLaw
merge_law need since steps rest stand = asked_behind need [] steps rest stand

-- How much a line adds

effect_serials : (g : SceneGraph) (e : Edit) → (effect g e).next_serial ≤ g.next_serial + 1
effect_serials g (edit.Make id kind) = omega arith
effect_serials g (edit.Delete id) = omega arith
effect_serials g e = omega arith

-- one line more
pub record AddsOne (b c : BufferState) : Type 0 where
  pub serials : c.graph.next_serial ≤ b.graph.next_serial + 1
  pub edits : length c.edits + c.dropped ≤ length b.edits + b.dropped + 1

recorded_more : (b : BufferState) (g : SceneGraph) (e : Edit) → g.next_serial ≤ b.graph.next_serial + 1
    → AddsOne b (record b { graph = g; edits = b.edits ++ e ∷ [] })
recorded_more b g e more = record { serials = more; edits = rw (length-append b.edits (e ∷ [])) (omega arith) }

judged_more : (b : BufferState) (e : Edit) → AddsOne b (judged b e)
judged_more b e = by (is_some (fault_of b.graph e))
  where
    by : (t : Bool)
        → AddsOne b (cond t (record b { dropped = b.dropped + 1 }) (record b { graph = effect b.graph e; edits = b.edits ++ e ∷ [] }))
    by true = record { serials = omega arith; edits = omega arith }
    by false = recorded_more b (effect b.graph e) e (effect_serials b.graph e)

line_more : (b : BufferState) (s : BaseStep) → AddsOne b (after_step b s)
line_more b (step.Edit e) = judged_more b e
line_more b (step.Ask e) = recorded_more b b.graph e (omega arith)
line_more b step.Buffer = record { serials = omega arith; edits = omega arith }
line_more b step.Merge = record { serials = omega arith; edits = omega arith }
line_more b (step.Await n) = record { serials = omega arith; edits = omega arith }

pub record AddsLines (n : ℕ) (b c : BufferState) : Type 0 where
  pub serials : c.graph.next_serial ≤ b.graph.next_serial + n
  pub edits : length c.edits + c.dropped ≤ length b.edits + b.dropped + n

lines_more : (b : BufferState) (steps : List BaseStep) → AddsLines (length steps) b (fold after_step b steps)
lines_more b [] = record { serials = omega arith; edits = omega arith }
lines_more b (s ∷ steps) =
    let one = line_more b s in
    let rest = lines_more (after_step b s) steps in
    record { serials = omega (arith, one.serials, rest.serials); edits = omega (arith, one.edits, rest.edits) }

pub count_law : CountLaw
count_law steps =
    let all = lines_more empty_buffer steps in
    record { serials = omega (arith, all.serials); edits = omega (arith, all.edits) }
