-- The lines of the database process, and what its type keeps of those that are left.
use Rattle.std.specs.Prelude.{◌≡◌, ⊤, ℕ, ◌+◌, ◌≤◌, Bool, true, false, List, [], ◌∷◌, length, max, Some}
use Rattle.std.specs.List.{list_all}
use Rattle.pf_model.specs.declared.lines.BaseLine.{BaseLine}
use Rattle.pf_model.specs.declared.lines.BaseStep.{BaseStep}
use Rattle.pf_model.specs.declared.lines.BaseStep.TheVariants as base
use Rattle.pf_model.specs.Fits.{fits}
use Rattle.pf_model.specs.Merges.{BufferState, empty_buffer, judged, recorded, after_step, buffer_after}
use Rattle.play_format.specs.Plays.{is_link, base_fits, open_after}
use Rattle.frame_stages.specs.declared.in_hand.InHand.{InHand}
use Rattle.frame_stages.specs.declared.in_hand.InHand.TheVariants as hand
use Rattle.frame_stages.specs.declared.next_line.NextLine.{NextLine}
use Rattle.frame_stages.specs.declared.next_line.NextLine.TheVariants as next
use Rattle.frame_stages.specs.Scripts.{most_lines}
use Rattle.frame_stages.specs.DbaseWorks.{DbaseWork}

-- what a line is to the database process
abbrev pub kind_of : BaseStep → NextLine
kind_of (base.Await n) = next.Await n
kind_of base.Merge = next.Merge
kind_of _ = next.Fill

abbrev pub next_line : List BaseLine → NextLine
next_line [] = next.End
next_line (l ∷ ls) = kind_of l.step

-- the greatest await after a line
abbrev pub need_after : ℕ → BaseStep → ℕ
need_after need (base.Await n) = max need n
need_after need _ = need

-- the buffer after a line, empty after one that opens or merges it
abbrev pub buffer_step : BufferState → BaseStep → BufferState
buffer_step b base.Buffer = empty_buffer
buffer_step b base.Merge = empty_buffer
buffer_step b s = after_step b s

-- whether a buffer is open
abbrev pub is_open : InHand → Bool
is_open hand.Nothing = false
is_open _ = true

-- whether only the merge is left of the buffer's lines
abbrev pub is_whole : InHand → Bool
is_whole (hand.Merge m) = true
is_whole _ = false

abbrev pub is_merge : BaseStep → Bool
is_merge base.Merge = true
is_merge _ = false

-- whether the next line is a merge
abbrev pub merges_next : List BaseLine → Bool
merges_next [] = false
merges_next (l ∷ ls) = is_merge l.step

-- A buffer of at most so many lines.
pub record IsFilled (lines : ℕ) (b : BufferState) : Type 0 where
  pub steps : List BaseStep
  pub short : length steps ≤ lines
  pub filled : b ≡ buffer_after steps

-- One more edit of a buffer is counted without overflow.
pub record CountsOneMore (b : BufferState) : Type 0 where
  pub serials : b.graph.next_serial ≤ 2147483649
  pub drops : b.dropped ≤ 2147483648

-- a line of a buffer may come where this is in hand
abbrev pub CanFill : BaseStep → InHand → Type 0
CanFill base.Buffer held = ⊤
CanFill (base.Edit e) (hand.Buffer b) = (fits e ≡ true) × CountsOneMore b
CanFill (base.Ask e) (hand.Buffer b) = is_link e ≡ true
CanFill _ _ = ⊥

-- the buffer that a line makes of what is in hand
abbrev pub Fills : BaseStep → InHand → BufferState → Type 0
Fills base.Buffer held after = after ≡ empty_buffer
Fills (base.Edit e) (hand.Buffer b) after = after ≡ judged b e
Fills (base.Ask e) (hand.Buffer b) after = after ≡ recorded b e
Fills _ _ _ = ⊥

-- what is in hand after so many lines has its numbers in range
abbrev pub IsRanged : ℕ → InHand → Type 0
IsRanged at hand.Nothing = ⊤
IsRanged at (hand.Buffer b) = IsFilled at b
IsRanged at (hand.Merge m) = list_all fits m.edits ≡ true

-- What the type of the database process keeps: its lines are few and in the order of a play, each edit is in its ranges,
-- a merge is in hand exactly before its line, and no line is left where memory was wanted.
pub record IsInOrder (w : DbaseWork) : Type 0 where
  pub few : w.at + length w.rest ≤ most_lines
  pub fit : list_all (λ l. base_fits l.step) w.rest ≡ true
  pub order : open_after (is_open w.hand) w.rest ≡ Some false
  pub whole : is_whole w.hand ≡ merges_next w.rest
  pub ranged : IsRanged w.at w.hand
  pub failed : w.failed ≡ true → w.rest ≡ []
