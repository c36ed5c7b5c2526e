-- What a buffer keeps, what it answers where it does not record an edit, and what it then is.
use Rattle.std.specs.Prelude.{◌≡◌, ⊤, ◌+◌, ◌≤◌, true, length, Option, Some}
use Rattle.std.specs.List.{list_all}
use Rattle.pf_model.specs.declared.edits.Edit.{Edit}
use Rattle.pf_model.specs.declared.edits.Fault.{Fault}
use Rattle.pf_model.specs.Fits.{fits}
use Rattle.pf_model.specs.Merges.{BufferState, judged}
use Rattle.pf_model.specs.Recording.{EditsSoFar}
use Rattle.dbase_buffer.specs.declared.errors.BufferError.{BufferError}
use Rattle.dbase_buffer.specs.declared.errors.BufferError.TheVariants as error

-- The recorded edits are in range, and there is room for at most one more than as many again.
pub record IsRecord (edits : EditsSoFar) : Type 0 where
  pub fit : list_all fits edits.items ≡ true
  pub few : edits.spare ≤ length edits.items + 1

-- the fault that is met is this one, or there was no memory
abbrev pub TellsFault : BufferError → Option Fault → Type 0
TellsFault (error.Fault f) met = met ≡ Some f
TellsFault error.NoMemory met = ⊤

-- the buffer after such an answer: with the edit dropped, or as it was where there was no memory
abbrev pub left_by : BufferError → BufferState → Edit → BufferState
left_by (error.Fault f) b e = judged b e
left_by error.NoMemory b e = b
