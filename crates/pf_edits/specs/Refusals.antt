-- What a refusal of a merge tells.
use Rattle.std.specs.Prelude.{◌≡◌, ⊤, ℕ, List, [], ◌∷◌, Option, Some, None}
use Rattle.pf_model.specs.declared.edits.Edit.{Edit}
use Rattle.pf_model.specs.declared.edits.Fault.{Fault}
use Rattle.pf_model.specs.declared.edits.EditError.{EditError}
use Rattle.pf_model.specs.declared.edits.EditError.TheVariants as one
use Rattle.pf_model.specs.Graphs.{SceneGraph}
use Rattle.pf_model.specs.Edits.{fault_of}
use Rattle.pf_edits.specs.declared.errors.EditsError.{EditsError}
use Rattle.pf_edits.specs.declared.errors.EditsError.TheVariants as all

-- the refusal of a list for that of its edit at a place
abbrev pub placed : ℕ → EditError → EditsError
placed place (one.Fault f) = all.Fault place f
placed place one.NoMemory = all.NoMemory

-- the fault that is met is this one at this place, or there was no memory
abbrev pub RefusesAll : EditsError → Option (ℕ × Fault) → Type 0
RefusesAll (all.Fault place f) met = met ≡ Some (place, f)
RefusesAll all.NoMemory met = ⊤

-- there is a first edit, and it has no fault
abbrev pub BeginsWell : SceneGraph → List Edit → Type 0
BeginsWell g [] = ⊥
BeginsWell g (e ∷ es) = fault_of g e ≡ None
