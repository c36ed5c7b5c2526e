-- How far a clean has come from the boxes of the scene as it was to those of the scene as it is.
use Rattle.std.specs.Prelude.{◌≡◌, ⊤, ℕ, suc, ◌≤◌, Bool, true, false, not, ◌||◌, ◌==◌, if◌then◌else◌, List, [], ◌∷◌, Option, Some, None}
use Rattle.std.specs.List.{AllByRecursion, list_any}
use Rattle.fx_math.specs.Plain.{Bounds}
use Rattle.pf_model.specs.declared.nodes.Node.{Node}
use Rattle.pf_model.specs.Kinds.{is_geode}
use Rattle.pf_model.specs.Graphs.{Look, height_in}
use Rattle.pf_model.specs.Boxes.{box_in, box_of, box_step}
use Rattle.bound_cache.specs.declared.marks.Mark.{Mark}
use Rattle.bound_cache.specs.declared.marks.Mark.TheVariants.{Clean, Noted, Touched, Same, Changed}

-- The box and the mark of each id.
pub record TableState : Type 0 where
  pub boxes : ℕ → Option Bounds
  pub marks : ℕ → Mark

abbrev pub is_touched : Mark → Bool
is_touched Touched = true
is_touched _ = false

abbrev pub is_changed : Mark → Bool
is_changed Changed = true
is_changed _ = false

-- the id is touched, or its box is made of others
abbrev pub is_noted : Mark → Bool
is_noted Noted = true
is_noted Touched = true
is_noted _ = false

-- no clean is under way with the id
abbrev pub is_at_rest : Mark → Bool
is_at_rest Same = false
is_at_rest Changed = false
is_at_rest _ = true

-- the clean has come to the id, or has nothing to do there
abbrev pub is_done : Mark → Bool
is_done Clean = true
is_done Noted = false
is_done Touched = false
is_done Same = true
is_done Changed = true

-- neither touched nor changed
abbrev pub is_still : Mark → Bool
is_still Clean = true
is_still Noted = true
is_still Touched = false
is_still Same = true
is_still Changed = false

abbrev pub with_box : ℕ → Option Bounds → TableState → TableState
with_box id b t = record t { boxes = λ k. if k == id then b else t.boxes k }

abbrev pub with_mark : ℕ → Mark → TableState → TableState
with_mark id m t = record t { marks = λ k. if k == id then m else t.marks k }

-- the ids of whose boxes that of a node is made: none of a geode
abbrev pub parts : Option Node → List ℕ
parts None = []
parts (Some n) = if is_geode n.kind then [] else n.children

-- an id whose box has to be reckoned: it was touched, or the box of a part has changed
abbrev pub is_stale : Look → ℕ → TableState → Bool
is_stale look id t = not (is_still (t.marks id)) || list_any (λ c. is_changed (t.marks c)) (parts (look id))

-- an id with its box, reckoned where it has to be
abbrev pub settled : Look → ℕ → TableState → TableState
settled look id t =
    if is_stale look id t then with_mark id Changed (with_box id (box_step look t.boxes id) t) else with_mark id Same t

-- a node has the same box in both scenes, also with fewer levels
abbrev pub HasSameBox : Look → Look → ℕ → Type 0
HasSameBox was look id = (n : ℕ) → box_in n look id ≡ box_in n was id

-- What a mark tells of the box that is kept: before the clean comes to an id it is the box in the scene as it was, and
-- then the box in the scene as it is.
abbrev pub IsHalfwayAt : Look → Look → ℕ → Option Bounds → Mark → Type 0
IsHalfwayAt was look id box Clean = (box ≡ box_of was id) × (look id ≡ was id) × (parts (was id) ≡ [])
IsHalfwayAt was look id box Noted = (box ≡ box_of was id) × (look id ≡ was id)
IsHalfwayAt was look id box Touched = box ≡ box_of was id
IsHalfwayAt was look id box Same = (box ≡ box_of look id) × HasSameBox was look id
IsHalfwayAt was look id box Changed = box ≡ box_of look id

pub record IsHalfway (was look : Look) (t : TableState) : Type 0 where
  pub each : (id : ℕ) → IsHalfwayAt was look id (t.boxes id) (t.marks id)

-- a step of a clean that keeps a table halfway, from whatever scene it started
abbrev pub StaysHalfway : Look → TableState → TableState → Type 0
StaysHalfway look before after = (was : Look) → IsHalfway was look before → IsHalfway was look after

-- a mark stays until the clean comes to its id, and then tells for good that it came
abbrev pub MovesOn : Mark → Mark → Type 0
MovesOn m Clean = m ≡ Clean
MovesOn m Noted = m ≡ Noted
MovesOn m Touched = m ≡ Touched
MovesOn m Same = ⊤
MovesOn m Changed = ⊤

-- A set of ids that are neither touched nor changed, together with all of whose boxes theirs are made.
pub record IsStillAll (look : Look) (t : TableState) (calm : ℕ → Bool) : Type 0 where
  pub each : (id : ℕ) → calm id ≡ true → is_still (t.marks id) ≡ true
  pub parts_too : (id : ℕ) → calm id ≡ true → AllByRecursion (λ c. calm c ≡ true) (parts (look id))

-- What each step of a clean keeps, whatever the scene is: where it came to, and the boxes of such a set.
pub record Proceeds (look : Look) (before after : TableState) : Type 0 where
  pub on : (id : ℕ) → MovesOn (before.marks id) (after.marks id)
  pub kept : (calm : ℕ → Bool) → IsStillAll look before calm → (id : ℕ) → calm id ≡ true → after.boxes id ≡ before.boxes id
  pub still : (calm : ℕ → Bool) → IsStillAll look before calm → IsStillAll look after calm

-- no chain down from the node has more than n nodes
abbrev pub FitsLevels : Look → ℕ → ℕ → Type 0
FitsLevels look n id = height_in (suc n) look id ≤ n

-- the mark of an id whose box is made of these
abbrev pub mark_of_parts : List ℕ → Mark
mark_of_parts [] = Clean
mark_of_parts (_ ∷ _) = Noted

-- the mark that an id keeps when a clean has ended
abbrev pub rested : Option Node → Mark → Mark
rested o Clean = Clean
rested o Noted = Noted
rested o Touched = Noted
rested o Same = Noted
rested o Changed = mark_of_parts (parts o)

-- a mark that a clean changes when it ends
abbrev pub is_under_way : Mark → Bool
is_under_way Clean = false
is_under_way Noted = false
is_under_way _ = true

-- a table between two cleans, and whether any id is touched
pub record IsAtRest (t : TableState) (any_touched : Bool) : Type 0 where
  pub resting : (id : ℕ) → is_at_rest (t.marks id) ≡ true
  pub told : any_touched ≡ false → (id : ℕ) → is_touched (t.marks id) ≡ false
