-- What leases promise. A lease is a frame, and for each geode that it names a place: the slot and its content.
use Rattle.std.specs.Prelude.{◌≡◌, ℕ, zero, suc, ◌≤◌, ◌==◌, List, [], ◌∷◌, ◌++◌, map, Option, Some, None, slice_get, if◌then◌else◌}
use Rattle.geo_lease.specs.declared.view.Place.{Place}
use Rattle.geo_lease.specs.declared.view.Plan.{Plan}

module _ {T : Type 0} where
  -- the lease has a place for the slot k, with the content x
  abbrev pub HasPlace : Plan T → ℕ → T → Type 0
  HasPlace l k x = (i : ℕ) × (p : Place T) × (slice_get l.places i ≡ Some p) × (p.slot ≡ k) × (p.content ≡ x)

  -- the lease of number n names the slot k, with the content x
  abbrev pub Names : List (Plan T) → ℕ → ℕ → T → Type 0
  Names leases n k x = (l : Plan T) × (slice_get leases n ≡ Some l) × HasPlace l k x

  -- no lease whose number is at least `from` names the slot k
  abbrev pub IsFree : List (Plan T) → ℕ → ℕ → Type 0
  IsFree leases from k = (n : ℕ) (x : T) → from ≤ n → ¬ Names leases n k x

  -- what lies in the slot k
  abbrev pub lies_in : List (Option T) → ℕ → Option T
  lies_in [] k = None
  lies_in (c ∷ cs) zero = c
  lies_in (c ∷ cs) (suc k) = lies_in cs k

  -- what lies in the slot that may be there
  abbrev pub lies_at : List (Option T) → Option (Option ℕ) → Option T
  lies_at contents None = None
  lies_at contents (Some None) = None
  lies_at contents (Some (Some k)) = lies_in contents k

  -- the content that the geode has now, where `current` has the current slot of each geode
  abbrev pub current_content : List (Option T) → List (Option ℕ) → ℕ → Option T
  current_content contents current geode = lies_at contents (slice_get current geode)

  -- the content that the places have for a geode
  abbrev pub content_at : ℕ → List (Place T) → Option T
  content_at geode [] = None
  content_at geode (p ∷ ps) = if p.geode == geode then Some p.content else content_at geode ps

  -- the content that a lease recorded for a geode
  abbrev pub recorded : Option (Plan T) → ℕ → Option T
  recorded None geode = None
  recorded (Some l) geode = content_at geode l.places

  -- a place without its content
  abbrev pub named : Place T → ℕ × ℕ
  named p = (p.geode, p.slot)

  -- a lease without its contents: the frame, and each geode with its slot
  abbrev pub outline : Option (Plan T) → Option (ℕ × List (ℕ × ℕ))
  outline None = None
  outline (Some l) = Some (l.frame, map named l.places)

  -- the place of a geode whose slot has a content
  abbrev pub place_of : ℕ × ℕ → Option T → List (Place T)
  place_of pair None = []
  place_of pair (Some x) = record { geode = pair.0; slot = pair.1; content = x } ∷ []

  -- the places of these geodes and slots, with what lies there
  abbrev pub places_of : List (Option T) → List (ℕ × ℕ) → List (Place T)
  places_of contents [] = []
  places_of contents (pair ∷ pairs) = place_of pair (lies_in contents pair.1) ++ places_of contents pairs

  -- the lease for a frame over these geodes and slots, with what lies there
  abbrev pub plan_of : ℕ → List (ℕ × ℕ) → List (Option T) → Plan T
  plan_of frame pairs contents = record { frame = frame; places = places_of contents pairs }

-- the pair of a geode whose current slot may be there
abbrev pub pair_of : ℕ → Option (Option ℕ) → List (ℕ × ℕ)
pair_of geode None = []
pair_of geode (Some None) = []
pair_of geode (Some (Some k)) = (geode, k) ∷ []

-- each named geode with its current slot
abbrev pub with_slots : List (Option ℕ) → List ℕ → List (ℕ × ℕ)
with_slots current [] = []
with_slots current (geode ∷ geodes) = pair_of geode (slice_get current geode) ++ with_slots current geodes

-- the slot that the pairs have for a geode
abbrev pub slot_at : ℕ → List (ℕ × ℕ) → Option ℕ
slot_at geode [] = None
slot_at geode (pair ∷ pairs) = if pair.0 == geode then Some pair.1 else slot_at geode pairs

-- the geode that the pairs have at a place
abbrev pub name_at : List (ℕ × ℕ) → ℕ → Option ℕ
name_at [] i = None
name_at (pair ∷ pairs) zero = Some pair.0
name_at (pair ∷ pairs) (suc i) = name_at pairs i
