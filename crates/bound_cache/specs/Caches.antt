-- What clauses see of a cache of boxes, and when its boxes are those of a scene.
use Rattle.std.specs.Prelude.{◌≡◌, ℕ, Bool, true, false, List, [], slice_index_or, Option, None}
use Rattle.std.specs.List.{AllByRecursion}
use Rattle.std.specs.Option.{option_map_or}
use Rattle.fx_math.specs.Plain.{Bounds}
use Rattle.pf_model.specs.Kinds.{is_geode}
use Rattle.pf_model.specs.Graphs.{Look, children_of}
use Rattle.pf_model.specs.Boxes.{box_of}
use Rattle.bound_cache.specs.Tables.{parts}

-- The boxes that are kept, whether each id was touched since the last clean, and whether it is noted, each by the id: a
-- clean looks at the ids that are noted, which are those touched and those whose boxes are made of others.
pub record CacheState : Type 0 where
  pub boxes : List (Option Bounds)
  pub touched : List Bool
  pub noted : List Bool

-- the box that is kept for an id
abbrev pub box_at : CacheState → ℕ → Option Bounds
box_at c id = slice_index_or c.boxes id None

abbrev pub touched_at : CacheState → ℕ → Bool
touched_at c id = slice_index_or c.touched id false

abbrev pub noted_at : CacheState → ℕ → Bool
noted_at c id = slice_index_or c.noted id false

-- the boxes are those of a scene, from scratch
pub record AreBoxesOf (look : Look) (boxes : ℕ → Option Bounds) : Type 0 where
  pub each : (id : ℕ) → boxes id ≡ box_of look id

-- each id that is not touched has the same node in the scene as it was and as it is
pub record ChangesAreTouched (was look : Look) (touched : ℕ → Bool) : Type 0 where
  pub same : (id : ℕ) → touched id ≡ false → look id ≡ was id

-- each node whose box is made of others is noted
pub record AreNoted (look : Look) (noted : ℕ → Bool) : Type 0 where
  pub none : (id : ℕ) → noted id ≡ false → parts (look id) ≡ []

-- A set of nodes with all below them, none of which was touched.
pub record IsCalm (look : Look) (touched calm : ℕ → Bool) : Type 0 where
  pub untouched : (id : ℕ) → calm id ≡ true → touched id ≡ false
  pub below : (id : ℕ) → calm id ≡ true → AllByRecursion (λ c. calm c ≡ true) (children_of look id)

-- a geode stands under the id
abbrev pub is_geode_at : Look → ℕ → Bool
is_geode_at look id = option_map_or (λ n. is_geode n.kind) (look id) false
