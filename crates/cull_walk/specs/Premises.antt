-- What the cull needs of a scene and of a list to be exact.
use Rattle.std.specs.Prelude.{◌≡◌, ℕ, ◌+◌, ◌≤◌, length, Option}
use Rattle.fx_math.specs.Plain.{Bounds}
use Rattle.pf_model.specs.Graphs.{Look, size_of}
use Rattle.pf_model.specs.Limits.{IsWithinLimits}
use Rattle.pf_model.specs.Boxes.{box_of}
use Rattle.pf_model.specs.Totals.{triangle_count}
use Rattle.pf_model.specs.Walks.{Instance}
use Rattle.draw_list.specs.Lists.{Drawables}

-- once it is cleared, the list has room for all that the scene may show
pub record HasRoom (look : Look) (d : Drawables) : Type 0 where
  pub items : size_of look 0 ≤ d.items.spare + length d.items.items
  pub joints : size_of look 0 + 1 ≤ d.joints.spare + length d.joints.lists
  pub tris : triangle_count look ≤ d.kept.spare + length d.kept.tris

-- a graph within the limits, with the boxes of the definition, and a list with room for it
pub record CanBeExact (look : Look) (boxes : ℕ → Option Bounds) (time : ℕ) (d : Drawables) : Type 0 where
  pub limits : IsWithinLimits look time
  pub boxes_are : (id : ℕ) → boxes id ≡ box_of look id
  pub room : HasRoom look d

-- an instance as a draw list knows it, without its id
abbrev pub unnamed : Instance → Instance
unnamed x = record x { id = 0 }
