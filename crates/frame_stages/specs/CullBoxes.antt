-- What the cull does with the boxes of its copy, whatever they are.
use Rattle.std.specs.Prelude.{◌≡◌, ℕ, Bool, true, List, [], ◌∷◌, slice_get, Option, Some, None}
use Rattle.std.specs.List.Sorted.{IsPermutation, IsSortedBy}
use Rattle.fx_math.specs.declared.lenses.Lens.{Lens}
use Rattle.pf_model.specs.Angles.{Viewpoint}
use Rattle.pf_model.specs.Graphs.{node_at}
use Rattle.draw_list.specs.Lists.{Drawables, instances_in}
use Rattle.draw_list.specs.Order.{draw_order}
use Rattle.cull_walk.specs.Working.{Scene, walked}
use Rattle.bound_cache.specs.Caches.{IsCalm}
use Rattle.multibuffer.specs.StageCopies.{CopyState, boxes_of, is_named}
use Rattle.stage_parts.specs.declared.packets.Packet.{Packet}
use Rattle.stage_parts.specs.declared.packets.Packet.TheVariants.{Frame, End}
use Rattle.stage_parts.specs.Loads.{LoadState}

-- A list after the walk through a scene for a view, from the list as it was: with the joints, the triangles and the items
-- that the walk leaves, these in the order in which they are drawn.
pub record IsWalk (s : Scene) (v : Viewpoint) (before after : Drawables) : Type 0 where
  pub joints : after.joints ≡ (walked s v before 0).list.joints
  pub kept : after.kept ≡ (walked s v before 0).list.kept
  pub items : IsPermutation (walked s v before 0).list.items.items after.items.items
  pub sorted : IsSortedBy draw_order (instances_in after)

-- a copy with its boxes, through a lens at a time
abbrev pub sight_of : CopyState → ℕ → Lens → Scene
sight_of copy time lens = record { look = node_at copy.nodes; boxes = boxes_of copy; lens = lens; time = time }

-- The cull of a load goes through the boxes that the copy keeps. A node that the update list does not name, nor any below
-- it, has the box that it had before, and the list of each channel is what the walk by these boxes leaves.
pub record GoesByBoxes (lens : Lens) (before after : CopyState) (old new : LoadState) : Type 0 where
  pub calm : (calm : ℕ → Bool) → IsCalm (node_at after.nodes) (λ id. is_named id old.cut.updates) calm → (id : ℕ) → calm id ≡ true →
      boxes_of after id ≡ boxes_of before id
  pub walks : (i : ℕ) (v : Viewpoint) (d e : Drawables) → slice_get old.cut.views i ≡ Some v → slice_get old.lists i ≡ Some d →
      slice_get new.lists i ≡ Some e → IsWalk (sight_of after old.cut.frame lens) v d e

-- the packet that is held after a load was taken
abbrev pub HoldsCulled : Lens → CopyState → CopyState → LoadState → Option Packet → Type 0
HoldsCulled lens before after load None = ⊥
HoldsCulled lens before after load (Some End) = ⊥
HoldsCulled lens before after load (Some (Frame culled)) = GoesByBoxes lens before after load culled

-- what becomes of the copy and its boxes, by the packets that came: without a load they stay
abbrev pub KeepsBoxes : Lens → CopyState → CopyState → Option Packet → List Packet → Type 0
KeepsBoxes lens before after held [] = after ≡ before
KeepsBoxes lens before after held (End ∷ came) = after ≡ before
KeepsBoxes lens before after held (Frame load ∷ came) = HoldsCulled lens before after load held
