-- The cull of a load, channel by channel.
use Rattle.std.specs.Prelude.{◌≡◌, ℕ, ◌+◌, ◌-◌, ◌^◌, ◌<◌, ◌≤◌, min, List, map, take, length, slice_get, Some}
use Rattle.fx_math.specs.declared.lenses.Lens.{Lens}
use Rattle.pf_model.specs.Angles.{Viewpoint}
use Rattle.pf_model.specs.Graphs.{Look, node_at, size_of}
use Rattle.pf_model.specs.Limits.{IsWithinLimits}
use Rattle.pf_model.specs.Totals.{triangle_count}
use Rattle.draw_list.specs.declared.stats.Stats.{Stats}
use Rattle.draw_list.specs.Lists.{Drawables, instances_in}
use Rattle.draw_list.specs.Shown.{draw_list, stats_of}
use Rattle.multibuffer.specs.StageCopies.{CopyState, HasRightBoxes}
use Rattle.stage_parts.specs.Loads.{Each, HasRoomFor}
use Rattle.stage_parts.specs.Pictures.{sums}
use Rattle.stage_parts.specs.Parts.{nameless}
use Rattle.frame_stages.specs.CullBoxes.{IsWalk, sight_of}

-- the greatest value of each number of a frame
abbrev pub greatest : ℕ
greatest = 2 ^ 32 - 1

-- two channels' numbers, added; each stands still at its greatest value
abbrev pub added : Stats → Stats → Stats
added a b =
    record {
      shown = min (a.shown + b.shown) greatest;
      states = min (a.states + b.states) greatest;
      visited = min (a.visited + b.visited) greatest;
    }

-- A channel's list and numbers are those of a view.
pub record IsChannel (look : Look) (time : ℕ) (v : Viewpoint) (lens : Lens) (d : Drawables) (stats : Stats) : Type 0 where
  pub list : instances_in d ≡ map nameless (draw_list look time v lens)
  pub numbers : stats ≡ stats_of look time v lens

-- The cull of these lists over a copy can be exact: the copy is within the limits and has the right boxes, and there is a
-- list with room for it for each of at most four views.
pub record CanCullAll (copy : CopyState) (time : ℕ) (views : List Viewpoint) (lists : List Drawables) : Type 0 where
  pub within : IsWithinLimits (node_at copy.nodes) time
  pub boxes : HasRightBoxes copy
  pub many : length lists ≡ length views
  pub room : Each (HasRoomFor (size_of (node_at copy.nodes) 0) (triangle_count (node_at copy.nodes))) lists
  pub few : length views ≤ 4

-- Of lists, those of the first channels are culled by the boxes of the copy. Where the cull can be exact they are right, and
-- the numbers are theirs.
pub record AreCulledTo (copy : CopyState) (time : ℕ) (views : List Viewpoint) (lens : Lens) (n : ℕ)
    (before after : List Drawables) (stats : Stats) : Type 0 where
  pub many : length after ≡ length before
  pub behind : (i : ℕ) → n ≤ i → slice_get after i ≡ slice_get before i
  pub walks : (i : ℕ) (v : Viewpoint) (d e : Drawables) → i < n → slice_get views i ≡ Some v → slice_get before i ≡ Some d →
      slice_get after i ≡ Some e → IsWalk (sight_of copy time lens) v d e
  pub lists : CanCullAll copy time views before → (i : ℕ) (d : Drawables) (v : Viewpoint) → i < n → slice_get after i ≡ Some d →
      slice_get views i ≡ Some v → instances_in d ≡ map nameless (draw_list (node_at copy.nodes) time v lens)
  pub numbers : CanCullAll copy time views before → stats ≡ sums (map (λ v. stats_of (node_at copy.nodes) time v lens) (take n views))

-- All lists are culled, and the numbers are the sums.
pub record AreAllCulled (copy : CopyState) (time : ℕ) (views : List Viewpoint) (lens : Lens)
    (lists : List Drawables) (stats : Stats) : Type 0 where
  pub lists_are : map instances_in lists ≡ map (λ v. map nameless (draw_list (node_at copy.nodes) time v lens)) views
  pub numbers : stats ≡ sums (map (λ v. stats_of (node_at copy.nodes) time v lens) views)
