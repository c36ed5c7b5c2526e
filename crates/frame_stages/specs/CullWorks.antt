-- What contracts see of the cull, and what it keeps.
use Rattle.std.specs.Prelude.{◌≡◌, ℕ, ◌≤◌, Bool, List, length, Option}
use Rattle.fx_math.specs.declared.lenses.Lens.{Lens}
use Rattle.pf_model.specs.Graphs.{node_at}
use Rattle.pf_model.specs.Limits.{KeepsLimits}
use Rattle.pf_model.specs.Copies.{updated_by}
use Rattle.multibuffer.specs.StageCopies.{CopyState, HasRightBoxes}
use Rattle.stage_parts.specs.declared.packets.Packet.{Packet}
use Rattle.stage_parts.specs.Loads.{LoadState}
use Rattle.stage_parts.specs.Packets.{loads_in, copy_at}
use Rattle.stage_parts.specs.States.{CullState}
use Rattle.stage_parts.specs.Parts.{carried, handed_back, CullPart}
use Rattle.frame_stages.specs.Culling.{CanCullAll, AreAllCulled}
use Rattle.frame_stages.specs.CullBoxes.{GoesByBoxes}

-- The cull: the lens that it is given, its copy of the scene with the boxes, whether the End was passed on, and the packet
-- that it holds to send.
pub record CullWork : Type 0 where
  pub lens : Lens
  pub copy : CopyState
  pub ended : Bool
  pub held : Option Packet

-- its state, without the boxes
abbrev pub cull_state : CullWork → CullState
cull_state w = record { nodes = w.copy.nodes; ended = w.ended; held = w.held }

-- all copies that the update lists of these loads made are within the limits
abbrev pub AreAllWithin : List LoadState → Type 0
AreAllWithin loads = (k : ℕ) → k ≤ length loads → KeepsLimits (node_at (copy_at loads k))

-- All that CULL keeps: its part, and boxes that are right where all copies so far are within the limits.
pub record CullKeeps (w : CullWork) (taken sent : List Packet) : Type 0 where
  pub part : CullPart w.lens (cull_state w) taken sent
  pub boxes : AreAllWithin (loads_in taken) → HasRightBoxes w.copy

-- What the cull of a load does. The update list goes into the copy, and in its place goes back what stood there; the rest of
-- the cut and the images stay. The boxes are brought to the copy, and each channel is culled over it, by its boxes.
pub record CullsLoad (lens : Lens) (before after : CopyState) (old new : LoadState) : Type 0 where
  pub nodes : after.nodes ≡ updated_by before.nodes old.cut.updates
  pub boxes : HasRightBoxes before → KeepsLimits (node_at after.nodes) → HasRightBoxes after
  pub carries : carried new ≡ handed_back before.nodes old
  pub culled : CanCullAll after old.cut.frame old.cut.views old.lists →
      AreAllCulled after old.cut.frame old.cut.views lens new.lists new.stats
  pub by_boxes : GoesByBoxes lens before after old new
