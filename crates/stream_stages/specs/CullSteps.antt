-- How the cull of the stream goes on.
use Rattle.std.specs.Prelude.{◌≡◌, ℕ, ◌≤◌, true, false, List, [], ◌∷◌, ◌++◌, length}
use Rattle.fx_math.specs.declared.lenses.Lens.{Lens}
use Rattle.pf_model.specs.Graphs.{node_at}
use Rattle.pf_model.specs.Limits.{KeepsLimits}
use Rattle.pf_model.specs.Copies.{updated_by}
use Rattle.draw_list.specs.Lists.{instances_in}
use Rattle.cull_walk.specs.Working.{Scene}
use Rattle.multibuffer.specs.StageCopies.{CopyState, HasRightBoxes}
use Rattle.stage_parts.specs.Loads.{LoadState}
use Rattle.stream_stages.specs.Cuts.{Cut}
use Rattle.stream_stages.specs.Routes.{Walking, to_come}
use Rattle.stream_stages.specs.Underway.{IsUnderway, numbers_of}
use Rattle.stream_stages.specs.Filled.{IsFilled, IsOneWalk}
use Rattle.stream_stages.specs.declared.sending.Sending.{Sending}
use Rattle.stream_stages.specs.PieceFrames.{PieceLists, channels_of}
use Rattle.stream_stages.specs.CullParts.{with_stood, IsCopyOf, AreStreamed, scene_at, IsUpToChannel}

-- A load's update list goes into the copy, whose boxes are brought to it, and in its place stands what stood there.
pub record TakesUpdates (before after : CopyState) (old new : LoadState) : Type 0 where
  pub nodes : after.nodes ≡ updated_by before.nodes old.cut.updates
  pub boxes : HasRightBoxes before → KeepsLimits (node_at after.nodes) → HasRightBoxes after
  pub load : new ≡ with_stood before.nodes old

-- CULL is ready to go on with the frame of the last load: all lists up to a channel are sent, and no piece more.
pub record IsReadyToSend (lens : Lens) (limit : ℕ) (copy : CopyState) (loads : List LoadState) (lists : PieceLists) (s : Sending) :
    Type 0 where
  pub before : List LoadState
  pub last : LoadState
  pub all : loads ≡ before ++ last ∷ []
  pub streamed : AreStreamed lens limit before lists.whole
  pub up_to : IsUpToChannel lens limit copy before last lists.whole s
  pub few : s.channel ≤ channels_of last
  pub begun : lists.begun ≡ []
  pub copied : IsCopyOf copy loads

-- From the walk `before` on to `after` a piece was filled with what is sent next.
pub record FillsNext (s : Scene) (before after : Walking) (piece : Cut) : Type 0 where
  pub underway : IsUnderway s after
  pub sent : to_come s before ≡ instances_in piece.list ++ to_come s after
  pub full : piece.last ≡ false → IsFilled s.look piece.limit piece.list after
  pub last : piece.last ≡ true → to_come s after ≡ []
  pub numbers : numbers_of s after ≡ numbers_of s before
  pub stats : piece.last ≡ true → piece.stats ≡ numbers_of s before

-- A piece is filled with what the walk of a copy sends next, where this goes on from its start.
pub record FillsOne (copy : CopyState) (before after : Walking) (old new : Cut) : Type 0 where
  pub limit : new.limit ≡ old.limit
  pub least : 1 ≤ new.limit
  pub few : length new.list.items.items ≤ new.limit
  pub walk : IsOneWalk before after
  pub next : IsUnderway (scene_at copy before) before → FillsNext (scene_at copy before) before after new
