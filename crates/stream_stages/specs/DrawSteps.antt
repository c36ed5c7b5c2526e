-- How the draw of the stream goes on.
use Rattle.std.specs.Prelude.{◌≡◌, ℕ, ◌≤◌, false, List, [], ◌∷◌, ◌++◌}
use Rattle.std.specs.List.{AllZip}
use Rattle.fx_math.specs.declared.lenses.Lens.{Lens}
use Rattle.stage_parts.specs.declared.packets.Packet.{Packet}
use Rattle.stage_parts.specs.Loads.{LoadState}
use Rattle.stage_parts.specs.Packets.{has_end, loads_in}
use Rattle.stream_stages.specs.declared.drawing.Drawing.{Drawing}
use Rattle.stream_stages.specs.PieceFrames.{PieceLists, channels_of, frames_in}
use Rattle.stream_stages.specs.DrawParts.{StreamDrawState, IsDrawn, IsDrawnTo, HasBegun}

-- DRAW is ready to go on with the frame of the last load, where pieces came in these lists: all frames before it were sent, it
-- is drawn so far, and where no channel is left, no piece is left over.
pub record IsReadyFor (lens : Lens) (back : List ℕ) (d : StreamDrawState) (taken sent : List Packet) (lists : PieceLists) (f : Drawing) :
    Type 0 where
  pub before : List LoadState
  pub old : LoadState
  pub loads : loads_in taken ≡ before ++ old ∷ []
  pub drawn : AllZip (IsDrawn lens back) (frames_in before lists.whole) (loads_in sent)
  pub so_far : IsDrawnTo lens back before old lists.whole f
  pub few : f.channel ≤ channels_of old
  pub begun : HasBegun d.raster lists.begun
  pub over : channels_of old ≤ f.channel → lists.begun ≡ []
  pub ends : has_end sent ≡ false
  pub ended : d.ended ≡ has_end taken
