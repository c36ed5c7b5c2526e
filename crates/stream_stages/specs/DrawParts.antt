-- What contracts see of the draw of the stream, and what it keeps.
use Rattle.std.specs.Prelude.{◌≡◌, ℕ, ◌<◌, ◌≤◌, Bool, false, List, [], ◌∷◌, ◌++◌, length, slice_get, Option, Some, MatchOption, IfSome}
use Rattle.std.specs.List.{AllByRecursion, AllZip, flat_map}
use Rattle.std.specs.Option.{option_to_list}
use Rattle.fx_math.specs.declared.lenses.Lens.{Lens}
use Rattle.ppm_out.specs.Pixmap.{Pixmap}
use Rattle.pf_model.specs.Walks.{Instance}
use Rattle.depth_raster.specs.InPieces.{PieceWork, HasDrawn, glass_in_turn, IsGlassLast}
use Rattle.stage_parts.specs.declared.packets.Packet.{Packet}
use Rattle.stage_parts.specs.Loads.{LoadState, IsOfSize, AreImages}
use Rattle.stage_parts.specs.Packets.{has_end, loads_in}
use Rattle.stage_parts.specs.Pictures.{picture_of_list}
use Rattle.stage_parts.specs.Parts.{sent_and_held}
use Rattle.stream_stages.specs.Cuts.{Cut}
use Rattle.stream_stages.specs.declared.drawing.Drawing.{Drawing}
use Rattle.stream_stages.specs.Links.{Streamed, OnlyTakes, OnlySends, OnlyReceives, OnlyGives}
use Rattle.stream_stages.specs.PieceFrames.{PieceLists, lists_in, pieces_of, items_of, CanDrawInTurn, summed, channels_of, PieceFrame, frames_in, left_in}
use Rattle.stream_stages.specs.Drawing.{ShowsAll}

-- The draw of the stream: whether the End was taken, the piece that it holds to give back, the packet that it holds to
-- send, the frame whose pieces come, and its renderer.
pub record StreamDrawState : Type 0 where
  pub ended : Bool
  pub spent : Option Cut
  pub held : Option Packet
  pub frame : Option Drawing
  pub raster : PieceWork

-- with the lens and the background that it is given
pub record StreamDrawWork : Type 0 where
  pub lens : Lens
  pub back : List ℕ
  pub state : StreamDrawState

-- what the draw is given stays
pub record IsGivenAsBefore (old new : StreamDrawWork) : Type 0 where
  pub lens : new.lens ≡ old.lens
  pub back : new.back ≡ old.back

-- some channel of the frame is still to come
abbrev pub HasChannels : Drawing → Type 0
HasChannels f = f.channel < channels_of f.load

-- Its renderer is for its lens and its background, its own image has the lens's size, and the frame whose pieces come has
-- channels.
pub record CanDrawPieces (lens : Lens) (back : List ℕ) (raster : PieceWork) (image : Pixmap) (frame : Option Drawing) : Type 0 where
  pub renderer : raster.lens ≡ lens
  pub background : raster.back ≡ back
  pub size : IsOfSize lens image
  pub channels : IfSome frame HasChannels

-- What is sent of a frame: the load with its cut, the numbers of the frame, and the pictures of its lists, where its images
-- have the lens's size and its lists can be drawn as they came.
pub record IsDrawn (lens : Lens) (back : List ℕ) (f : PieceFrame) (new : LoadState) : Type 0 where
  pub cut : new.cut ≡ f.load.cut
  pub stats : new.stats ≡ summed f.lists
  pub painted : AreImages lens (channels_of f.load) f.load.images → AllByRecursion (λ ps. CanDrawInTurn (items_of ps)) f.lists →
      new.bytes ≡ flat_map (λ ps. picture_of_list lens back (items_of ps)) f.lists

-- Of images those of the first channels show their lists, where all had the lens's size, and the lists can be drawn as they
-- came.
pub record AreShownTo (lens : Lens) (back : List ℕ) (lists : List (List Cut)) (channels : ℕ) (before after : List Pixmap) : Type 0 where
  pub many : length after ≡ length before
  pub behind : (i : ℕ) → length lists ≤ i → slice_get after i ≡ slice_get before i
  pub shown : AreImages lens channels before → (i : ℕ) (ps : List Cut) (image : Pixmap) → slice_get lists i ≡ Some ps →
      slice_get after i ≡ Some image → CanDrawInTurn (items_of ps) → ShowsAll lens back (items_of ps) image

-- All lists of the loads before the load `old` came, and of this one the first lists came and are drawn.
pub record IsDrawnTo (lens : Lens) (back : List ℕ) (before : List LoadState) (old : LoadState) (whole : List (List Cut)) (f : Drawing) :
    Type 0 where
  pub frames : length (frames_in before whole) ≡ length before
  pub channel : f.channel ≡ length (left_in before whole)
  pub stats : f.stats ≡ summed (left_in before whole)
  pub load : f.load ≡ record old { images = f.load.images }
  pub images : AreShownTo lens back (left_in before whole) (channels_of old) old.images f.load.images

-- The renderer has drawn the pieces of the list that is under way, where this can begin a list that can be drawn as it comes.
abbrev pub HasBegun : PieceWork → List Cut → Type 0
HasBegun raster begun =
    (more : List Instance) → IsGlassLast (items_of begun ++ more) → HasDrawn raster (items_of begun) (glass_in_turn (pieces_of begun))

-- The frame of the last load is under way.
pub record IsUnderway (lens : Lens) (back : List ℕ) (loads : List LoadState) (lists : PieceLists) (raster : PieceWork) (f : Drawing) :
    Type 0 where
  pub some : 0 < length loads
  pub last : (before : List LoadState) (old : LoadState) → loads ≡ before ++ old ∷ [] → IsDrawnTo lens back before old lists.whole f
  pub begun : HasBegun raster lists.begun

-- No frame is under way: all lists of all loads came, and no piece is left over.
pub record IsBetween (loads : List LoadState) (lists : PieceLists) (raster : PieceWork) : Type 0 where
  pub frames : length (frames_in loads lists.whole) ≡ length loads
  pub left : left_in loads lists.whole ≡ []
  pub begun : lists.begun ≡ []
  pub drawn : HasDrawn raster [] []

-- What DRAW sent and holds to send are the frames all of whose pieces came, in order, each with its pictures and numbers; at
-- most one more frame is under way. It sends no End. On the link back it gives each piece that came, behind the first ones
-- that were there before.
pub record StreamDrawPart (lens : Lens) (back : List ℕ) (first : List Cut) (d : StreamDrawState) (taken sent : List Packet)
    (came gone : List Cut) : Type 0 where
  pub drawn : AllZip (IsDrawn lens back) (frames_in (loads_in taken) (lists_in came).whole) (loads_in (sent_and_held sent d.held))
  pub ends : has_end (sent_and_held sent d.held) ≡ false
  pub ended : d.ended ≡ has_end taken
  pub back_again : gone ++ option_to_list d.spent ≡ first ++ came
  pub frame : MatchOption d.frame (IsBetween (loads_in taken) (lists_in came) d.raster)
      (IsUnderway lens back (loads_in taken) (lists_in came) d.raster)

-- Why DRAW has to wait where it holds nothing: a frame is under way, and no piece came; or no packet came.
abbrev pub WaitsToTake : StreamDrawState → (no_piece dry : Type 0) → Type 0
WaitsToTake d no_piece dry = MatchOption d.frame dry (λ _. no_piece)

-- where it holds no piece: it holds a packet, and its link is full; or as above
abbrev pub WaitsToMove : StreamDrawState → (full no_piece dry : Type 0) → Type 0
WaitsToMove d full no_piece dry = MatchOption d.held (WaitsToTake d no_piece dry) (λ _. full)

-- why DRAW has to wait: it holds a piece, and the link back is full; or as above
abbrev pub WaitsToDraw : StreamDrawState → (no_room_back full no_piece dry : Type 0) → Type 0
WaitsToDraw d no_room_back full no_piece dry = MatchOption d.spent (WaitsToMove d full no_piece dry) (λ _. no_room_back)

-- Turns

-- Where DRAW holds nothing: while a frame is under way it only receives a piece, and else only takes a packet.
abbrev pub TakesInTurn : (before after : Streamed StreamDrawState) → Type 0
TakesInTurn before after = WaitsToTake before.state (OnlyReceives before after) (OnlyTakes before after)

-- where it holds no piece: it only sends the packet that it holds; or as above
abbrev pub MovesInTurn : (before after : Streamed StreamDrawState) → Type 0
MovesInTurn before after =
    WaitsToMove before.state (OnlySends before after) (OnlyReceives before after) (OnlyTakes before after)

-- it only gives back the piece that it holds; or as above
abbrev pub DrawsInTurn : (before after : Streamed StreamDrawState) → Type 0
DrawsInTurn before after =
    WaitsToDraw before.state (OnlyGives before after) (OnlySends before after) (OnlyReceives before after) (OnlyTakes before after)
