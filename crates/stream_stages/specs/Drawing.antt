-- How a piece is drawn.
use Rattle.std.specs.Prelude.{◌≡◌, ℕ, ◌+◌, true, false, List, [], ◌++◌, filter, length, slice_get, Some}
use Rattle.fx_math.specs.declared.lenses.Lens.{Lens}
use Rattle.ppm_out.specs.Pixmap.{Pixmap, Shows}
use Rattle.pf_model.specs.Walks.{Instance}
use Rattle.tri_cover.specs.Glass.{is_opaque, is_glass, is_drawn_before}
use Rattle.tri_cover.specs.Picture.{picture}
use Rattle.tri_cover.specs.Sorting.{sorted}
use Rattle.draw_list.specs.declared.stats.Stats.{Stats}
use Rattle.draw_list.specs.Lists.{instances_in}
use Rattle.depth_raster.specs.InPieces.{PieceWork, HasDrawn, joined, glass_in_turn, IsGlassInOrder}
use Rattle.stage_parts.specs.Loads.{IsOfSize}
use Rattle.stream_stages.specs.Cuts.{Cut}
use Rattle.stream_stages.specs.declared.drawing.Drawing.{Drawing}
use Rattle.stream_stages.specs.PieceFrames.{capped}

-- the numbers of two channels, added
abbrev pub added : Stats → Stats → Stats
added a b = capped (record { shown = a.shown + b.shown; states = a.states + b.states; visited = a.visited + b.visited })

-- The image has the lens's size and shows the picture of these instances.
pub record ShowsAll (lens : Lens) (back : List ℕ) (xs : List Instance) (image : Pixmap) : Type 0 where
  pub size : IsOfSize lens image
  pub pixels : Shows image (picture lens back xs)

-- Of images at most the one of a channel was exchanged.
pub record ChangesOne (channel : ℕ) (before after : List Pixmap) : Type 0 where
  pub many : length after ≡ length before
  pub others : (i : ℕ) → (i ≡ channel → ⊥) → slice_get after i ≡ slice_get before i

-- Where the image of a channel had the lens's size, there is one in its place of which this holds.
abbrev pub Puts : Lens → ℕ → (before after : List Pixmap) → (Pixmap → Type 0) → Type 0
Puts lens channel before after P =
    (old new : Pixmap) → slice_get before channel ≡ Some old → IsOfSize lens old → slice_get after channel ≡ Some new → P new

-- the renderer stays that of its lens and its background
pub record IsSameRenderer (before after : PieceWork) : Type 0 where
  pub lens : after.lens ≡ before.lens
  pub back : after.back ≡ before.back

-- The renderer draws these instances after all that it has drawn. Where glass has come, they are all glass.
abbrev pub DrawsMore : PieceWork → PieceWork → List Instance → Type 0
DrawsMore before after xs =
    (drawn panes : List Instance) → HasDrawn before drawn panes → (before.glazing ≡ true → filter is_opaque xs ≡ []) →
    HasDrawn after (drawn ++ xs) (panes ++ sorted is_drawn_before (filter is_glass xs))

-- A channel of a frame ends: the picture of all its pieces goes into the channel's image, the numbers are added, and the
-- next channel begins.
pub record EndsChannel (lens : Lens) (back : List ℕ) (stats : Stats) (before after : PieceWork) (old new : Drawing) : Type 0 where
  pub drawn : HasDrawn after [] []
  pub channel : new.channel ≡ old.channel + 1
  pub numbers : new.stats ≡ added old.stats stats
  pub load : new.load ≡ record old.load { images = new.load.images }
  pub images : ChangesOne old.channel old.load.images new.load.images
  pub shown : (pieces : List (List Instance)) → HasDrawn before (joined pieces) (glass_in_turn pieces) → IsGlassInOrder (joined pieces) →
      Puts lens old.channel old.load.images new.load.images (ShowsAll lens back (joined pieces))

-- What becomes of a frame and of the renderer by a piece: the renderer draws it, and if it is the last one of its list, the
-- channel ends.
pub record DrawsPiece (piece : Cut) (before after : PieceWork) (old new : Drawing) : Type 0 where
  pub added : PieceWork
  pub renderer : IsSameRenderer before after
  pub draws : DrawsMore before added (instances_in piece.list)
  pub more : piece.last ≡ false → (new ≡ old) × (after ≡ added)
  pub ends : piece.last ≡ true → EndsChannel before.lens before.back piece.stats added after old new
