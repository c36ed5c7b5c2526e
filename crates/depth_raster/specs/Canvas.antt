-- A picture in strips, pixel by pixel, and what is still to be drawn in it.
use Rattle.std.specs.Prelude.{◌≡◌, ℕ, ◌/◌, ◌%◌, ◌<◌, Bool, if◌then◌else◌, List, [], fold, Option, None, option_and_then, slice_get}
use Rattle.std.specs.Option.{option_map_or}
use Rattle.fx_math.specs.declared.lenses.Lens.{Lens}
use Rattle.tri_cover.specs.Picture.{Fragment, nearer}
use Rattle.depth_raster.specs.Blocks.{colour_in}
use Rattle.draw_list.specs.Lists.{Drawables}
use Rattle.pf_model.specs.Walks.{Instance}
use Rattle.depth_raster.specs.Drawing.{instance_glazes, glass_glazes}
use Rattle.depth_raster.specs.Faces.{glazed_by_face}
use Rattle.depth_raster.specs.Following.{Follows}
use Rattle.depth_raster.specs.Marks.{no_mark, behind_as}
use Rattle.depth_raster.specs.Pieces.{fragments_by, fragment_waiting, fragments_waiting, pieces_glaze}
use Rattle.depth_raster.specs.Tiles.{marks_of, mark_in, seen_in}
use Rattle.depth_raster.specs.declared.faces.Face.{Face}
use Rattle.depth_raster.specs.declared.marks.Mark.{Mark}
use Rattle.depth_raster.specs.declared.pieces.Piece.{Piece}
use Rattle.depth_raster.specs.declared.strip.Strip.{Strip}
use Rattle.depth_raster.specs.declared.tile.Tile.{Tile}
use Rattle.depth_raster.specs.declared.waiting.Waiting.{Waiting}

-- the tile of a pixel of the picture
abbrev pub tile_at : List Strip → (px py : ℕ) → Option Tile
tile_at strips px py = option_and_then (λ s. slice_get s.tiles.items (px / 16)) (slice_get strips (py / 16))

-- what is seen there of what is drawn
unfoldable pub seen_at : List Strip → (px py : ℕ) → Option Fragment
seen_at strips px py = option_map_or (λ t. seen_in t (px % 16) (py % 16)) (tile_at strips px py) None

-- the same, where nothing is drawn before the first drawing
abbrev pub seen_from : (first : Bool) → List Strip → (px py : ℕ) → Option Fragment
seen_from first strips px py = if first then None else seen_at strips px py

-- its mark
unfoldable pub mark_at : List Strip → (px py : ℕ) → Mark
mark_at strips px py = option_map_or (λ t. mark_in t.block (marks_of t) (px % 16) (py % 16)) (tile_at strips px py) no_mark

-- its colour
unfoldable pub colour_at : List Strip → (px py : ℕ) → List ℕ
colour_at strips px py = option_map_or (λ t. colour_in t.block t.colours.items (px % 16) (py % 16)) (tile_at strips px py) []

-- what glass there has behind it
abbrev pub behind_at : List Strip → (px py : ℕ) → Option Fragment
behind_at strips px py = behind_as (mark_at strips px py)

-- what is seen at a pixel once opaque pieces are drawn
abbrev pub drawn_with : Lens → (first : Bool) → List Strip → List Piece → (px py : ℕ) → Option Fragment
drawn_with lens first strips ps px py = fold nearer (seen_from first strips px py) (fragments_by lens px py ps)

-- the same, and then the triangles that wait
abbrev pub drawn_after : Drawables → Lens → (first : Bool) → List Strip → List Piece → List Waiting → (px py : ℕ) → Option Fragment
drawn_after d lens first strips ps ws px py = fold nearer (drawn_with lens first strips ps px py) (fragments_waiting d lens px py ws)

-- the colour at a pixel once pieces of glass are drawn
abbrev pub glazed_with : Lens → List Strip → List Piece → (px py : ℕ) → List ℕ
glazed_with lens strips ps px py = pieces_glaze lens ps (behind_at strips px py) px py (colour_at strips px py)

-- at each pixel f is made of what is seen there once the pieces are drawn
abbrev pub Draws : Lens → (first : Bool) → (strips : List Strip) → (ps : List Piece)
    → (first' : Bool) → (strips' : List Strip) → (ps' : List Piece) → (f : ℕ → ℕ → Option Fragment → Option Fragment) → Type 0
Draws lens first strips ps first' strips' ps' f =
    Follows lens.w lens.h (drawn_with lens first strips ps) (drawn_with lens first' strips' ps') f

-- the same, with triangles that wait
abbrev pub Gathers : Drawables → Lens → (first : Bool) → (strips : List Strip) → (ps : List Piece) → (ws : List Waiting)
    → (first' : Bool) → (strips' : List Strip) → (ps' : List Piece) → (ws' : List Waiting)
    → (f : ℕ → ℕ → Option Fragment → Option Fragment) → Type 0
Gathers d lens first strips ps ws first' strips' ps' ws' f =
    Follows lens.w lens.h (drawn_after d lens first strips ps ws) (drawn_after d lens first' strips' ps' ws') f

-- at each pixel f is made of the colour once the pieces are drawn, and what glass has behind it stays
pub record Glazes (lens : Lens) (strips : List Strip) (ps : List Piece) (strips' : List Strip) (ps' : List Piece)
    (f : Option Fragment → ℕ → ℕ → List ℕ → List ℕ) : Type 0 where
  pub behind : (px py : ℕ) → px < lens.w → py < lens.h → behind_at strips' px py ≡ behind_at strips px py
  pub colours : (px py : ℕ) → px < lens.w → py < lens.h
      → glazed_with lens strips' ps' px py ≡ f (behind_at strips px py) px py (glazed_with lens strips ps px py)

-- what the triangle of a number in the item of a number makes of what is seen
abbrev pub waiting_over : Drawables → Lens → (item number : ℕ) → (px py : ℕ) → Option Fragment → Option Fragment
waiting_over d lens item number px py drawn = option_map_or (nearer drawn) (fragment_waiting d lens item number px py) drawn

-- what a face of glass makes of a colour
abbrev pub face_glazed : Lens → Face → (behind : Option Fragment) → (px py : ℕ) → List ℕ → List ℕ
face_glazed lens f behind px py under = glazed_by_face lens px py f behind under

-- what an instance of glass makes of it
abbrev pub instance_glazed : Lens → Instance → (behind : Option Fragment) → (px py : ℕ) → List ℕ → List ℕ
instance_glazed lens x behind px py under = instance_glazes lens behind x px py under

-- what instances of glass make of it
abbrev pub glass_glazed : Lens → List Instance → (behind : Option Fragment) → (px py : ℕ) → List ℕ → List ℕ
glass_glazed lens xs behind px py under = glass_glazes lens behind xs px py under
