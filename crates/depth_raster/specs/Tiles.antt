-- Tiles, and what a drawing makes of them.
use Rattle.std.specs.Prelude.{◌≡◌, ℕ, ◌+◌, ◌-◌, ◌<◌, ◌≤◌, Bool, true, false, List, [], slice_index_or, fold, Option, Some, None}
use Rattle.std.specs.Option.{IfSome}
use Rattle.fx_math.specs.declared.lenses.Lens.{Lens}
use Rattle.tri_cover.specs.declared.hit.Hit.{Hit}
use Rattle.tri_cover.specs.Hits.{hit}
use Rattle.tri_cover.specs.Picture.{Fragment, nearer}
use Rattle.depth_raster.specs.Blocks.{place_in, colour_in}
use Rattle.depth_raster.specs.Faces.{glazed_by_face}
use Rattle.depth_raster.specs.Pieces.{fragments_by, pieces_glaze, IsColoured, kept_colour, settled}
use Rattle.depth_raster.specs.Marks.{nothing, no_mark, mark_over, seen_as, behind_as}
use Rattle.depth_raster.specs.Following.{Follows, Relates}
use Rattle.depth_raster.specs.Owed.{marks_with}
use Rattle.depth_raster.specs.declared.blocks.Block.{Block}
use Rattle.depth_raster.specs.declared.faces.Face.{Face}
use Rattle.depth_raster.specs.declared.marks.Mark.{Mark}
use Rattle.depth_raster.specs.declared.pieces.Piece.{Piece}
use Rattle.depth_raster.specs.declared.tile.Tile.{Tile}

-- the marks of a tile: those written, or those that are owed
abbrev pub marks_of : Tile → List Mark
marks_of t = marks_with t.block t.marks.items t.owed

-- the mark at a pixel of a block
abbrev pub mark_in : Block → List Mark → (q r : ℕ) → Mark
mark_in b marks q r = slice_index_or marks (place_in b q r) no_mark

-- the marks of row r have the rank, from column start to before column end
abbrev pub HaveRank : Block → List Mark → (r start end rank : ℕ) → Type 0
HaveRank b marks r start end rank = (q : ℕ) → start ≤ q → q < end → (mark_in b marks q r).rank ≡ rank

-- what is made of a mark at a pixel of the picture, by the pixel's place in a block
abbrev pub within : {X : Type 0} → Block → (ℕ → ℕ → X → X) → (q r : ℕ) → X → X
within b f q r x = f (b.left + q) (b.first + r) x

-- the same of a colour, over marks
abbrev pub glass_within : Block → List Mark → (ℕ → ℕ → Mark → List ℕ → List ℕ) → (q r : ℕ) → List ℕ → List ℕ
glass_within b marks f q r colour = f (b.left + q) (b.first + r) (mark_in b marks q r) colour

-- what a face makes of marks
abbrev pub face_over : Lens → Face → (px py : ℕ) → Mark → Mark
face_over lens f px py m = mark_over lens px py f m

-- each hit of a face at a pixel of the block lies behind the depth
abbrev pub IsBehind : Lens → Face → Block → (depth : ℕ) → Type 0
IsBehind lens f b depth = (q r : ℕ) (h : Hit) → q < b.width → r < b.rows → hit lens (b.left + q) (b.first + r) [] f.tri ≡ Some h
    → depth + 1 + f.shift ≤ h.depth

-- no hit of a face at a pixel of the block has a mark before the depth
abbrev pub IsNoNearer : Lens → Face → Block → (depth : ℕ) → Type 0
IsNoNearer lens f b depth = (q r : ℕ) (h : Hit) → q < b.width → r < b.rows → hit lens (b.left + q) (b.first + r) [] f.tri ≡ Some h
    → depth ≤ h.depth - f.shift

-- the tile's marks and colours stay
pub record IsKept (before after : Tile) : Type 0 where
  pub block : after.block ≡ before.block
  pub marks : marks_of after ≡ marks_of before
  pub colours : after.colours.items ≡ before.colours.items

-- the mark at each pixel is what f makes of the mark before; the colours stay
pub record MarksFollow (f : ℕ → ℕ → Mark → Mark) (before after : Tile) : Type 0 where
  pub block : after.block ≡ before.block
  pub colours : after.colours.items ≡ before.colours.items
  pub marks : Follows before.block.width before.block.rows (mark_in before.block (marks_of before))
      (mark_in before.block (marks_of after)) (within before.block f)

-- what a piece of glass makes of colours, over marks
abbrev pub face_glazes : Lens → Face → (px py : ℕ) → Mark → List ℕ → List ℕ
face_glazes lens f px py m under = glazed_by_face lens px py f (behind_as m) under

-- the colour at each pixel is what f makes of the mark and the colour before; the marks stay
pub record ColoursFollow (f : ℕ → ℕ → Mark → List ℕ → List ℕ) (before after : Tile) : Type 0 where
  pub block : after.block ≡ before.block
  pub marks : marks_of after ≡ marks_of before
  pub colours : Follows before.block.width before.block.rows (colour_in before.block before.colours.items)
      (colour_in before.block after.colours.items) (glass_within before.block (marks_of before) f)

-- nothing is drawn in the tile
pub record IsCleared (before after : Tile) : Type 0 where
  pub block : after.block ≡ before.block
  pub marks : (q r : ℕ) → q < before.block.width → r < before.block.rows → mark_in before.block (marks_of after) q r ≡ nothing

-- the tile has one colour; the marks stay
pub record IsFilled (colour : List ℕ) (before after : Tile) : Type 0 where
  pub block : after.block ≡ before.block
  pub marks : marks_of after ≡ marks_of before
  pub colours : (q r : ℕ) → q < before.block.width → r < before.block.rows → colour_in before.block after.colours.items q r ≡ colour

-- the colours before and after pieces are drawn, at a pixel of a block
abbrev pub painted_within : Lens → (back : List ℕ) → List Piece → Block → List Mark → (q r : ℕ) → (before after : List ℕ) → Type 0
painted_within lens back ps b marks q r before after = IsColoured lens (b.left + q) (b.first + r) back ps (mark_in b marks q r) before after

-- the same of a pixel at which no piece is nearest
abbrev pub kept_within : (back : List ℕ) → Block → List Mark → (q r : ℕ) → (before after : List ℕ) → Type 0
kept_within back b marks q r before after = after ≡ kept_colour back (mark_in b marks q r) before

-- and of one at which this piece is nearest: it has the colour of the piece's hit
abbrev pub hit_within : Lens → Piece → Block → (q r : ℕ) → (before after : List ℕ) → Type 0
hit_within lens p b q r before after = IfSome (hit lens (b.left + q) (b.first + r) [] p.face.tri) (λ h. after ≡ h.colour)

-- the colours after pieces are drawn; the marks stay
pub record IsPainted (lens : Lens) (back : List ℕ) (ps : List Piece) (before after : Tile) : Type 0 where
  pub block : after.block ≡ before.block
  pub marks : marks_of after ≡ marks_of before
  pub colours : Relates before.block (colour_in before.block before.colours.items) (colour_in before.block after.colours.items)
      (painted_within lens back ps before.block (marks_of before))

-- what is seen at a pixel of a tile
abbrev pub seen_in : Tile → (q r : ℕ) → Option Fragment
seen_in t q r = seen_as (mark_in t.block (marks_of t) q r) (colour_in t.block t.colours.items q r)

-- the tile has a pixel in column q of row r
pub record IsAt (t : Tile) (q r : ℕ) : Type 0 where
  pub column : q < t.block.width
  pub row : r < t.block.rows

-- Pieces are drawn over a tile whose marks have no rank; where nothing is seen then, the colour is the background's.
pub record IsDrawn (lens : Lens) (back : List ℕ) (ps : List Piece) (before after : Tile) : Type 0 where
  pub block : after.block ≡ before.block
  pub seen : (q r : ℕ) → IsAt before q r → (mark_in before.block (marks_of before) q r).rank ≡ 0
      → seen_in after q r ≡ fold nearer (seen_in before q r) (fragments_by lens (before.block.left + q) (before.block.first + r) ps)
  pub blank : (q r : ℕ) → IsAt before q r → (mark_in before.block (marks_of before) q r).rank ≡ 0 → seen_in after q r ≡ None
      → colour_in after.block after.colours.items q r ≡ back

-- the marks have no rank any more; all else stays
pub record IsSettled (before after : Tile) : Type 0 where
  pub block : after.block ≡ before.block
  pub colours : after.colours.items ≡ before.colours.items
  pub marks : Follows before.block.width before.block.rows (mark_in before.block (marks_of before))
      (mark_in before.block (marks_of after)) (λ q r m. settled m)

-- a tile as its drawing starts: before the first one it is cleared, before a later one its marks lose their ranks
pub record IsBegun (first : Bool) (before after : Tile) : Type 0 where
  pub cleared : first ≡ true → IsCleared before after
  pub settled : first ≡ false → IsSettled before after

-- pieces are drawn over a tile, which is cleared before the first drawing
pub record IsDrawnFrom (lens : Lens) (back : List ℕ) (ps : List Piece) (first : Bool) (before after : Tile) : Type 0 where
  pub start : Tile
  pub begun : IsBegun first before start
  pub drawn : IsDrawn lens back ps start after

-- what pieces of glass make of colours, over marks
abbrev pub pieces_glazes : Lens → List Piece → (px py : ℕ) → Mark → List ℕ → List ℕ
pieces_glazes lens ps px py m under = pieces_glaze lens ps (behind_as m) px py under
