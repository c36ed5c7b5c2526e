-- A picture whose draw list comes in pieces: what a renderer has drawn of it so far.
use Rattle.std.specs.Prelude.{◌≡◌, ℕ, ◌<◌, Bool, true, false, List, [], ◌++◌, filter, flat_map, None}
use Rattle.std.specs.List.{list_any}
use Rattle.fx_math.specs.declared.lenses.Lens.{Lens}
use Rattle.pf_model.specs.Walks.{Instance}
use Rattle.tri_cover.specs.Glass.{is_opaque, is_glass, is_drawn_before}
use Rattle.tri_cover.specs.Sorting.{sorted}
use Rattle.depth_raster.specs.Canvas.{behind_at, drawn_with, glazed_with}
use Rattle.depth_raster.specs.Drawing.{opaque_over, glass_glazes}
use Rattle.depth_raster.specs.Marks.{seen_as, behind_as}
use Rattle.depth_raster.specs.declared.marks.Mark.{Mark}
use Rattle.depth_raster.specs.declared.pieces.Piece.{Piece}
use Rattle.depth_raster.specs.declared.strip.Strip.{Strip}

-- What the renderer holds: its lens, the background, whether glass has come, and the strips with what is still to be drawn
-- in them.
pub record PieceWork : Type 0 where
  pub lens : Lens
  pub back : List ℕ
  pub glazing : Bool
  pub first : Bool
  pub strips : List Strip
  pub pieces : List Piece

-- at each pixel the nearest hit of the opaque instances among xs is drawn
abbrev pub GroundIn : Lens → (first : Bool) → List Strip → List Piece → (xs : List Instance) → Type 0
GroundIn lens first strips ps xs =
    (px py : ℕ) → px < lens.w → py < lens.h → drawn_with lens first strips ps px py ≡ opaque_over lens xs px py None

-- At a pixel the glass ys lies, in this order, over the nearest hit of the opaque instances among xs, which left a mark and a
-- colour, or over the background.
pub record GlassAt (lens : Lens) (back : List ℕ) (strips : List Strip) (ps : List Piece) (xs ys : List Instance) (px py : ℕ) : Type 0 where
  pub mark : Mark
  pub colour : List ℕ
  pub seen : seen_as mark colour ≡ opaque_over lens xs px py None
  pub blank : seen_as mark colour ≡ None → colour ≡ back
  pub behind : behind_at strips px py ≡ behind_as mark
  pub glazed : glazed_with lens strips ps px py ≡ glass_glazes lens (behind_as mark) ys px py colour

-- at each pixel
abbrev pub GlassIn : Lens → (back : List ℕ) → List Strip → List Piece → (xs ys : List Instance) → Type 0
GlassIn lens back strips ps xs ys = (px py : ℕ) → px < lens.w → py < lens.h → GlassAt lens back strips ps xs ys px py

-- the instances xs have been drawn, those of them that are glass as ys, in this order
pub record HasDrawn (w : PieceWork) (xs ys : List Instance) : Type 0 where
  pub glazing : w.glazing ≡ list_any is_glass xs
  pub none : w.glazing ≡ false → ys ≡ []
  pub ground : w.glazing ≡ false → GroundIn w.lens w.first w.strips w.pieces xs
  pub glass : w.glazing ≡ true → GlassIn w.lens w.back w.strips w.pieces xs ys

-- what the renderer holds, by its parts
abbrev pub held : Lens → (back : List ℕ) → (glazing first : Bool) → List Strip → List Piece → PieceWork
held lens back glazing first strips ps =
    record { lens = lens; back = back; glazing = glazing; first = first; strips = strips; pieces = ps }

-- the instances of all pieces of a list
abbrev pub joined : (pieces : List (List Instance)) → List Instance
joined pieces = flat_map (λ xs. xs) pieces

-- the glass of pieces as it is drawn: that of each piece in its order, piece after piece
abbrev pub glass_in_turn : (pieces : List (List Instance)) → List Instance
glass_in_turn pieces = flat_map (λ xs. sorted is_drawn_before (filter is_glass xs)) pieces

-- the glass among xs stands in the order in which it is drawn
abbrev pub IsGlassInOrder : List Instance → Type 0
IsGlassInOrder xs = sorted is_drawn_before (filter is_glass xs) ≡ filter is_glass xs

-- no opaque instance stands after glass
abbrev pub IsGlassLast : List Instance → Type 0
IsGlassLast xs = xs ≡ filter is_opaque xs ++ filter is_glass xs
