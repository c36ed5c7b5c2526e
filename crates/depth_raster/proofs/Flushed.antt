-- A batch drawn in all strips: what is seen at each pixel.
use Rattle.std.proofs.Common.{◌≡◌, ℕ, ◌+◌, ◌%◌, ◌<◌, Bool, true, false, List, [], ◌∷◌, ◌++◌, length, Option, Some, None, refl, ap, sym, ◌∙◌, subst}
use Rattle.std.specs.Prelude.{fold}
use Rattle.std.specs.Option.{option_map_or}
use Rattle.std.specs.List.{cons_option}
use Rattle.std.proofs.lemmas.List.Elements.{filter_map-append}
use Rattle.std.proofs.lemmas.List.Sums.{fold-append}
use Rattle.draw_list.specs.Lists.{Drawables}
use Rattle.fx_math.specs.declared.lenses.Lens.{Lens}
use Rattle.tri_cover.specs.Picture.{Fragment, nearer}
use Rattle.depth_raster.specs.Blocks.{colour_in}
use Rattle.depth_raster.specs.Canvas.{tile_at, seen_at, seen_from, mark_at, colour_at, drawn_with, drawn_after, Gathers, waiting_over}
use Rattle.depth_raster.specs.Goes.{IsDrawnIn}
use Rattle.depth_raster.specs.Marks.{nothing, no_mark, seen_as}
use Rattle.depth_raster.specs.Pieces.{fragments_by, fragment_waiting, fragments_waiting, settled}
use Rattle.depth_raster.specs.Strips.{StripsRelate, AreStrips}
use Rattle.depth_raster.specs.Tiles.{marks_of, mark_in, seen_in, IsAt, IsCleared, IsBegun, IsDrawn, IsDrawnFrom}
use Rattle.depth_raster.specs.declared.blocks.Block.{Block}
use Rattle.depth_raster.specs.declared.goes.Go.{Go}
use Rattle.depth_raster.specs.declared.marks.Mark.{Mark}
use Rattle.depth_raster.specs.declared.pieces.Piece.{Piece}
use Rattle.depth_raster.specs.declared.strip.Strip.{Strip}
use Rattle.depth_raster.specs.declared.tile.Tile.{Tile}
use Rattle.depth_raster.specs.declared.waiting.Waiting.{Waiting}
use Rattle.depth_raster.proofs.Drawn.{drawn_block}
use Rattle.depth_raster.proofs.PixelTiles.{IsTileAt, tiles_at, strips_kept}

-- ---- what lies at the pixel of a tile
pub seen_is : (strips : List Strip) (px py : ℕ) (t : Tile) → tile_at strips px py ≡ Some t → seen_at strips px py ≡ seen_in t (px % 16) (py % 16)
unfolding seen_at
seen_is strips px py t is = ap (λ (o : Option Tile). option_map_or (λ t. seen_in t (px % 16) (py % 16)) o None) is

pub mark_is : (strips : List Strip) (px py : ℕ) (t : Tile) → tile_at strips px py ≡ Some t → mark_at strips px py ≡ mark_in t.block (marks_of t) (px % 16) (py % 16)
unfolding mark_at
mark_is strips px py t is = ap (λ (o : Option Tile). option_map_or (λ t. mark_in t.block (marks_of t) (px % 16) (py % 16)) o no_mark) is

pub colour_is : (strips : List Strip) (px py : ℕ) (t : Tile) → tile_at strips px py ≡ Some t → colour_at strips px py ≡ colour_in t.block t.colours.items (px % 16) (py % 16)
unfolding colour_at
colour_is strips px py t is = ap (λ (o : Option Tile). option_map_or (λ t. colour_in t.block t.colours.items (px % 16) (py % 16)) o []) is

-- ---- opaque pieces
-- the tile of a pixel as its drawing starts
record StartsAt (first : Bool) (before : List Strip) (px py : ℕ) (t start : Tile) : Type 0 where
  block : start.block ≡ t.block
  unranked : (mark_in start.block (marks_of start) (px % 16) (py % 16)).rank ≡ 0
  seen : seen_in start (px % 16) (py % 16) ≡ seen_from first before px py

cleared_mark : (t start : Tile) (q r : ℕ) → IsCleared t start → IsAt t q r → mark_in start.block (marks_of start) q r ≡ nothing
cleared_mark t start q r is at = ap (λ (d : Block). mark_in d (marks_of start) q r) is.block ∙ is.marks q r at.column at.row

starts_at : (lens : Lens) (before : List Strip) (px py : ℕ) (first : Bool) (t start : Tile) → AreStrips lens before → px < lens.w → py < lens.h → IsTileAt before px py t → IsBegun first t start → StartsAt first before px py t start
starts_at lens before px py true t start are column row at begun =
    let is = begun.cleared refl in
    let mark = cleared_mark t start (px % 16) (py % 16) is at.at in
    record {
      block = is.block;
      unranked = ap (λ (m : Mark). m.rank) mark;
      seen = ap (λ (m : Mark). seen_as m (colour_in start.block start.colours.items (px % 16) (py % 16))) mark;
    }
starts_at lens before px py false t start are column row at begun =
    let is = begun.settled refl in
    let q = px % 16 in
    let r = py % 16 in
    let mark : mark_in start.block (marks_of start) q r ≡ settled (mark_in t.block (marks_of t) q r) =
    ap (λ (d : Block). mark_in d (marks_of start) q r) is.block ∙ is.marks q r at.at.column at.at.row in
    let colour : colour_in start.block start.colours.items q r ≡ colour_in t.block t.colours.items q r =
    ap (λ (d : Block). colour_in d start.colours.items q r) is.block ∙ ap (λ (cs : List (List ℕ)). colour_in t.block cs q r) is.colours in
    record {
      block = is.block;
      unranked = ap (λ (m : Mark). m.rank) mark;
      seen =
          ap (λ (m : Mark). seen_as m (colour_in start.block start.colours.items q r)) mark
          ∙ ap (λ (c : List ℕ). seen_as (mark_in t.block (marks_of t) q r) c) colour
          ∙ sym (seen_is before px py t at.is);
    }

-- a pixel before and after a drawing: its tile as the drawing starts, and then
record IsDrawnAt (lens : Lens) (back : List ℕ) (ps : List Piece) (first : Bool) (before after : List Strip) (px py : ℕ) : Type 0 where
  start : Tile
  new : Tile
  at : IsAt start (px % 16) (py % 16)
  left : start.block.left + px % 16 ≡ px
  top : start.block.first + py % 16 ≡ py
  unranked : (mark_in start.block (marks_of start) (px % 16) (py % 16)).rank ≡ 0
  seen : seen_in start (px % 16) (py % 16) ≡ seen_from first before px py
  is : tile_at after px py ≡ Some new
  drawn : IsDrawn lens back ps start new

drawn_at : (lens : Lens) (back : List ℕ) (ps : List Piece) (first : Bool) (before after : List Strip) → AreStrips lens before → length after ≡ length before → StripsRelate (IsDrawnFrom lens back ps first) before after → (px py : ℕ) → px < lens.w → py < lens.h → IsDrawnAt lens back ps first before after px py
drawn_at lens back ps first before after are long each px py column row =
    let at = tiles_at (IsDrawnFrom lens back ps first) lens before after are long each px py column row in
    let h = at.related in
    let starts = starts_at lens before px py first at.old h.start are column row at.stands h.begun in
    record {
      start = h.start;
      new = at.new;
      at = record {
        column = subst (λ (d : Block). px % 16 < d.width) (sym starts.block) at.stands.at.column;
        row = subst (λ (d : Block). py % 16 < d.rows) (sym starts.block) at.stands.at.row;
      };
      left = ap (λ (d : Block). d.left + px % 16) starts.block ∙ at.stands.left;
      top = ap (λ (d : Block). d.first + py % 16) starts.block ∙ at.stands.first;
      unranked = starts.unranked;
      seen = starts.seen;
      is = at.is;
      drawn = h.drawn;
    }

flushed_seen : (lens : Lens) (back : List ℕ) (ps : List Piece) (first : Bool) (before after : List Strip) → AreStrips lens before → length after ≡ length before → StripsRelate (IsDrawnFrom lens back ps first) before after → (px py : ℕ) → px < lens.w → py < lens.h → seen_at after px py ≡ drawn_with lens first before ps px py
flushed_seen lens back ps first before after are long each px py column row =
    let at = drawn_at lens back ps first before after are long each px py column row in
    let q = px % 16 in
    let r = py % 16 in
    seen_is after px py at.new at.is
    ∙ at.drawn.seen q r at.at at.unranked
    ∙ ap (λ (o : Option Fragment). fold nearer o (fragments_by lens (at.start.block.left + q) (at.start.block.first + r) ps)) at.seen
    ∙ ap (λ (x : ℕ). fold nearer (seen_from first before px py) (fragments_by lens x (at.start.block.first + r) ps)) at.left
    ∙ ap (λ (y : ℕ). fold nearer (seen_from first before px py) (fragments_by lens px y ps)) at.top

flushed_open : (lens : Lens) (back : List ℕ) (ps : List Piece) (first : Bool) (before after : List Strip) → AreStrips lens before → length after ≡ length before → StripsRelate (IsDrawnFrom lens back ps first) before after → AreStrips lens after
flushed_open lens back ps first before after are long each = strips_kept (IsDrawnFrom lens back ps first) lens before after (λ s t h. drawn_block lens back ps first s t h) are long each

flushed_blank : (lens : Lens) (back : List ℕ) (ps : List Piece) (first : Bool) (before after : List Strip) → AreStrips lens before → length after ≡ length before → StripsRelate (IsDrawnFrom lens back ps first) before after → (px py : ℕ) → px < lens.w → py < lens.h → seen_at after px py ≡ None → colour_at after px py ≡ back
flushed_blank lens back ps first before after are long each px py column row none =
    let at = drawn_at lens back ps first before after are long each px py column row in
    colour_is after px py at.new at.is
    ∙ at.drawn.blank (px % 16) (py % 16) at.at at.unranked (sym (seen_is after px py at.new at.is) ∙ none)

-- the strips of a go, by what it is made of
go_drawn : (go : Go) (lens : Lens) (back : List ℕ) (ps : List Piece) (first : Bool) (before after : List Strip) → go.lens.now ≡ lens → go.back ≡ back → go.pieces.now ≡ ps → go.is_first ≡ first → StripsRelate (IsDrawnIn go) before after → StripsRelate (IsDrawnFrom lens back ps first) before after
go_drawn go lens back ps first before after l b p f each =
    subst (λ (x : Lens). StripsRelate (IsDrawnFrom x back ps first) before after) l
    (subst (λ (x : List ℕ). StripsRelate (IsDrawnFrom go.lens.now x ps first) before after) b
    (subst (λ (x : List Piece). StripsRelate (IsDrawnFrom go.lens.now go.back x first) before after) p
    (subst (λ (x : Bool). StripsRelate (IsDrawnFrom go.lens.now go.back go.pieces.now x) before after) f each)))

-- what a go leaves
pub record IsFlushed (lens : Lens) (back : List ℕ) (ps : List Piece) (first : Bool) (before after : List Strip) : Type 0 where
  pub sound : AreStrips lens after
  pub seen : (px py : ℕ) → px < lens.w → py < lens.h → seen_at after px py ≡ drawn_with lens first before ps px py
  pub blank : (px py : ℕ) → px < lens.w → py < lens.h → seen_at after px py ≡ None → colour_at after px py ≡ back

pub go_flushed : (go : Go) (lens : Lens) (back : List ℕ) (ps : List Piece) (first : Bool) (before after : List Strip) → go.lens.now ≡ lens → go.back ≡ back → go.pieces.now ≡ ps → go.is_first ≡ first
    → AreStrips lens before → length after ≡ length before → StripsRelate (IsDrawnIn go) before after → IsFlushed lens back ps first before after
go_flushed go lens back ps first before after l b p f are long each =
    let drawn = go_drawn go lens back ps first before after l b p f each in
    record {
      sound = flushed_open lens back ps first before after are long drawn;
      seen = flushed_seen lens back ps first before after are long drawn;
      blank = flushed_blank lens back ps first before after are long drawn;
    }

-- before the first drawing nothing is seen, and afterwards the marks count
pub first_seen : (lens : Lens) (first : Bool) (strips : List Strip) (ps : List Piece) (px py : ℕ) → first ≡ true → ps ≡ [] → drawn_with lens first strips ps px py ≡ None
first_seen lens first strips ps px py is empty =
    ap (λ (b : Bool). drawn_with lens b strips ps px py) is ∙ ap (λ (qs : List Piece). drawn_with lens true strips qs px py) empty

pub later_seen : (lens : Lens) (first : Bool) (strips : List Strip) (ps : List Piece) (px py : ℕ) → first ≡ false → ps ≡ [] → drawn_with lens first strips ps px py ≡ seen_at strips px py
later_seen lens first strips ps px py is empty =
    ap (λ (b : Bool). drawn_with lens b strips ps px py) is ∙ ap (λ (qs : List Piece). drawn_with lens false strips qs px py) empty

pub later_drawn : (d : Drawables) (lens : Lens) (first : Bool) (strips : List Strip) (ps : List Piece) (ws : List Waiting) (px py : ℕ) → first ≡ false → ps ≡ [] → ws ≡ [] → drawn_after d lens first strips ps ws px py ≡ seen_at strips px py
later_drawn d lens first strips ps ws px py is empty none =
    ap (λ (vs : List Waiting). drawn_after d lens first strips ps vs px py) none ∙ later_seen lens first strips ps px py is empty

-- ---- a triangle more
over_last : (drawn : Option Fragment) (o : Option Fragment) → fold nearer drawn (cons_option o []) ≡ option_map_or (nearer drawn) o drawn
over_last drawn None = refl
over_last drawn (Some f) = refl

pub waiting_more : (d : Drawables) (lens : Lens) (first : Bool) (strips : List Strip) (ps : List Piece) (ws : List Waiting) (w : Waiting) →
    Gathers d lens first strips ps ws first strips ps (ws ++ w ∷ []) (waiting_over d lens w.item w.number)
waiting_more d lens first strips ps ws w px py column row =
    let seen : Option Fragment = drawn_with lens first strips ps px py in
    ap (fold nearer seen) (filter_map-append (λ (v : Waiting). fragment_waiting d lens v.item v.number px py) ws (w ∷ []))
    ∙ fold-append nearer seen (fragments_waiting d lens px py ws) (fragments_waiting d lens px py (w ∷ []))
    ∙ over_last (drawn_after d lens first strips ps ws px py) (fragment_waiting d lens w.item w.number px py)
