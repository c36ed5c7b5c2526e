-- Pieces over a tile: what is seen.
use Rattle.std.proofs.Common.{◌≡◌, ℕ, ◌+◌, ◌<◌, Bool, true, false, List, length, get_or, refl, ap, sym, ◌∙◌, subst, arith}
use Rattle.std.specs.Prelude.{fold}
use Rattle.fx_math.specs.declared.lenses.Lens.{Lens}
use Rattle.tri_cover.specs.Picture.{nearer}
use Rattle.depth_raster.specs.Blocks.{colour_in}
use Rattle.depth_raster.specs.Marks.{seen_as}
use Rattle.depth_raster.specs.Pieces.{AreRanked, fragments_by, pieces_over, IsColoured}
use Rattle.depth_raster.specs.StripSlots.{strip_slots_over}
use Rattle.depth_raster.specs.Strips.{AreTilesOf, TilesRelate}
use Rattle.depth_raster.specs.Tiles.{marks_of, mark_in, MarksFollow, IsPainted, IsAt, IsBegun, IsDrawn, IsDrawnFrom}
use Rattle.depth_raster.specs.declared.blocks.Block.{Block}
use Rattle.depth_raster.specs.declared.marks.Mark.{Mark}
use Rattle.depth_raster.specs.declared.pieces.Piece.{Piece}
use Rattle.depth_raster.specs.declared.strip_slots.StripSlot.{StripSlot}
use Rattle.depth_raster.specs.declared.tile.Tile.{Tile}
use Rattle.depth_raster.proofs.Settling.{pieces_seen, pieces_blank}
use Rattle.depth_raster.proofs.Slotted.{tiles_kept}

-- at the pixels of the tile the slots make the same of marks as the pieces
abbrev pub AreOver : Lens → List Piece → List StripSlot → Tile → Type 0
AreOver lens ps ss t = (q r : ℕ) → IsAt t q r → (m : Mark) → strip_slots_over lens ps ss (t.block.left + q) (t.block.first + r) m ≡ pieces_over lens ps (t.block.left + q) (t.block.first + r) m

-- one pixel of a tile: its mark before, with the pieces, and after; its colour before and after
record IsPixelDrawn (lens : Lens) (px py : ℕ) (back : List ℕ) (ps : List Piece) (m n : Mark) (c d : List ℕ) : Type 0 where
  marked : n ≡ pieces_over lens ps px py m
  coloured : IsColoured lens px py back ps (pieces_over lens ps px py m) c d

pixel_drawn : (lens : Lens) (back : List ℕ) (ps : List Piece) (ss : List StripSlot) (a b c : Tile) → AreOver lens ps ss a → MarksFollow (strip_slots_over lens ps ss) a b → IsPainted lens back ps b c → (q r : ℕ) → IsAt a q r →
    IsPixelDrawn lens (a.block.left + q) (a.block.first + r) back ps (mark_in a.block (marks_of a) q r) (mark_in c.block (marks_of c) q r) (colour_in a.block a.colours.items q r) (colour_in c.block c.colours.items q r)
pixel_drawn lens back ps ss a b c slots h k q r at = record {
  marked = ap (λ (d : Block). mark_in d (marks_of c) q r) k.block ∙ ap (λ (ms : List Mark). mark_in b.block ms q r) k.marks ∙ marked;
  coloured =
      subst (λ (d : Block). IsColoured lens px py back ps over (colour_in a.block a.colours.items q r) (colour_in d c.colours.items q r)) (sym k.block)
      (subst (λ (cs : List (List ℕ)). IsColoured lens px py back ps over (colour_in a.block cs q r) (colour_in b.block c.colours.items q r)) h.colours
      (subst (λ (d : Block). IsColoured lens px py back ps over (colour_in d b.colours.items q r) (colour_in b.block c.colours.items q r)) h.block
      (subst (λ (m : Mark). IsColoured lens px py back ps m (colour_in b.block b.colours.items q r) (colour_in b.block c.colours.items q r)) marked
      (subst (λ (d : Block). IsColoured lens (d.left + q) (d.first + r) back ps (mark_in b.block (marks_of b) q r) (colour_in b.block b.colours.items q r) (colour_in b.block c.colours.items q r)) h.block
      (k.colours q r column row)))));
}
  where
    px : ℕ
    px = a.block.left + q

    py : ℕ
    py = a.block.first + r

    over : Mark
    over = pieces_over lens ps px py (mark_in a.block (marks_of a) q r)

    column : q < b.block.width
    column = subst (λ (d : Block). q < d.width) (sym h.block) at.column

    row : r < b.block.rows
    row = subst (λ (d : Block). r < d.rows) (sym h.block) at.row

    marked : mark_in b.block (marks_of b) q r ≡ over
    marked = ap (λ (d : Block). mark_in d (marks_of b) q r) h.block ∙ h.marks q r at.column at.row ∙ slots q r at (mark_in a.block (marks_of a) q r)

pixel_seen : (lens : Lens) (px py : ℕ) (back : List ℕ) (ps : List Piece) (m n : Mark) (c d : List ℕ) → AreRanked ps → m.rank ≡ 0 → IsPixelDrawn lens px py back ps m n c d → seen_as n d ≡ fold nearer (seen_as m c) (fragments_by lens px py ps)
pixel_seen lens px py back ps m n c d ranks none is = ap (λ (k : Mark). seen_as k d) is.marked ∙ pieces_seen lens px py ps m c none back d ranks is.coloured

pub tile_drawn_over : (lens : Lens) (back : List ℕ) (ps : List Piece) (ss : List StripSlot) (a b c : Tile) → AreOver lens ps ss a → AreRanked ps → MarksFollow (strip_slots_over lens ps ss) a b → IsPainted lens back ps b c → IsDrawn lens back ps a c
tile_drawn_over lens back ps ss a b c slots ranks h k = record {
  block = k.block ∙ h.block;
  seen = λ q r at none.
      pixel_seen lens (a.block.left + q) (a.block.first + r) back ps (mark_in a.block (marks_of a) q r) (mark_in c.block (marks_of c) q r)
      (colour_in a.block a.colours.items q r) (colour_in c.block c.colours.items q r) ranks none (pixel_drawn lens back ps ss a b c slots h k q r at);
  blank = λ q r at none blank.
      let px = a.block.left + q in
      let py = a.block.first + r in
      let m = mark_in a.block (marks_of a) q r in
      let is = pixel_drawn lens back ps ss a b c slots h k q r at in
      pieces_blank lens px py ps m (colour_in a.block a.colours.items q r) none back (colour_in c.block c.colours.items q r) ranks is.coloured
      (sym (pixel_seen lens px py back ps m (mark_in c.block (marks_of c) q r) (colour_in a.block a.colours.items q r) (colour_in c.block c.colours.items q r) ranks none is) ∙ blank);
}

-- ---- a drawing and how it starts
begun_block : (first : Bool) (t start : Tile) → IsBegun first t start → start.block ≡ t.block
begun_block true t start begun = (begun.cleared refl).block
begun_block false t start begun = (begun.settled refl).block

pub drawn_block : (lens : Lens) (back : List ℕ) (ps : List Piece) (first : Bool) (before after : Tile) → IsDrawnFrom lens back ps first before after → after.block ≡ before.block
drawn_block lens back ps first before after h = h.drawn.block ∙ begun_block first before h.start h.begun

pub begun_tiles_kept : (first : Bool) (band : Block) (before after : List Tile) → AreTilesOf band before → length after ≡ length before → TilesRelate (IsBegun first) before after → AreTilesOf band after
begun_tiles_kept first band before after are long begun = tiles_kept band before after are long (λ j d below. begun_block first (get_or before j d) (get_or after j d) (begun j d below))

pub tiles_drawn_from : (lens : Lens) (back : List ℕ) (ps : List Piece) (first : Bool) (before start after : List Tile) → length start ≡ length before → TilesRelate (IsBegun first) before start → TilesRelate (IsDrawn lens back ps) start after → TilesRelate (IsDrawnFrom lens back ps first) before after
tiles_drawn_from lens back ps first before start after long begun drawn j d below = record {
  start = get_or start j d;
  begun = begun j d below;
  drawn = drawn j d (omega (arith, below, long));
}
