-- Pieces drawn over tiles in the order of slots.
use Rattle.std.proofs.Common.{◌≡◌, ℕ, zero, suc, ◌+◌, ◌<◌, ◌≤◌, List, [], ◌∷◌, length, take, get_or, Option, Some, None, refl, ap, sym, ◌∙◌, subst, arith}
use Rattle.std.specs.Prelude.{fold, option_and_then}
use Rattle.std.specs.List.{All, slice_get}
use Rattle.std.proofs.lemmas.List.{take_more}
use Rattle.std.proofs.lemmas.List.Elements.{All-get_or}
use Rattle.std.proofs.lemmas.Option.{get_or_from_slice_get, slice_get_within}
use Rattle.std.proofs.lemmas.List.Sums.{fold-append}
use Rattle.fx_math.specs.declared.lenses.Lens.{Lens}
use Rattle.depth_raster.specs.Marks.{mark_by, mark_with, mark_over}
use Rattle.depth_raster.specs.Pieces.{IsPieceOf}
use Rattle.depth_raster.specs.Slots.{slot_over}
use Rattle.depth_raster.specs.StripSlots.{strip_slot_over, strip_slots_over}
use Rattle.depth_raster.specs.Strips.{AreTilesOf, TilesRelate}
use Rattle.depth_raster.specs.Tiles.{marks_of, mark_in, face_over, MarksFollow}
use Rattle.depth_raster.specs.declared.blocks.Block.{Block}
use Rattle.depth_raster.specs.declared.marks.Mark.{Mark}
use Rattle.depth_raster.specs.declared.pieces.Piece.{Piece}
use Rattle.depth_raster.specs.declared.slots.Slot.{Slot}
use Rattle.depth_raster.specs.declared.strip_slots.StripSlot.{StripSlot}
use Rattle.depth_raster.specs.declared.tile.Tile.{Tile}

-- ---- what is made of marks
marked_as : (f g : ℕ → ℕ → Mark → Mark) → ((px py : ℕ) (m : Mark) → f px py m ≡ g px py m) → (a b : Tile) → MarksFollow f a b → MarksFollow g a b
marked_as f g same a b h = record {
  block = h.block;
  colours = h.colours;
  marks = λ q r column row. h.marks q r column row ∙ same (a.block.left + q) (a.block.first + r) (mark_in a.block (marks_of a) q r);
}

marked_then : (f g : ℕ → ℕ → Mark → Mark) (a b c : Tile) → MarksFollow f a b → MarksFollow g b c → MarksFollow (λ px py m. g px py (f px py m)) a c
marked_then f g a b c h k = record {
  block = k.block ∙ h.block;
  colours = k.colours ∙ h.colours;
  marks = λ q r column row.
      ap (λ (d : Block). mark_in d (marks_of c) q r) (sym h.block)
      ∙ k.marks q r (subst (λ (d : Block). q < d.width) (sym h.block) column) (subst (λ (d : Block). r < d.rows) (sym h.block) row)
      ∙ ap (λ (d : Block). g (d.left + q) (d.first + r) (mark_in d (marks_of b) q r)) h.block
      ∙ ap (g (a.block.left + q) (a.block.first + r)) (h.marks q r column row);
}

marked_not : (t : Tile) → MarksFollow (λ px py m. m) t t
marked_not t = record { block = refl; colours = refl; marks = λ q r column row. refl }

-- tiles that keep their blocks are still those of a band
pub tiles_kept : (band : Block) (before after : List Tile) → AreTilesOf band before → length after ≡ length before → ((j : ℕ) (d : Tile) → j < length before → (get_or after j d).block ≡ (get_or before j d).block) → AreTilesOf band after
tiles_kept band before after are long same = record {
  count = long ∙ are.count;
  blocks = λ j d below. let below' : j < length before = omega (arith, below, long) in same j d below' ∙ are.blocks j d below';
}

pub marked_tiles_kept : (f : ℕ → ℕ → Mark → Mark) (band : Block) (before after : List Tile) → AreTilesOf band before → length after ≡ length before → TilesRelate (MarksFollow f) before after → AreTilesOf band after
marked_tiles_kept f band before after are long h = tiles_kept band before after are long (λ j d below. (h j d below).block)

-- ---- one slot
-- a slot of zeros, in place of one that a list lacks
abbrev pub no_slot : Slot
no_slot = record { least = 0; left = 0; right = 0; top = 0; bottom = 0; index = 0 }

pub nothing_at : {X : Type 0} (xs : List X) (i : ℕ) → length xs ≤ i → slice_get xs i ≡ None
nothing_at [] i h = refl
nothing_at (x ∷ xs) zero h = absurd (omega (arith, h))
nothing_at (x ∷ xs) (suc i) h = nothing_at xs i (omega (arith, h))

pub ready_piece : (lens : Lens) (ps : List Piece) (s : Slot) → All (IsPieceOf lens) ps → (p : Piece) → slice_get ps s.index ≡ Some p → IsPieceOf lens p
ready_piece lens ps s all p is = subst (IsPieceOf lens) (get_or_from_slice_get ps s.index p p is) (All-get_or (IsPieceOf lens) ps s.index p (slice_get_within ps s.index p is) all)

pub slot_is : (lens : Lens) (ps : List Piece) (s : Slot) (p : Piece) → slice_get ps s.index ≡ Some p → (px py : ℕ) (m : Mark) → face_over lens p.face px py m ≡ slot_over lens ps s px py m
unfolding mark_over
slot_is lens ps s p is px py m = ap (λ (o : Option Piece). mark_with m (option_and_then (λ p. mark_by lens px py p.face) o)) (sym is)

pub slot_none : (lens : Lens) (ps : List Piece) (s : Slot) → slice_get ps s.index ≡ None → (px py : ℕ) (m : Mark) → m ≡ slot_over lens ps s px py m
slot_none lens ps s is px py m = ap (λ (o : Option Piece). mark_with m (option_and_then (λ p. mark_by lens px py p.face) o)) (sym is)

-- ---- one slot of a strip
-- a slot of zeros, in place of one that a strip lacks
abbrev pub no_strip_slot : StripSlot
no_strip_slot = record { least = 0; index = 0; start = 0; end = 0 }

strip_slot_is : (lens : Lens) (ps : List Piece) (s : StripSlot) (p : Piece) → slice_get ps s.index ≡ Some p → (px py : ℕ) (m : Mark) → face_over lens p.face px py m ≡ strip_slot_over lens ps s px py m
unfolding mark_over
strip_slot_is lens ps s p is px py m = ap (λ (o : Option Piece). mark_with m (option_and_then (λ p. mark_by lens px py p.face) o)) (sym is)

strip_slot_none : (lens : Lens) (ps : List Piece) (s : StripSlot) → slice_get ps s.index ≡ None → (px py : ℕ) (m : Mark) → m ≡ strip_slot_over lens ps s px py m
strip_slot_none lens ps s is px py m = ap (λ (o : Option Piece). mark_with m (option_and_then (λ p. mark_by lens px py p.face) o)) (sym is)

pub slot_drawn : (lens : Lens) (ps : List Piece) (s : StripSlot) (p : Piece) (before after : List Tile) → slice_get ps s.index ≡ Some p → TilesRelate (MarksFollow (face_over lens p.face)) before after → TilesRelate (MarksFollow (strip_slot_over lens ps s)) before after
slot_drawn lens ps s p before after is drawn j d below = marked_as (face_over lens p.face) (strip_slot_over lens ps s) (strip_slot_is lens ps s p is) (get_or before j d) (get_or after j d) (drawn j d below)

pub slot_absent : (lens : Lens) (ps : List Piece) (s : StripSlot) (tiles : List Tile) → slice_get ps s.index ≡ None → TilesRelate (MarksFollow (strip_slot_over lens ps s)) tiles tiles
slot_absent lens ps s tiles is j d below = marked_as (λ px py m. m) (strip_slot_over lens ps s) (strip_slot_none lens ps s is) (get_or tiles j d) (get_or tiles j d) (marked_not (get_or tiles j d))

-- ---- slot after slot
pub slots_none : (lens : Lens) (ps : List Piece) (tiles : List Tile) → TilesRelate (MarksFollow (strip_slots_over lens ps [])) tiles tiles
slots_none lens ps tiles j d below = marked_not (get_or tiles j d)

slots_snoc : (lens : Lens) (ps : List Piece) (ss : List StripSlot) (i : ℕ) (e : StripSlot) → i < length ss → (px py : ℕ) (m : Mark) → strip_slot_over lens ps (get_or ss i e) px py (strip_slots_over lens ps (take i ss) px py m) ≡ strip_slots_over lens ps (take (i + 1) ss) px py m
slots_snoc lens ps ss i e below px py m =
    let step : Mark → StripSlot → Mark = λ n s. strip_slot_over lens ps s px py n in
    sym (ap (fold step m) (take_more ss i e below) ∙ fold-append step m (take i ss) (get_or ss i e ∷ []))

pub slots_more : (lens : Lens) (ps : List Piece) (ss : List StripSlot) (i : ℕ) (e : StripSlot) (before now after : List Tile) → i < length ss → length now ≡ length before → TilesRelate (MarksFollow (strip_slots_over lens ps (take i ss))) before now → TilesRelate (MarksFollow (strip_slot_over lens ps (get_or ss i e))) now after → TilesRelate (MarksFollow (strip_slots_over lens ps (take (i + 1) ss))) before after
slots_more lens ps ss i e before now after below long so_far next j d in_list =
    let f = strip_slots_over lens ps (take i ss) in
    let g = strip_slot_over lens ps (get_or ss i e) in
    marked_as (λ px py m. g px py (f px py m)) (strip_slots_over lens ps (take (i + 1) ss)) (slots_snoc lens ps ss i e below) (get_or before j d) (get_or after j d)
    (marked_then f g (get_or before j d) (get_or now j d) (get_or after j d) (so_far j d in_list) (next j d (omega (arith, in_list, long))))
