-- Pixels that a face leaves as they are.
use Rattle.std.proofs.Common.{◌≡◌, ℕ, ◌+◌, ◌<◌, ◌≤◌, List, Option, option_map, refl, ap, sym, ◌∙◌, arith, ⊎_elim}
use Rattle.std.specs.Option.{option_map_or}
use Rattle.std.proofs.lemmas.Bool.{cases_lt}
use Rattle.fx_math.specs.declared.lenses.Lens.{Lens}
use Rattle.tri_cover.specs.declared.hit.Hit.{Hit}
use Rattle.tri_cover.specs.Picture.{Fragment, glazed}
use Rattle.depth_raster.specs.declared.blocks.Block.{Block}
use Rattle.depth_raster.specs.declared.faces.Face.{Face}
use Rattle.depth_raster.specs.declared.marks.Mark.{Mark}
use Rattle.depth_raster.specs.Around.{IsUnhit}
use Rattle.depth_raster.specs.Blocks.{IsBlockOf}
use Rattle.depth_raster.specs.Faces.{fragment_in, fragment_by, glazed_by_face}
use Rattle.depth_raster.specs.Marks.{mark_of, mark_with, mark_over}
use Rattle.depth_raster.specs.Pieces.{IsPieceOf}
use Rattle.depth_raster.specs.Tiles.{mark_in, within, face_over}
use Rattle.depth_raster.specs.declared.pieces.Piece.{Piece}
use Rattle.depth_raster.specs.Following.{Follows, RowsFollow, PixelsFollow, RowFollows}

pub mark_missed : (lens : Lens) (px py : ℕ) (f : Face) (m : Mark) → IsUnhit lens f.tri px py → mark_over lens px py f m ≡ m
unfolding mark_over
mark_missed lens px py f m unhit = ap (λ (h : Option Hit). mark_with m (option_map (mark_of f) h)) unhit

pub glazed_missed : (lens : Lens) (px py : ℕ) (f : Face) (behind : Option Fragment) (under : List ℕ) → IsUnhit lens f.tri px py → glazed_by_face lens px py f behind under ≡ under
unfolding glazed_by_face fragment_by
glazed_missed lens px py f behind under unhit = ap (λ (h : Option Hit). option_map_or (glazed behind f.alpha under) (option_map (fragment_in f) h) under) unhit

-- ---- a row whose ends are left as they are
pub pixels_skipped : {X : Type 0} (b : Block) (before : ℕ → ℕ → X) (f : ℕ → ℕ → X → X) (r n : ℕ) → ((q : ℕ) → q < n → q < b.width → f q r (before q r) ≡ before q r) → PixelsFollow b before before f r n
pixels_skipped b before f r n still = record { drawn = λ q l in_row. sym (still q l in_row); ahead = λ q l in_row. refl; others = λ q s in_row apart. refl }

pub pixels_rest : {X : Type 0} (b : Block) (before after : ℕ → ℕ → X) (f : ℕ → ℕ → X → X) (r n : ℕ) → PixelsFollow b before after f r n → ((q : ℕ) → n ≤ q → q < b.width → f q r (before q r) ≡ before q r) → RowFollows b before after f r
pixels_rest b before after f r n so_far still = record {
  drawn = λ q l in_row. ⊎_elim
      (λ below. so_far.drawn q below in_row)
      (λ beyond. so_far.ahead q beyond in_row ∙ sym (still q beyond in_row))
      (cases_lt q n);
  ahead = λ q l in_row. absurd (omega arith);
  others = so_far.others;
}

pub rows_skipped : {X : Type 0} (b : Block) (before : ℕ → ℕ → X) (f : ℕ → ℕ → X → X) (n : ℕ) → ((q r : ℕ) → q < b.width → r < b.rows → r < n → f q r (before q r) ≡ before q r) → RowsFollow b before before f n
rows_skipped b before f n still = record { drawn = λ q r in_row in_rows l. sym (still q r in_row in_rows l); ahead = λ q r in_row l. refl }

pub rows_rest : {X : Type 0} (b : Block) (before after : ℕ → ℕ → X) (f : ℕ → ℕ → X → X) (n : ℕ) → RowsFollow b before after f n → ((q r : ℕ) → q < b.width → n ≤ r → r < b.rows → f q r (before q r) ≡ before q r) → Follows b.width b.rows before after f
rows_rest b before after f n so_far still q r column row = ⊎_elim
    (λ below. so_far.drawn q r column row below)
    (λ beyond. so_far.ahead q r column beyond ∙ sym (still q r column beyond row))
    (cases_lt r n)

-- ---- pixels of a row beside a piece
pub missed_left : (lens : Lens) (p : Piece) (b : Block) (marks : List Mark) (q r : ℕ) → IsPieceOf lens p → IsBlockOf lens b → q < b.width → r < b.rows → b.left + q < p.extent.left → within b (face_over lens p.face) q r (mark_in b marks q r) ≡ mark_in b marks q r
missed_left lens p b marks q r ready block column row l =
    mark_missed lens (b.left + q) (b.first + r) p.face (mark_in b marks q r)
    (ready.extent.left_of (b.left + q) (b.first + r) (omega (arith, column, block.columns)) (omega (arith, row, block.rows)) l)

pub missed_right : (lens : Lens) (p : Piece) (b : Block) (marks : List Mark) (q r : ℕ) → IsPieceOf lens p → IsBlockOf lens b → q < b.width → r < b.rows → p.extent.right ≤ b.left + q → within b (face_over lens p.face) q r (mark_in b marks q r) ≡ mark_in b marks q r
missed_right lens p b marks q r ready block column row l =
    mark_missed lens (b.left + q) (b.first + r) p.face (mark_in b marks q r)
    (ready.extent.right_of (b.left + q) (b.first + r) (omega (arith, column, block.columns)) (omega (arith, row, block.rows)) l)
