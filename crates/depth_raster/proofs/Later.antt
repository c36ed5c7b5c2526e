-- Faces that come after all marks of a tile.
use Rattle.std.proofs.Common.{◌≡◌, ℕ, ◌+◌, ◌-◌, ◌≤◌, Bool, false, cond, List, [], length, Option, Some, None, option_map, refl, ap, sym, ◌∙◌, subst, arith}
use Rattle.std.proofs.lemmas.Bool.Decides.{nat_tests}
use Rattle.fx_math.specs.declared.lenses.Lens.{Lens}
use Rattle.tri_cover.specs.declared.face.Face as faces
use Rattle.tri_cover.specs.declared.hit.Hit.{Hit}
use Rattle.tri_cover.specs.Hits.{hit}
use Rattle.depth_raster.specs.Blocks.{IsBlockOf, size_of, place_in}
use Rattle.depth_raster.specs.Following.{Follows}
use Rattle.depth_raster.specs.Later.{mark_at, ComesLast}
use Rattle.depth_raster.specs.Looks.{IsHidden}
use Rattle.depth_raster.specs.Marks.{goes_before, mark_of, mark_with, mark_over, no_mark}
use Rattle.depth_raster.specs.Pieces.{IsPieceOf}
use Rattle.depth_raster.specs.Pieces.{IsLeast}
use Rattle.depth_raster.specs.Tiles.{marks_of, mark_in, within, face_over, IsNoNearer, IsKept, MarksFollow}
use Rattle.depth_raster.specs.declared.blocks.Block.{Block}
use Rattle.depth_raster.specs.declared.faces.Face.{Face}
use Rattle.depth_raster.specs.declared.marks.Mark.{Mark}
use Rattle.depth_raster.specs.declared.pieces.Piece.{Piece}
use Rattle.depth_raster.specs.declared.tile.Tile.{Tile}
use Rattle.depth_raster.proofs.Following.{place_within}
use Rattle.depth_raster.proofs.MarkOrder.{before_chain}
use Rattle.depth_raster.proofs.Readied.{face_hits}

-- a mark of a face does not come before one of it that lies no deeper
no_sooner : (f : Face) (top depth : ℕ) → top ≤ depth → goes_before (mark_at f depth) (mark_at f top) ≡ false
no_sooner f top depth l = grind (arith, nat_tests)

-- where a face's mark at a depth does not come before a mark, and no hit has one before the depth, the mark stays
with_later : (f : Face) (top : ℕ) (m : Mark) (o : Option Hit) → goes_before (mark_at f top) m ≡ false → ((h : Hit) → o ≡ Some h → top ≤ h.depth - f.shift) → mark_with m (option_map (mark_of f) o) ≡ m
with_later f top m None later from = refl
with_later f top m (Some h) later from =
    ap (λ (t : Bool). cond t (mark_of f h) m)
    (before_chain m (mark_at f top) (mark_of f h) later (no_sooner f top (h.depth - f.shift) (from h refl)))

later_marked : (lens : Lens) (px py : ℕ) (f : Face) (top : ℕ) (m : Mark) → goes_before (mark_at f top) m ≡ false → ((h : Hit) → hit lens px py [] f.tri ≡ Some h → top ≤ h.depth - f.shift) → mark_over lens px py f m ≡ m
unfolding mark_over
later_marked lens px py f top m later from = with_later f top m (hit lens px py [] f.tri) later from

-- a tile that a face changes nowhere
pub last_marked : (lens : Lens) (f : Face) (t after : Tile) → IsKept t after → length (marks_of t) ≡ size_of t.block → ComesLast (mark_at f t.top) (marks_of t) → IsNoNearer lens f t.block t.top → MarksFollow (face_over lens f) t after
last_marked lens f t after kept whole last from = record {
  block = kept.block;
  colours = kept.colours;
  marks = λ q r column row.
      ap (λ (ms : List Mark). mark_in t.block ms q r) kept.marks
      ∙ sym (later_marked lens (t.block.left + q) (t.block.first + r) f t.top (mark_in t.block (marks_of t) q r)
      (last (place_in t.block q r) no_mark (omega (arith, whole, place_within t.block q r column row)))
      (λ h hits. from q r h column row hits));
}

-- what is drawn over a tile is drawn over one of the same marks
pub kept_marked : (g : ℕ → ℕ → Mark → Mark) (t kept after : Tile) → IsKept t kept → MarksFollow g kept after → MarksFollow g t after
kept_marked g t kept after same drawn = record {
  block = drawn.block ∙ same.block;
  colours = drawn.colours ∙ same.colours;
  marks = subst (λ (ms : List Mark). Follows t.block.width t.block.rows (mark_in t.block ms) (mark_in t.block (marks_of after)) (within t.block g)) same.marks
      (subst (λ (b : Block). Follows b.width b.rows (mark_in b (marks_of kept)) (mark_in b (marks_of after)) (within b g)) same.block drawn.marks);
}

-- ---- what tells that no hit has a mark before a depth
pub least_from : (lens : Lens) (f : Face) (b : Block) (least top : ℕ) → IsLeast f least → IsBlockOf lens b → top ≤ least → IsNoNearer lens f b top
least_from lens f b least top is within l q r h column row hits =
    let deep = is lens (b.left + q) (b.first + r) h (omega (arith, column, within.columns)) (omega (arith, row, within.rows)) hits in
    omega (arith, deep, l)

pub face_from : (lens : Lens) (p : Piece) (f : faces.Face) (b : Block) (depth limit : ℕ) → IsPieceOf lens p → p.ready ≡ Some f → IsBlockOf lens b → limit ≡ depth + p.face.shift → IsHidden f b limit → IsNoNearer lens p.face b depth
face_from lens p f b depth limit ready is within limit_is hidden q r h column row hits =
    let same = face_hits lens p f ready is (b.left + q) (b.first + r) (omega (arith, column, within.columns)) (omega (arith, row, within.rows)) in
    omega (arith, limit_is, hidden q r h column row (sym same ∙ hits))
