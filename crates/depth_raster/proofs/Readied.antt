-- Pieces that have faces, and what these tell.
use Rattle.std.proofs.Common.{◌≡◌, ℕ, ◌+◌, ◌*◌, ◌<◌, ◌≤◌, true, false, [], length, Option, Some, None, refl, sym, ◌∙◌, subst, arith}
use Rattle.std.specs.Prelude.{All}
use Rattle.std.proofs.lemmas.Bool.{both_ways}
use Rattle.std.proofs.lemmas.Bool.Decides.{nat_tests}
use Rattle.fx_math.specs.declared.lenses.Lens.{Lens}
use Rattle.pf_model.specs.declared.geometry.Tri.{Tri}
use Rattle.tri_cover.specs.declared.extent.Extent as boxes
use Rattle.tri_cover.specs.declared.face.Face as faces
use Rattle.tri_cover.specs.declared.hit.Hit.{Hit}
use Rattle.tri_cover.specs.Faces.{is_in_box, face_hit}
use Rattle.tri_cover.specs.Hits.{hit}
use Rattle.tri_cover.specs.Readiness.{IsReady}
use Rattle.depth_raster.specs.Around.{IsAround, IsFaceBox, IsBoxOf, IsWithin}
use Rattle.depth_raster.specs.Blocks.{IsBlockOf, size_of, colour_in}
use Rattle.depth_raster.specs.Faces.{fragment_by, glazed_by_face}
use Rattle.depth_raster.specs.Looks.{IsHidden}
use Rattle.depth_raster.specs.Marks.{no_mark, behind_as}
use Rattle.depth_raster.specs.Pieces.{IsPieceOf}
use Rattle.depth_raster.specs.Tiles.{marks_of, mark_in, face_over, face_glazes, MarksFollow, ColoursFollow, IsBehind}
use Rattle.depth_raster.specs.declared.blocks.Block.{Block}
use Rattle.depth_raster.specs.declared.extents.Extent as extents
use Rattle.depth_raster.specs.declared.faces.Face as labels
use Rattle.depth_raster.specs.declared.marks.Mark.{Mark}
use Rattle.depth_raster.specs.declared.pieces.Piece.{Piece}
use Rattle.depth_raster.specs.declared.tile.Tile.{Tile}
use Rattle.depth_raster.proofs.Deep.{deep_marked, glazed_deep}
use Rattle.depth_raster.proofs.Depths.{hit_small}
use Rattle.depth_raster.proofs.Skipped.{mark_missed, glazed_missed}
use Rattle.depth_raster.proofs.Following.{place_within}
use Rattle.depth_raster.proofs.Looking.{hit_parts}

pub face_hits : (lens : Lens) (p : Piece) (f : faces.Face) → IsPieceOf lens p → p.ready ≡ Some f → (px py : ℕ) → px < lens.w → py < lens.h → hit lens px py [] p.face.tri ≡ face_hit f px py
face_hits lens p f ready is = (subst (λ (r : Option faces.Face). IsReady lens p.face.tri r) is ready.ready).hits

in_box : (x : boxes.Extent) (px py : ℕ) → x.columns.first ≤ px → px ≤ x.columns.last → x.rows.first ≤ py → py ≤ x.rows.last → is_in_box x px py ≡ true
in_box x px py a b c d = grind (arith, nat_tests)

pub face_boxed : (lens : Lens) (p : Piece) (f : faces.Face) → IsPieceOf lens p → p.ready ≡ Some f → (px py : ℕ) → IsWithin p.extent px py → is_in_box f.extent px py ≡ true
face_boxed lens p f ready is px py inside =
    let box = subst (λ (r : Option faces.Face). IsBoxOf r p.extent) is ready.box in
    in_box f.extent px py (omega (arith, box.left, inside.left)) (omega (arith, box.right, inside.right)) (omega (arith, box.top, inside.top)) (omega (arith, box.bottom, inside.bottom))

pub face_behind : (lens : Lens) (p : Piece) (f : faces.Face) (b : Block) (depth limit : ℕ) → IsPieceOf lens p → p.ready ≡ Some f → IsBlockOf lens b → limit ≡ depth + 1 + p.face.shift → IsHidden f b limit → IsBehind lens p.face b depth
face_behind lens p f b depth limit ready is within limit_is hidden q r h column row hits =
    let same = face_hits lens p f ready is (b.left + q) (b.first + r) (omega (arith, column, within.columns)) (omega (arith, row, within.rows)) in
    omega (arith, limit_is, hidden q r h column row (sym same ∙ hits))

-- a tile that a face changes nowhere
pub behind_marked : (lens : Lens) (f : labels.Face) (t : Tile) → All (λ (m : Mark). m.depth ≤ t.top) (marks_of t) → length (marks_of t) ≡ size_of t.block → IsBehind lens f t.block t.top → MarksFollow (face_over lens f) t t
behind_marked lens f t topped whole behind = record {
  block = refl;
  colours = refl;
  marks = λ q r column row.
      let px = t.block.left + q in
      let py = t.block.first + r in
      let m = mark_in t.block (marks_of t) q r in
      let most : m.depth ≤ t.top = topped (r * t.block.width + q) no_mark (omega (arith, whole, place_within t.block q r column row)) in
      sym (deep_marked lens px py f m (λ h hits. omega (arith, most, behind q r h column row hits)));
}

-- ---- a piece that is hit nowhere
pub nothing_hit : (lens : Lens) (p : Piece) → IsPieceOf lens p → p.ready ≡ None → (px py : ℕ) → px < lens.w → py < lens.h → hit lens px py [] p.face.tri ≡ None
nothing_hit lens p ready is = subst (λ (r : Option faces.Face). IsReady lens p.face.tri r) is ready.ready

pub none_marked : (lens : Lens) (p : Piece) (t : Tile) → IsPieceOf lens p → IsBlockOf lens t.block → p.ready ≡ None → MarksFollow (face_over lens p.face) t t
none_marked lens p t ready within is = record {
  block = refl;
  colours = refl;
  marks = λ q r column row.
      sym (mark_missed lens (t.block.left + q) (t.block.first + r) p.face (mark_in t.block (marks_of t) q r)
      (nothing_hit lens p ready is (t.block.left + q) (t.block.first + r) (omega (arith, column, within.columns)) (omega (arith, row, within.rows))));
}

pub none_glazed : (lens : Lens) (p : Piece) (t : Tile) → IsPieceOf lens p → IsBlockOf lens t.block → p.ready ≡ None → ColoursFollow (face_glazes lens p.face) t t
none_glazed lens p t ready within is = record {
  block = refl;
  marks = refl;
  colours = λ q r column row.
      sym (glazed_missed lens (t.block.left + q) (t.block.first + r) p.face (behind_as (mark_in t.block (marks_of t) q r)) (colour_in t.block t.colours.items q r)
      (nothing_hit lens p ready is (t.block.left + q) (t.block.first + r) (omega (arith, column, within.columns)) (omega (arith, row, within.rows))));
}

-- a tile whose colours glass changes nowhere
pub behind_glazed : (lens : Lens) (f : labels.Face) (t : Tile) → All (λ (m : Mark). m.depth ≤ t.top) (marks_of t) → length (marks_of t) ≡ size_of t.block → IsBehind lens f t.block t.top → ColoursFollow (face_glazes lens f) t t
unfolding glazed_by_face fragment_by
behind_glazed lens f t topped whole behind = record {
  block = refl;
  marks = refl;
  colours = λ q r column row.
      let px = t.block.left + q in
      let py = t.block.first + r in
      let m = mark_in t.block (marks_of t) q r in
      let most : m.depth ≤ t.top = topped (r * t.block.width + q) no_mark (omega (arith, whole, place_within t.block q r column row)) in
      sym (glazed_deep f m (hit lens px py [] f.tri) (colour_in t.block t.colours.items q r)
      (λ h hits. omega (arith, most, behind q r h column row hits)) (λ h hits. hit_small lens px py [] f.tri h hits));
}

-- ---- around a face
outside : (f : faces.Face) (px py : ℕ) → is_in_box f.extent px py ≡ false → face_hit f px py ≡ None
outside f px py h = by (face_hit f px py) refl
  where
    by : (o : Option Hit) → face_hit f px py ≡ o → o ≡ None
    by None e = refl
    by (Some i) e = let inside = (hit_parts f px py i e).inside in absurd (both_ways (is_in_box f.extent px py) h inside)

left_out : (x : boxes.Extent) (px py : ℕ) → px < x.columns.first → is_in_box x px py ≡ false
left_out x px py l = grind (arith, nat_tests)

right_out : (x : boxes.Extent) (px py : ℕ) → x.columns.last < px → is_in_box x px py ≡ false
right_out x px py l = grind (arith, nat_tests)

above_out : (x : boxes.Extent) (px py : ℕ) → py < x.rows.first → is_in_box x px py ≡ false
above_out x px py l = grind (arith, nat_tests)

below_out : (x : boxes.Extent) (px py : ℕ) → x.rows.last < py → is_in_box x px py ≡ false
below_out x px py l = grind (arith, nat_tests)

pub face_around : (lens : Lens) (t : Tri) (f : faces.Face) (e : extents.Extent) → IsReady lens t (Some f) → IsFaceBox f e → IsAround lens t e
face_around lens t f e ready box = record {
  columns = omega (arith, box.right, ready.in_row);
  rows = omega (arith, box.bottom, ready.in_picture);
  left_of = λ px py column row l. ready.hits px py column row ∙ outside f px py (left_out f.extent px py (omega (arith, box.left, l)));
  right_of = λ px py column row l. ready.hits px py column row ∙ outside f px py (right_out f.extent px py (omega (arith, box.right, l)));
  above = λ px py column row l. ready.hits px py column row ∙ outside f px py (above_out f.extent px py (omega (arith, box.top, l)));
  below = λ px py column row l. ready.hits px py column row ∙ outside f px py (below_out f.extent px py (omega (arith, box.bottom, l)));
}

pub nothing_around : (lens : Lens) (t : Tri) → IsReady lens t None → IsAround lens t (record { left = 0; right = 0; top = 0; bottom = 0 })
nothing_around lens t ready = record {
  columns = omega arith;
  rows = omega arith;
  left_of = λ px py column row l. ready px py column row;
  right_of = λ px py column row l. ready px py column row;
  above = λ px py column row l. ready px py column row;
  below = λ px py column row l. ready px py column row;
}
