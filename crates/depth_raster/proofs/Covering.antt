-- Blocks all of which a face covers.
use Rattle.std.proofs.Common.{◌≡◌, ℕ, ◌+◌, ◌-◌, ◌/◌, ◌<◌, ◌≤◌, Option, None, Some, true, sym, ◌∙◌, subst, arith}
use Rattle.std.specs.Prelude.{pos, IsSomeAnd}
use Rattle.std.specs.Option.{IfSome}
use Rattle.std.proofs.lemmas.Int.{ints}
use Rattle.std.proofs.lemmas.Nat.{mul-le}
use Rattle.std.proofs.Math.Nat.{div-mul-le_self}
use Rattle.fx_math.specs.declared.lenses.Lens.{Lens}
use Rattle.tri_cover.specs.Faces.{is_covered, is_in_box}
use Rattle.tri_cover.specs.Linears.{weight_at}
use Rattle.tri_cover.specs.declared.face.Face as faces
use Rattle.tri_cover.specs.declared.hit.Hit.{Hit}
use Rattle.edge_values.proofs.Divided.{limit_reached}
use Rattle.depth_raster.specs.Around.{IsWithin}
use Rattle.depth_raster.specs.Blocks.{IsBlockOf}
use Rattle.depth_raster.specs.Covers.{HasBlock, IsFrom, IsInsideOf, IsSeenTo}
use Rattle.depth_raster.specs.Owed.{IsCoveredTo}
use Rattle.depth_raster.specs.Pieces.{IsPieceOf, HasFace}
use Rattle.depth_raster.specs.declared.blocks.Block.{Block}
use Rattle.depth_raster.specs.declared.pieces.Piece.{Piece}
use Rattle.depth_raster.proofs.Looking.{covered_is, hit_seen}
use Rattle.depth_raster.proofs.Readied.{face_hits, face_boxed}

-- a dividend goes into a lesser divisor at least as often
quotient_most : (n m w : ℕ) → 0 < m → m ≤ w → n / w ≤ n / m
quotient_most n m w some l = limit_reached (n / w) n m some (omega (arith, mul-le (n / w) m (n / w) w (omega arith) l, div-mul-le_self n w))

-- the depths of a face in a block where the sums of its edge values are at least m
seen_to : (f : faces.Face) (b : Block) (m : ℕ) → 0 < m → IsFrom f.edges.sum b (pos m) → IsSeenTo f b (f.dividend / m)
seen_to f b m some from = record {
  sum = λ q r column row. omega (arith, ints, from q r column row, some);
  depths = λ q r column row. quotient_most f.dividend m (weight_at f.edges.sum (b.left + q) (b.first + r)) some (omega (arith, ints, from q r column row));
}

pub up_seen : (f : faces.Face) (b : Block) (m : ℕ) (o : Option ℕ) → f.extent.near ≡ 0 → 0 < m → IsFrom f.edges.sum b (pos m)
    → IfSome o (λ d. (d ≡ f.dividend / m) × (d ≤ f.extent.far)) → IfSome o (λ d. (f.extent.near ≡ 0) × (d ≤ f.extent.far) × IsSeenTo f b d)
up_seen f b m None near some from up = up
up_seen f b m (Some d) near some from up = (near, up.1, subst (λ (n : ℕ). IsSeenTo f b n) (sym up.0) (seen_to f b m some from))

-- a face that covers all of a block is hit at each of its pixels
pub covered_to : (lens : Lens) (p : Piece) (f : faces.Face) (b : Block) (depth top : ℕ) → IsPieceOf lens p → HasFace p f → IsBlockOf lens b → HasBlock p.extent b → IsInsideOf f b
    → f.extent.near ≡ 0 → depth ≤ f.extent.far → IsSeenTo f b depth → top ≡ depth - p.face.shift → top < 2147483648 → IsCoveredTo lens p.face b top
covered_to lens p f b depth top ready face block has inside near far seen is before = record {
  hits = λ q r column row.
      let px = b.left + q in
      let py = b.first + r in
      let within : IsWithin p.extent px py = record {
        left = omega (arith, has.left);
        right = omega (arith, has.right, column);
        top = omega (arith, has.top);
        bottom = omega (arith, has.bottom, row);
      } in
      let boxed : is_in_box f.extent px py ≡ true = face_boxed lens p f ready face px py within in
      let covered : is_covered f px py ≡ true = covered_is f px py (record {
        first = inside.first q r column row;
        second = inside.second q r column row;
        third = inside.third q r column row;
        sum = seen.sum q r column row;
      }) in
      let most = seen.depths q r column row in
      let found = hit_seen f px py boxed covered (omega (arith, near)) (omega (arith, most, far)) in
      let hits = face_hits lens p f ready face px py (omega (arith, column, block.columns)) (omega (arith, row, block.rows)) ∙ found in
      subst (λ (o : Option Hit). IsSomeAnd o (λ h. h.depth - p.face.shift ≤ top)) (sym hits) (omega (arith, is, most));
  before = before;
}
