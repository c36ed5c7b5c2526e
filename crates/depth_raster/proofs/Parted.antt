-- What holds of the part of a block that a piece can reach holds of all of the block.
use Rattle.std.proofs.Common.{◌≡◌, ℕ, ◌+◌, ◌-◌, ◌<◌, ◌≤◌, true, Option, Some, min, subst, arith}
use Rattle.std.proofs.lemmas.Bool.Decides.{nat_tests}
use Rattle.fx_math.specs.declared.lenses.Lens.{Lens}
use Rattle.tri_cover.specs.declared.extent.Extent as boxes
use Rattle.tri_cover.specs.declared.face.Face as faces
use Rattle.tri_cover.specs.Faces.{is_in_box, face_hit}
use Rattle.depth_raster.specs.Around.{IsBoxOf, IsFaceBox}
use Rattle.depth_raster.specs.Looks.{IsHidden}
use Rattle.depth_raster.specs.Parts.{IsPartIn}
use Rattle.depth_raster.specs.Pieces.{IsPieceOf}
use Rattle.depth_raster.specs.declared.blocks.Block.{Block}
use Rattle.depth_raster.specs.declared.extents.Extent as extents
use Rattle.depth_raster.specs.declared.pieces.Piece.{Piece}
use Rattle.depth_raster.proofs.Looking.{hit_parts}

-- ---- one side of a block: its places from one to before another
part_within : (first count from to start size : ℕ) → start ≡ first + min count (from - first) → size ≡ min count (to - first) - min count (from - first) → start + size ≤ first + count
part_within first count from to start size a b = omega (arith, a, b)

part_from : (first count from start q : ℕ) → start ≡ first + min count (from - first) → from ≤ first + q → start ≤ first + q
part_from first count from start q a low = omega (arith, a, low)

part_to : (first count from to start size q : ℕ) → start ≡ first + min count (from - first) → size ≡ min count (to - first) - min count (from - first) → q < count → from ≤ first + q → first + q < to → first + q < start + size
part_to first count from to start size q a b l low high = omega (arith, a, b, l, low, high)

pub part_columns : (e : extents.Extent) (b part : Block) (most : ℕ) → IsPartIn e b part → b.left + b.width ≤ most → part.left + part.width ≤ most
part_columns e b part most is fits = omega (arith, part_within b.left b.width e.left e.right part.left part.width is.left is.width, fits)

pub part_rows : (e : extents.Extent) (b part : Block) (most : ℕ) → IsPartIn e b part → b.first + b.rows ≤ most → part.first + part.rows ≤ most
part_rows e b part most is fits = omega (arith, part_within b.first b.rows e.top e.bottom part.first part.rows is.first is.rows, fits)

-- ---- the pixels of a box
in_left : (x : boxes.Extent) (px py : ℕ) → is_in_box x px py ≡ true → x.columns.first ≤ px
in_left x px py h = grind (arith, nat_tests)

in_right : (x : boxes.Extent) (px py : ℕ) → is_in_box x px py ≡ true → px ≤ x.columns.last
in_right x px py h = grind (arith, nat_tests)

in_top : (x : boxes.Extent) (px py : ℕ) → is_in_box x px py ≡ true → x.rows.first ≤ py
in_top x px py h = grind (arith, nat_tests)

in_bottom : (x : boxes.Extent) (px py : ℕ) → is_in_box x px py ≡ true → py ≤ x.rows.last
in_bottom x px py h = grind (arith, nat_tests)

-- a face that is hidden in the part is hidden in the block
hidden_by : (f : faces.Face) (e : extents.Extent) (b part : Block) (limit : ℕ) → IsFaceBox f e → IsPartIn e b part → IsHidden f part limit → IsHidden f b limit
hidden_by f e b part limit box is hidden q r h column row hits =
    let px = b.left + q in
    let py = b.first + r in
    let inside : is_in_box f.extent px py ≡ true = (hit_parts f px py h hits).inside in
    let low : e.left ≤ px = omega (arith, box.left, in_left f.extent px py inside) in
    let high : px < e.right = omega (arith, box.right, in_right f.extent px py inside) in
    let top : e.top ≤ py = omega (arith, box.top, in_top f.extent px py inside) in
    let bottom : py < e.bottom = omega (arith, box.bottom, in_bottom f.extent px py inside) in
    let from : part.left ≤ px = part_from b.left b.width e.left part.left q is.left low in
    let to : px < part.left + part.width = part_to b.left b.width e.left e.right part.left part.width q is.left is.width column low high in
    let below : part.first ≤ py = part_from b.first b.rows e.top part.first r is.first top in
    let above : py < part.first + part.rows = part_to b.first b.rows e.top e.bottom part.first part.rows r is.first is.rows row top bottom in
    let x : px ≡ part.left + (px - part.left) = omega (arith, from) in
    let y : py ≡ part.first + (py - part.first) = omega (arith, below) in
    hidden (px - part.left) (py - part.first) h (omega (arith, from, to)) (omega (arith, below, above))
    (subst (λ (n : ℕ). face_hit f n (part.first + (py - part.first)) ≡ Some h) x (subst (λ (n : ℕ). face_hit f px n ≡ Some h) y hits))

pub hidden_in : (lens : Lens) (p : Piece) (f : faces.Face) (b part : Block) (limit : ℕ) → IsPieceOf lens p → p.ready ≡ Some f → IsPartIn p.extent b part → IsHidden f part limit → IsHidden f b limit
hidden_in lens p f b part limit ready is parted hidden =
    let box : IsFaceBox f p.extent = subst (λ (r : Option faces.Face). IsBoxOf r p.extent) is ready.box in
    hidden_by f p.extent b part limit box parted hidden
