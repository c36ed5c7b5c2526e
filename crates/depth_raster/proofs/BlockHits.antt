-- The greatest values of linear functions in a block, and what they tell of a face.
use Rattle.std.proofs.Common.{ℕ, ◌+◌, ◌*◌, ◌<◌, ◌≤◌, arith}
use Rattle.std.specs.Prelude.{ℤ, pos, neg_ℤ, ◌+ℤ◌, ◌*ℤ◌, ◌≤ℤ◌}
use Rattle.std.proofs.lemmas.Int.{ints}
use Rattle.std.proofs.lemmas.Nat.{mul-le}
use Rattle.fx_math.proofs.Ring.{order, neg-mul, times_le}
use Rattle.tri_cover.specs.Linears.{value_at, weight_at}
use Rattle.tri_cover.specs.declared.face.Face.{Face}
use Rattle.tri_cover.specs.declared.linear.Linear.{Linear}
use Rattle.depth_raster.specs.Looks.{IsHidden, IsBelow}
use Rattle.depth_raster.specs.declared.blocks.Block.{Block}
use Rattle.edge_values.proofs.Divided.{limit_reached}
use Rattle.depth_raster.proofs.Looking.{hit_parts, covered_parts}

-- a slope above 0 has its greatest product at the greatest place, another at the least
pub slope_above : (a : ℤ) (x m : ℕ) → pos 0 ≤ℤ a → x ≤ m → (a *ℤ pos x) ≤ℤ (a *ℤ pos m)
slope_above a x m h l = times_le a (pos x) (pos m) h (omega (arith, ints, l))

pub slope_below : (a : ℤ) (x m : ℕ) → a ≤ℤ pos 0 → m ≤ x → (a *ℤ pos x) ≤ℤ (a *ℤ pos m)
slope_below a x m h l = omega (arith, order, times_le (neg_ℤ a) (pos m) (pos x) (omega (arith, ints, h)) (omega (arith, ints, l)), neg-mul a (pos m), neg-mul a (pos x))

sum_greatest : (a b p q c : ℤ) → a ≤ℤ p → b ≤ℤ q → (a +ℤ b +ℤ c) ≤ℤ (p +ℤ q +ℤ c)
sum_greatest a b p q c h k = omega (arith, order, h, k)

pub value_greatest : (g : Linear) (x y m n : ℕ) → ((pos 2 *ℤ g.a) *ℤ pos x) ≤ℤ ((pos 2 *ℤ g.a) *ℤ pos m) → ((pos 2 *ℤ g.b) *ℤ pos y) ≤ℤ ((pos 2 *ℤ g.b) *ℤ pos n) → value_at g x y ≤ℤ value_at g m n
value_greatest g x y m n h k = sum_greatest _ _ _ _ g.c h k

-- ---- a face whose values at the corners tell that it is not hit before a limit
pub first_hidden : (f : Face) (b : Block) (limit : ℕ) → IsBelow f.edges.e0 b → IsHidden f b limit
first_hidden f b limit below q r h column row hits =
    let c = covered_parts f (b.left + q) (b.first + r) (hit_parts f (b.left + q) (b.first + r) h hits).covered in
    absurd (omega (arith, ints, c.first, below q r column row))

pub second_hidden : (f : Face) (b : Block) (limit : ℕ) → IsBelow f.edges.e1 b → IsHidden f b limit
second_hidden f b limit below q r h column row hits =
    let c = covered_parts f (b.left + q) (b.first + r) (hit_parts f (b.left + q) (b.first + r) h hits).covered in
    absurd (omega (arith, ints, c.second, below q r column row))

pub third_hidden : (f : Face) (b : Block) (limit : ℕ) → IsBelow f.edges.e2 b → IsHidden f b limit
third_hidden f b limit below q r h column row hits =
    let c = covered_parts f (b.left + q) (b.first + r) (hit_parts f (b.left + q) (b.first + r) h hits).covered in
    absurd (omega (arith, ints, c.third, below q r column row))

abbrev pub IsGreatest : Linear → Block → ℤ → Type 0
IsGreatest g b z = (q r : ℕ) → q < b.width → r < b.rows → value_at g (b.left + q) (b.first + r) ≤ℤ z

product_most : (limit w s n : ℕ) → w ≤ s → limit * s ≤ n → limit * w ≤ n
product_most limit w s n l h = omega (arith, mul-le limit w limit s (omega arith) l, h)

-- m is the greatest sum, or 0 where that is below 0
pub depth_hidden : (f : Face) (b : Block) (limit m : ℕ) (z : ℤ) → IsGreatest f.edges.sum b z → z ≤ℤ pos m → limit * m ≤ f.dividend → IsHidden f b limit
depth_hidden f b limit m z is most h q r i column row hits =
    let px = b.left + q in
    let py = b.first + r in
    let parts = hit_parts f px py i hits in
    let c = covered_parts f px py parts.covered in
    let w : weight_at f.edges.sum px py ≤ m = omega (arith, ints, c.sum, is q r column row, most) in
    let some : 0 < weight_at f.edges.sum px py = omega (arith, ints, c.sum) in
    omega (arith, parts.depth, limit_reached limit f.dividend (weight_at f.edges.sum px py) some (product_most limit (weight_at f.edges.sum px py) m f.dividend w h))
