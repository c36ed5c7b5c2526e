-- The depths of pixels inside a triangle lie between those of its vertices.
use Rattle.std.proofs.Common.{◌≡◌, ℕ, ◌*◌, ◌≤◌, true, false, ◌&&◌, nat_le, ap, ◌∙◌, arith}
use Rattle.std.specs.Prelude.{ℤ, pos, ◌+ℤ◌, ◌*ℤ◌, ◌≤ℤ◌, ◌<ℤ◌, unsigned_abs, int_le}
use Rattle.std.proofs.lemmas.Int.{ints}
use Rattle.std.proofs.lemmas.Bool.Decides.{nat_tests}
use lib.IntN.{*ℤ_comm, *ℤ-zero}
use Rattle.fx_math.specs.Plain.{Point}
use Rattle.fx_math.specs.declared.lenses.Lens.{Lens}
use Rattle.fx_math.specs.Hit.{Edges, sum_of, ray, is_in_depth, depth_of}
use Rattle.fx_math.proofs.Ring.{expand, linear, order}
use Rattle.fx_math.proofs.Floor.{floor_at_least, floor_at_most}
use Rattle.fx_math.proofs.Cramer.{front_sum, ray_forward}
use Rattle.tri_cover.specs.Extents.{IsInside}
use Rattle.tri_cover.proofs.Weighing.{AreWeights, mix, mix_le}

pub weights_of : (lens : Lens) (px py : ℕ) (u v w : Point) (volume : ℤ) (e : Edges) → IsInside lens px py u v w volume e → AreWeights e.e0 e.e1 e.e2
weights_of lens px py u v w volume e i = record { first = i.e0_above; second = i.e1_above; third = i.e2_above }

-- the sum of the edge values is above 0
pub sum_above : (lens : Lens) (px py : ℕ) (u v w : Point) (volume : ℤ) (e : Edges) → IsInside lens px py u v w volume e → pos 0 <ℤ sum_of e
sum_above lens px py u v w volume e i =
    front_sum volume e.e0 e.e1 e.e2 u.y v.y w.y (ray lens px py).y i.volume_above i.e0_above i.e1_above i.e2_above (ray_forward lens px py)
    (ap (λ (p : Point). p.y) i.mean)

-- the weighed depths make up the dividend
depths_mix : (lens : Lens) (px py : ℕ) (u v w : Point) (volume : ℤ) (e : Edges) → IsInside lens px py u v w volume e → mix e.e0 e.e1 e.e2 u.y v.y w.y ≡ pos (2 * lens.f) *ℤ volume
unfolding ray
depths_mix lens px py u v w volume e i = ap (λ (p : Point). p.y) i.mean ∙ *ℤ_comm volume (pos (2 * lens.f))

mix_same : (a b c l : ℤ) → mix a b c l l l ≡ (a +ℤ b +ℤ c) *ℤ l
mix_same a b c l = simp expand (omega (arith, linear))

pub depth_at_least : (lens : Lens) (px py : ℕ) (u v w : Point) (volume : ℤ) (e : Edges) (l : ℤ) → IsInside lens px py u v w volume e → l ≤ℤ u.y → l ≤ℤ v.y → l ≤ℤ w.y → l ≤ℤ depth_of lens volume e
unfolding depth_of
depth_at_least lens px py u v w volume e l i a b c =
    floor_at_least (pos (2 * lens.f) *ℤ volume) (sum_of e) l (sum_above lens px py u v w volume e i)
    (omega (
      arith,
      order,
      mix_same e.e0 e.e1 e.e2 l,
      mix_le e.e0 e.e1 e.e2 l l l u.y v.y w.y (weights_of lens px py u v w volume e i) a b c,
      depths_mix lens px py u v w volume e i,
    ))

pub depth_at_most : (lens : Lens) (px py : ℕ) (u v w : Point) (volume : ℤ) (e : Edges) (h : ℤ) → IsInside lens px py u v w volume e → u.y ≤ℤ h → v.y ≤ℤ h → w.y ≤ℤ h → depth_of lens volume e ≤ℤ h
unfolding depth_of
depth_at_most lens px py u v w volume e h i a b c =
    floor_at_most (pos (2 * lens.f) *ℤ volume) (sum_of e) h (sum_above lens px py u v w volume e i)
    (omega (
      arith,
      order,
      mix_same e.e0 e.e1 e.e2 h,
      mix_le e.e0 e.e1 e.e2 u.y v.y w.y h h h (weights_of lens px py u v w volume e i) a b c,
      depths_mix lens px py u v w volume e i,
    ))

-- and no depth is below 0
scaled_above : (f : ℕ) (volume : ℤ) → pos 0 <ℤ volume → pos 0 ≤ℤ (pos (2 * f) *ℤ volume)
scaled_above f volume some = let n = unsigned_abs volume in let same : volume ≡ pos n = omega (arith, ints) in rw same (omega (arith, ints))

pub depth_not_below : (lens : Lens) (px py : ℕ) (u v w : Point) (volume : ℤ) (e : Edges) → IsInside lens px py u v w volume e → pos 0 ≤ℤ depth_of lens volume e
unfolding depth_of
depth_not_below lens px py u v w volume e i =
    floor_at_least (pos (2 * lens.f) *ℤ volume) (sum_of e) (pos 0) (sum_above lens px py u v w volume e i)
    (omega (arith, order, *ℤ-zero (sum_of e), scaled_above lens.f volume i.volume_above))

-- ---- the lens's depths
pub too_near : (lens : Lens) (depth : ℤ) → depth <ℤ lens.near → is_in_depth lens depth ≡ false
unfolding is_in_depth
too_near lens depth h = grind (arith, ints)

pub too_far : (lens : Lens) (depth : ℤ) → lens.far <ℤ depth → is_in_depth lens depth ≡ false
unfolding is_in_depth
too_far lens depth h = grind (arith, ints)

pub in_depth : (lens : Lens) (depth : ℤ) → lens.near ≤ℤ depth → depth ≤ℤ lens.far → is_in_depth lens depth ≡ true
unfolding is_in_depth
in_depth lens depth h g = grind (arith, ints)

same_test : (a : ℕ) (z : ℤ) → pos 0 ≤ℤ z → nat_le a (unsigned_abs z) ≡ int_le (pos a) z
same_test a z h = grind (arith, ints, nat_tests)

same_test_most : (a : ℕ) (z : ℤ) → pos 0 ≤ℤ z → nat_le (unsigned_abs z) a ≡ int_le z (pos a)
same_test_most a z h = grind (arith, ints, nat_tests)

pub same_depths : (lens : Lens) (near far : ℕ) (depth : ℤ) → pos near ≡ lens.near → pos far ≡ lens.far → pos 0 ≤ℤ depth → is_in_depth lens depth ≡ (nat_le near (unsigned_abs depth) && nat_le (unsigned_abs depth) far)
unfolding is_in_depth
same_depths lens near far depth a b h =
    rw (same_test near depth h, same_test_most far depth h, a, b)

pub most_far : (lens : Lens) (depth : ℤ) → pos 0 ≤ℤ depth → depth ≤ℤ lens.far → (nat_le 0 (unsigned_abs depth) && nat_le (unsigned_abs depth) 4294967295) ≡ true
most_far lens depth h g =
    let most : unsigned_abs depth ≤ 4294967295 = omega (arith, ints, lens.in_range.most_far, g) in
    grind (arith, nat_tests)
