-- Weighed sums and means along a row: how large they are, what a step makes of them, and the colours that they give.
use Rattle.std.proofs.Common.{◌≡◌, ℕ, ◌+◌, ◌*◌, ◌/◌, ◌<◌, ◌≤◌, ◌^◌, [], ◌∷◌, Option, Some, None, true, refl, ap, sym, ◌∙◌, subst, arith, lit≤, ⊎_elim}
use Rattle.std.specs.Prelude.{ℤ, pos, ◌+ℤ◌, ◌-ℤ◌, ◌*ℤ◌, ◌≤ℤ◌, unsigned_abs}
use Rattle.std.specs.Option.{IfSome}
use Rattle.std.proofs.lemmas.Bool.{cases_lt}
use Rattle.std.proofs.lemmas.Int.{ints}
use Rattle.std.proofs.Math.IntN.{*ℤ-zero}
use lib.IntN.{*ℤ_comm}
use Rattle.fx_math.specs.Limits.{size_limit}
use Rattle.fx_math.specs.Within.{IsWithin}
use Rattle.fx_math.proofs.Ring.{expand, linear, order, mul-add, times_one, times_le}
use Rattle.fx_math.proofs.Size.{within_add, within_sub, within_mul, within_more}
use Rattle.tri_cover.specs.Faces.{face_hit, is_covered}
use Rattle.tri_cover.specs.Hits.{channel}
use Rattle.tri_cover.specs.Linears.{value_at, weight_at, step_of}
use Rattle.tri_cover.specs.declared.face.Face.{Face}
use Rattle.tri_cover.specs.declared.hit.Hit.{Hit}
use Rattle.tri_cover.specs.declared.linear.Linear.{Linear}
use Rattle.tri_cover.proofs.EdgeLines.{total_value}
use Rattle.depth_raster.specs.Means.{IsWeightAt, AreSmallMeans, DoFit, AreMeansAt, colour_by, AreEven}
use Rattle.span_shading.specs.Means.{IsMeanOf, IsSmallMean, IsNextOf, Stays}
use Rattle.depth_raster.specs.Mixing.{mix_of, number_at, change_of}
use Rattle.span_shading.specs.Mixing.{mix, AreBytes}
use Rattle.span_shading.specs.Quotients.{IsMean, IsLeft, IsChannel}
use Rattle.span_shading.specs.declared.wide_means.Mean.{Mean}
use Rattle.depth_raster.specs.declared.means.Means.{Means}
use Rattle.span_shading.specs.declared.wide.WideWeight.{WideWeight}
use Rattle.span_shading.proofs.Between.{product_between, mean_between}
use Rattle.span_shading.proofs.Means.{left_mean}
use Rattle.span_shading.proofs.Sizes.{byte_within}
use Rattle.edge_values.proofs.Divided.{quotient_is}
use Rattle.depth_raster.proofs.Looking.{IsHitOf, IsCoveredAt, hit_parts, covered_parts}
use Rattle.depth_raster.proofs.Stepped.{value_within, step_within, value_ahead}

-- ---- how large they are
mix_within : (x y z : ℕ) (a b c : ℤ) → AreBytes x y z → IsWithin (2 ^ 82) a → IsWithin (2 ^ 82) b → IsWithin (2 ^ 82) c → IsWithin (2 ^ 92) (mix x y z a b c)
mix_within x y z a b c bytes p q r =
    within_more (2 ^ 92) (within_add (within_add (within_mul (byte_within x bytes.first) p) (within_mul (byte_within y bytes.second) q)) (within_mul (byte_within z bytes.third) r)) (lit≤ tt)

number_within : (f : Face) (px py i : ℕ) → AreBytes (channel f.colours 0 i) (channel f.colours 1 i) (channel f.colours 2 i) → px ≤ size_limit → py ≤ size_limit → IsWithin (2 ^ 92) (number_at f px py i)
number_within f px py i bytes column row =
    mix_within (channel f.colours 0 i) (channel f.colours 1 i) (channel f.colours 2 i) (value_at f.edges.e0 px py) (value_at f.edges.e1 px py) (value_at f.edges.e2 px py) bytes
    (value_within f.edges.e0 px py column row) (value_within f.edges.e1 px py column row) (value_within f.edges.e2 px py column row)

step_small : (g : Linear) → IsWithin (2 ^ 82) (step_of g)
step_small g = within_more (2 ^ 82) (step_within g) (lit≤ tt)

change_within : (f : Face) (i : ℕ) → AreBytes (channel f.colours 0 i) (channel f.colours 1 i) (channel f.colours 2 i) → IsWithin (2 ^ 92) (change_of f i)
change_within f i bytes =
    mix_within (channel f.colours 0 i) (channel f.colours 1 i) (channel f.colours 2 i) (step_of f.edges.e0) (step_of f.edges.e1) (step_of f.edges.e2) bytes
    (step_small f.edges.e0) (step_small f.edges.e1) (step_small f.edges.e2)

left_within : (n w : ℤ) (m : Mean) → IsWithin (2 ^ 92) n → IsWithin (2 ^ 82) w → IsWithin (2 ^ 97) (n -ℤ pos m.mean *ℤ w)
left_within n w m p q = within_more (2 ^ 97) (within_sub p (within_mul (byte_within m.mean m.byte) q)) (lit≤ tt)

mean_small : (number step : ℤ) (w : WideWeight) (m : Mean) → IsWithin (2 ^ 92) number → IsWithin (2 ^ 92) step → IsMeanOf number step w m → IsSmallMean m
mean_small number step w m p q is = record {
  rest_within = subst (λ (z : ℤ). IsWithin (2 ^ 97) z) (sym is.rest_is) (left_within number w.here m p w.here_small);
  change_within = subst (λ (z : ℤ). IsWithin (2 ^ 97) z) (sym is.change_is) (left_within step w.step m q w.step_small);
}

pub means_small : (f : Face) (px py : ℕ) (m : Means) → px ≤ size_limit → py ≤ size_limit → AreMeansAt f px py m → AreSmallMeans m
means_small f px py m column row at = record {
  red = mean_small (number_at f px py 0) (change_of f 0) m.weight m.red (number_within f px py 0 at.bytes.red column row) (change_within f 0 at.bytes.red) at.red;
  green = mean_small (number_at f px py 1) (change_of f 1) m.weight m.green (number_within f px py 1 at.bytes.green column row) (change_within f 1 at.bytes.green) at.green;
  blue = mean_small (number_at f px py 2) (change_of f 2) m.weight m.blue (number_within f px py 2 at.bytes.blue column row) (change_within f 2 at.bytes.blue) at.blue;
}

-- ---- further on in the row
mixes : (p q r a b c i j k n : ℤ) → p *ℤ (a +ℤ i *ℤ n) +ℤ q *ℤ (b +ℤ j *ℤ n) +ℤ r *ℤ (c +ℤ k *ℤ n) ≡ (p *ℤ a +ℤ q *ℤ b +ℤ r *ℤ c) +ℤ (p *ℤ i +ℤ q *ℤ j +ℤ r *ℤ k) *ℤ n
mixes p q r a b c i j k n = simp expand (omega (arith, linear))

pub number_ahead : (f : Face) (px py i n : ℕ) → number_at f (px + n) py i ≡ number_at f px py i +ℤ change_of f i *ℤ pos n
number_ahead f px py i n =
    let g = f.edges in
    ap (λ (u : ℤ). mix_of f.colours i u (value_at g.e1 (px + n) py) (value_at g.e2 (px + n) py)) (value_ahead g.e0 px py n)
    ∙ ap (λ (u : ℤ). mix_of f.colours i (value_at g.e0 px py +ℤ step_of g.e0 *ℤ pos n) u (value_at g.e2 (px + n) py)) (value_ahead g.e1 px py n)
    ∙ ap (λ (u : ℤ). mix_of f.colours i (value_at g.e0 px py +ℤ step_of g.e0 *ℤ pos n) (value_at g.e1 px py +ℤ step_of g.e1 *ℤ pos n) u) (value_ahead g.e2 px py n)
    ∙ mixes (pos (channel f.colours 0 i)) (pos (channel f.colours 1 i)) (pos (channel f.colours 2 i)) (value_at g.e0 px py) (value_at g.e1 px py) (value_at g.e2 px py) (step_of g.e0) (step_of g.e1) (step_of g.e2) (pos n)

left_ahead : (number step here change m n : ℤ) → (number -ℤ m *ℤ here) +ℤ (step -ℤ m *ℤ change) *ℤ n ≡ (number +ℤ step *ℤ n) -ℤ m *ℤ (here +ℤ change *ℤ n)
left_ahead number step here change m n = simp expand (omega (arith, linear))

-- what the mean leaves n pixels further on
rest_ahead : (f : Face) (px py i n : ℕ) (w : WideWeight) (m : Mean) → IsWeightAt f px py w → IsMeanOf (number_at f px py i) (change_of f i) w m
    → m.rest +ℤ m.change *ℤ pos n ≡ number_at f (px + n) py i -ℤ pos m.mean *ℤ (w.here +ℤ w.step *ℤ pos n)
rest_ahead f px py i n w m at is =
    ap (λ (z : ℤ). z +ℤ m.change *ℤ pos n) is.rest_is
    ∙ ap (λ (z : ℤ). (number_at f px py i -ℤ pos m.mean *ℤ w.here) +ℤ z *ℤ pos n) is.change_is
    ∙ left_ahead (number_at f px py i) (change_of f i) w.here w.step (pos m.mean) (pos n)
    ∙ ap (λ (z : ℤ). z -ℤ pos m.mean *ℤ (w.here +ℤ w.step *ℤ pos n)) (sym (number_ahead f px py i n))

weight_ahead : (f : Face) (px py n : ℕ) (w : WideWeight) → IsWeightAt f px py w → w.here +ℤ w.step *ℤ pos n ≡ value_at f.edges.sum (px + n) py
weight_ahead f px py n w at =
    ap (λ (z : ℤ). z +ℤ w.step *ℤ pos n) at.here_is
    ∙ ap (λ (z : ℤ). value_at f.edges.sum px py +ℤ z *ℤ pos n) at.step_is
    ∙ sym (value_ahead f.edges.sum px py n)

weight_next : (f : Face) (px py : ℕ) (w : WideWeight) → IsWeightAt f px py w → w.here +ℤ w.step ≡ value_at f.edges.sum (px + 1) py
weight_next f px py w at = ap (λ (z : ℤ). w.here +ℤ z) (sym (times_one w.step)) ∙ weight_ahead f px py 1 w at

rest_next : (f : Face) (px py i : ℕ) (w : WideWeight) (m : Mean) → IsWeightAt f px py w → IsMeanOf (number_at f px py i) (change_of f i) w m
    → m.rest +ℤ m.change ≡ number_at f (px + 1) py i -ℤ pos m.mean *ℤ value_at f.edges.sum (px + 1) py
rest_next f px py i w m at is =
    ap (λ (z : ℤ). m.rest +ℤ z) (sym (times_one m.change)) ∙ rest_ahead f px py i 1 w m at is
    ∙ ap (λ (z : ℤ). number_at f (px + 1) py i -ℤ pos m.mean *ℤ z) (weight_ahead f px py 1 w at)

weight_advanced : (f : Face) (px py : ℕ) (w v : WideWeight) → IsWeightAt f px py w → v.here ≡ w.here +ℤ w.step → v.step ≡ w.step → IsWeightAt f (px + 1) py v
weight_advanced f px py w v at here step = record { here_is = here ∙ weight_next f px py w at; step_is = step ∙ at.step_is }

mean_advanced : (f : Face) (px py i : ℕ) (w v : WideWeight) (m n : Mean) → IsWeightAt f px py w → IsMeanOf (number_at f px py i) (change_of f i) w m → IsNextOf m n → IsWeightAt f (px + 1) py v → v.step ≡ w.step
    → IsMeanOf (number_at f (px + 1) py i) (change_of f i) v n
mean_advanced f px py i w v m n at is next there step = record {
  rest_is = next.rest_is ∙ rest_next f px py i w m at is
      ∙ ap (λ (z : ℤ). number_at f (px + 1) py i -ℤ pos m.mean *ℤ z) (sym there.here_is)
      ∙ ap (λ (k : ℕ). number_at f (px + 1) py i -ℤ pos k *ℤ v.here) (sym next.mean_is);
  change_is = next.change_is ∙ is.change_is
      ∙ ap (λ (z : ℤ). change_of f i -ℤ pos m.mean *ℤ z) (sym step)
      ∙ ap (λ (k : ℕ). change_of f i -ℤ pos k *ℤ v.step) (sym next.mean_is);
}

pub means_advanced : (f : Face) (px py : ℕ) (m n : Means) → AreMeansAt f px py m → IsNextOf m.red n.red → IsNextOf m.green n.green → IsNextOf m.blue n.blue → n.weight.here ≡ m.weight.here +ℤ m.weight.step → n.weight.step ≡ m.weight.step
    → AreMeansAt f (px + 1) py n
means_advanced f px py m n at red green blue here step = record {
  weight = there;
  red = mean_advanced f px py 0 m.weight n.weight m.red n.red at.weight at.red red there step;
  green = mean_advanced f px py 1 m.weight n.weight m.green n.green at.weight at.green green there step;
  blue = mean_advanced f px py 2 m.weight n.weight m.blue n.blue at.weight at.blue blue there step;
  bytes = at.bytes;
}
  where
    there : IsWeightAt f (px + 1) py n.weight
    there = weight_advanced f px py m.weight n.weight at.weight here step

rest_fits : (f : Face) (px py i : ℕ) (w : WideWeight) (m : Mean) → AreBytes (channel f.colours 0 i) (channel f.colours 1 i) (channel f.colours 2 i) → px + 1 ≤ size_limit → py ≤ size_limit → IsWeightAt f px py w → IsMeanOf (number_at f px py i) (change_of f i) w m
    → IsWithin (2 ^ 97) (m.rest +ℤ m.change)
rest_fits f px py i w m bytes column row at is =
    subst (λ (z : ℤ). IsWithin (2 ^ 97) z) (sym (rest_next f px py i w m at is))
    (left_within (number_at f (px + 1) py i) (value_at f.edges.sum (px + 1) py) m (number_within f (px + 1) py i bytes column row) (value_within f.edges.sum (px + 1) py column row))

pub means_fit : (f : Face) (px py : ℕ) (m : Means) → px + 1 ≤ size_limit → py ≤ size_limit → AreMeansAt f px py m → DoFit m
means_fit f px py m column row at = record {
  red = rest_fits f px py 0 m.weight m.red at.bytes.red column row at.weight at.red;
  green = rest_fits f px py 1 m.weight m.green at.bytes.green column row at.weight at.green;
  blue = rest_fits f px py 2 m.weight m.blue at.bytes.blue column row at.weight at.blue;
  weight = subst (λ (z : ℤ). IsWithin (2 ^ 82) z) (sym (weight_next f px py m.weight at.weight)) (value_within f.edges.sum (px + 1) py column row);
}

-- ---- quotients
mean_is : (n w g : ℕ) → IsMean (pos n) (pos w) g → g ≡ n / w
mean_is n w g mean =
    let low : g * w ≤ n = omega (arith, ints, mean.least) in
    let high : n < g * w + w = omega (arith, ints, mean.most) in
    quotient_is n w g (omega (arith, low, high)) low high

-- ---- the colour
whole : (z : ℤ) → pos 0 ≤ℤ z → z ≡ pos (unsigned_abs z)
whole z h = omega (arith, ints, h)

mix_whole : (x y z : ℕ) (a b c : ℤ) → pos 0 ≤ℤ a → pos 0 ≤ℤ b → pos 0 ≤ℤ c → mix x y z a b c ≡ pos (x * unsigned_abs a + y * unsigned_abs b + z * unsigned_abs c)
mix_whole x y z a b c p q r =
    ap (λ (u : ℤ). mix x y z u b c) (whole a p)
    ∙ ap (λ (u : ℤ). mix x y z (pos (unsigned_abs a)) u c) (whole b q)
    ∙ ap (λ (u : ℤ). mix x y z (pos (unsigned_abs a)) (pos (unsigned_abs b)) u) (whole c r)

part_least : (x : ℕ) (a : ℤ) → pos 0 ≤ℤ a → pos 0 ≤ℤ (pos x *ℤ a)
part_least x a p = omega (arith, order, times_le (pos x) (pos 0) a (omega (arith, ints)) p, *ℤ-zero (pos x))

part_most : (x : ℕ) (a : ℤ) → x < 2 ^ 8 → pos 0 ≤ℤ a → (pos x *ℤ a) ≤ℤ (pos 255 *ℤ a)
part_most x a l p = omega (arith, order, *ℤ_comm (pos x) a, *ℤ_comm (pos 255) a, times_le a (pos x) (pos 255) p (omega (arith, ints, l)))

times_sum : (a b c : ℤ) → pos 255 *ℤ (a +ℤ b +ℤ c) ≡ pos 255 *ℤ a +ℤ pos 255 *ℤ b +ℤ pos 255 *ℤ c
times_sum a b c = simp expand (omega (arith, linear))

mix_channel : (x y z : ℕ) (a b c w : ℤ) → AreBytes x y z → pos 0 ≤ℤ a → pos 0 ≤ℤ b → pos 0 ≤ℤ c → pos 1 ≤ℤ w → w ≡ a +ℤ b +ℤ c → IsChannel (mix x y z a b c) w
mix_channel x y z a b c w bytes p q r some is = record {
  whole = omega (arith, order, part_least x a p, part_least y b q, part_least z c r);
  some = omega (arith, ints, some);
  most = omega (arith, order, part_most x a bytes.first p, part_most y b bytes.second q, part_most z c bytes.third r, ap (λ (u : ℤ). pos 255 *ℤ u) is, times_sum a b c);
}

pub channel_at_covered : (f : Face) (px py i : ℕ) → AreBytes (channel f.colours 0 i) (channel f.colours 1 i) (channel f.colours 2 i) → is_covered f px py ≡ true → IsChannel (number_at f px py i) (value_at f.edges.sum px py)
channel_at_covered f px py i bytes covered =
    let at = covered_parts f px py covered in
    mix_channel (channel f.colours 0 i) (channel f.colours 1 i) (channel f.colours 2 i) (value_at f.edges.e0 px py) (value_at f.edges.e1 px py) (value_at f.edges.e2 px py) (value_at f.edges.sum px py) bytes
    at.first at.second at.third at.sum (total_value f.edges.e0 f.edges.e1 f.edges.e2 f.edges.sum px py f.edges.total)

abbrev top : Face → (px py i : ℕ) → ℕ
top f px py i = channel f.colours 0 i * weight_at f.edges.e0 px py + channel f.colours 1 i * weight_at f.edges.e1 px py + channel f.colours 2 i * weight_at f.edges.e2 px py

-- the colour at a pixel that is hit is that of its means
pub hit_shade : (f : Face) (px py : ℕ) (h : Hit) (red green blue : ℕ) → face_hit f px py ≡ Some h → IsMean (number_at f px py 0) (value_at f.edges.sum px py) red → IsMean (number_at f px py 1) (value_at f.edges.sum px py) green → IsMean (number_at f px py 2) (value_at f.edges.sum px py) blue
    → red ∷ green ∷ blue ∷ [] ≡ h.colour
hit_shade f px py h red green blue hits r g b =
    ap (λ (v : ℕ). v ∷ green ∷ blue ∷ []) (quotient 0 red r)
    ∙ ap (λ (v : ℕ). top f px py 0 / weight_at f.edges.sum px py ∷ v ∷ blue ∷ []) (quotient 1 green g)
    ∙ ap (λ (v : ℕ). top f px py 0 / weight_at f.edges.sum px py ∷ top f px py 1 / weight_at f.edges.sum px py ∷ v ∷ []) (quotient 2 blue b)
    ∙ sym parts.colour
  where
    parts : IsHitOf f px py h
    parts = hit_parts f px py h hits

    at : IsCoveredAt f px py
    at = covered_parts f px py parts.covered

    sum : value_at f.edges.sum px py ≡ pos (weight_at f.edges.sum px py)
    sum = whole (value_at f.edges.sum px py) (omega (arith, ints, at.sum))

    quotient : (i m : ℕ) → IsMean (number_at f px py i) (value_at f.edges.sum px py) m → m ≡ top f px py i / weight_at f.edges.sum px py
    quotient i m mean =
        let number : number_at f px py i ≡ pos (top f px py i) =
        mix_whole (channel f.colours 0 i) (channel f.colours 1 i) (channel f.colours 2 i) (value_at f.edges.e0 px py) (value_at f.edges.e1 px py) (value_at f.edges.e2 px py) at.first at.second at.third in
        mean_is (top f px py i) (weight_at f.edges.sum px py) m
        (subst (λ (z : ℤ). IsMean (pos (top f px py i)) z m) sum (subst (λ (z : ℤ). IsMean z (value_at f.edges.sum px py) m) number mean))

-- means that are settled where the pixel is covered have the colour of its hit
pub settled_shade : (f : Face) (px py : ℕ) (m : Means) → AreMeansAt f px py m
    → (IsChannel (number_at f px py 0) m.weight.here → IsLeft m.red.rest m.weight.here)
    → (IsChannel (number_at f px py 1) m.weight.here → IsLeft m.green.rest m.weight.here)
    → (IsChannel (number_at f px py 2) m.weight.here → IsLeft m.blue.rest m.weight.here)
    → IfSome (face_hit f px py) (λ h. colour_by m ≡ h.colour)
settled_shade f px py m at red green blue = by (face_hit f px py) refl
  where
    there : (i : ℕ) → AreBytes (channel f.colours 0 i) (channel f.colours 1 i) (channel f.colours 2 i) → is_covered f px py ≡ true → IsChannel (number_at f px py i) m.weight.here
    there i bytes covered = subst (λ (z : ℤ). IsChannel (number_at f px py i) z) (sym at.weight.here_is) (channel_at_covered f px py i bytes covered)

    mean : (i : ℕ) (n : Mean) → IsMeanOf (number_at f px py i) (change_of f i) m.weight n → IsLeft n.rest m.weight.here → IsMean (number_at f px py i) (value_at f.edges.sum px py) n.mean
    mean i n is left = subst (λ (z : ℤ). IsMean (number_at f px py i) z n.mean) at.weight.here_is (left_mean (number_at f px py i) m.weight.here n.rest n.mean is.rest_is left)

    by : (o : Option Hit) → face_hit f px py ≡ o → IfSome o (λ h. colour_by m ≡ h.colour)
    by None e = tt
    by (Some h) e =
        let covered = (hit_parts f px py h e).covered in
        hit_shade f px py h m.red.mean m.green.mean m.blue.mean e
        (mean 0 m.red at.red (red (there 0 at.bytes.red covered)))
        (mean 1 m.green at.green (green (there 1 at.bytes.green covered)))
        (mean 2 m.blue at.blue (blue (there 2 at.bytes.blue covered)))

-- ---- the colour between two pixels of a row: the sums there are means of those at the two
line_between : (a x v c i j : ℤ) → (i +ℤ j) *ℤ (a *ℤ (x +ℤ i) +ℤ v +ℤ c) ≡ j *ℤ (a *ℤ x +ℤ v +ℤ c) +ℤ i *ℤ (a *ℤ (x +ℤ (i +ℤ j)) +ℤ v +ℤ c)
line_between a x v c i j = simp expand (omega (arith, linear))

value_between : (g : Linear) (px py i j : ℕ) → pos (i + j) *ℤ value_at g (px + i) py ≡ pos j *ℤ value_at g px py +ℤ pos i *ℤ value_at g (px + (i + j)) py
value_between g px py i j = line_between (step_of g) (pos px) ((pos 2 *ℤ g.b) *ℤ pos py) g.c (pos i) (pos j)

sum_between : (n i j a b c a0 b0 c0 a1 b1 c1 : ℤ) → n *ℤ a ≡ j *ℤ a0 +ℤ i *ℤ a1 → n *ℤ b ≡ j *ℤ b0 +ℤ i *ℤ b1 → n *ℤ c ≡ j *ℤ c0 +ℤ i *ℤ c1
    → n *ℤ (a +ℤ b +ℤ c) ≡ j *ℤ (a0 +ℤ b0 +ℤ c0) +ℤ i *ℤ (a1 +ℤ b1 +ℤ c1)
sum_between n i j a b c a0 b0 c0 a1 b1 c1 d e f =
    omega (arith, order, d, e, f, mul-add n (a +ℤ b) c, mul-add n a b, mul-add j (a0 +ℤ b0) c0, mul-add j a0 b0, mul-add i (a1 +ℤ b1) c1, mul-add i a1 b1)

mix_between : (f : Face) (px py k i j : ℕ) → pos (i + j) *ℤ number_at f (px + i) py k ≡ pos j *ℤ number_at f px py k +ℤ pos i *ℤ number_at f (px + (i + j)) py k
mix_between f px py k i j =
    let part : (v : ℕ) (g : Linear) → pos (i + j) *ℤ (pos v *ℤ value_at g (px + i) py) ≡ pos j *ℤ (pos v *ℤ value_at g px py) +ℤ pos i *ℤ (pos v *ℤ value_at g (px + (i + j)) py) =
    λ v g. product_between (pos (i + j)) (pos i) (pos j) (pos v) (value_at g (px + i) py) (value_at g px py) (value_at g (px + (i + j)) py) (value_between g px py i j) in
    let x = channel f.colours 0 k in
    let y = channel f.colours 1 k in
    let z = channel f.colours 2 k in
    let e = f.edges in
    sum_between (pos (i + j)) (pos i) (pos j)
    (pos x *ℤ value_at e.e0 (px + i) py) (pos y *ℤ value_at e.e1 (px + i) py) (pos z *ℤ value_at e.e2 (px + i) py)
    (pos x *ℤ value_at e.e0 px py) (pos y *ℤ value_at e.e1 px py) (pos z *ℤ value_at e.e2 px py)
    (pos x *ℤ value_at e.e0 (px + (i + j)) py) (pos y *ℤ value_at e.e1 (px + (i + j)) py) (pos z *ℤ value_at e.e2 (px + (i + j)) py)
    (part x e.e0) (part y e.e1) (part z e.e2)

-- ---- means that are the same at two pixels of a row
abbrev MeanAt : Face → (px py i m : ℕ) → Type 0
MeanAt f px py i m = IsMean (number_at f px py i) (value_at f.edges.sum px py) m

channel_between : (f : Face) (px py k i j m : ℕ) → 0 < i + j → MeanAt f px py k m → MeanAt f (px + (i + j)) py k m → MeanAt f (px + i) py k m
channel_between f px py k i j m some first last =
    mean_between (pos (i + j)) (pos i) (pos j) (number_at f (px + i) py k) (value_at f.edges.sum (px + i) py) (number_at f px py k) (value_at f.edges.sum px py) (number_at f (px + (i + j)) py k) (value_at f.edges.sum (px + (i + j)) py) m
    (omega (arith, ints)) (omega (arith, ints)) (omega (arith, ints, some)) refl (mix_between f px py k i j) (value_between f.edges.sum px py i j) first last

here_mean : (f : Face) (px py i n : ℕ) (w : WideWeight) (m : Mean) → IsWeightAt f px py w → IsMeanOf (number_at f px py i) (change_of f i) w m → Stays m w n → MeanAt f px py i m.mean
here_mean f px py i n w m at is stays =
    subst (λ (z : ℤ). IsMean (number_at f px py i) z m.mean) at.here_is (left_mean (number_at f px py i) w.here m.rest m.mean is.rest_is stays.here)

there_mean : (f : Face) (px py i n : ℕ) (w : WideWeight) (m : Mean) → IsWeightAt f px py w → IsMeanOf (number_at f px py i) (change_of f i) w m → Stays m w n → MeanAt f (px + n) py i m.mean
there_mean f px py i n w m at is stays =
    subst (λ (z : ℤ). IsMean (number_at f (px + n) py i) z m.mean) (weight_ahead f px py n w at)
    (left_mean (number_at f (px + n) py i) (w.here +ℤ w.step *ℤ pos n) (m.rest +ℤ m.change *ℤ pos n) m.mean (rest_ahead f px py i n w m at is) stays.there)

-- the mean at each pixel up to n further on
stays_mean : (f : Face) (px py k i j : ℕ) (w : WideWeight) (m : Mean) → IsWeightAt f px py w → IsMeanOf (number_at f px py k) (change_of f k) w m → Stays m w (i + j) → MeanAt f (px + i) py k m.mean
stays_mean f px py k i j w m at is stays = ⊎_elim
    (λ some. channel_between f px py k i j m.mean some (here_mean f px py k (i + j) w m at is stays) (there_mean f px py k (i + j) w m at is stays))
    (λ none. subst (λ (x : ℕ). MeanAt f x py k m.mean) (omega (arith, none)) (here_mean f px py k (i + j) w m at is stays))
    (cases_lt 0 (i + j))

pub even_shade : (f : Face) (px py i j : ℕ) (m : Means) → AreMeansAt f px py m → AreEven m (i + j) → IfSome (face_hit f (px + i) py) (λ h. colour_by m ≡ h.colour)
even_shade f px py i j m at even = by (face_hit f (px + i) py) refl
  where
    by : (o : Option Hit) → face_hit f (px + i) py ≡ o → IfSome o (λ h. colour_by m ≡ h.colour)
    by None e = tt
    by (Some h) e =
        hit_shade f (px + i) py h m.red.mean m.green.mean m.blue.mean e
        (stays_mean f px py 0 i j m.weight m.red at.weight at.red even.red)
        (stays_mean f px py 1 i j m.weight m.green at.weight at.green even.green)
        (stays_mean f px py 2 i j m.weight m.blue at.weight at.blue even.blue)
