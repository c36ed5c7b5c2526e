-- Means of sums that change evenly: where two places have one mean, so has each between them.
use Rattle.std.proofs.Common.{◌≡◌, ℕ, ◌-◌, ◌<◌, ◌≤◌, refl, ap, sym, ◌∙◌, subst, arith, ⊎_elim}
use Rattle.std.specs.Prelude.{ℤ, pos, ◌+ℤ◌, ◌*ℤ◌, ◌≤ℤ◌, ◌<ℤ◌}
use Rattle.std.proofs.lemmas.Bool.{cases_lt}
use Rattle.std.proofs.lemmas.Int.{ints, by_lt_z}
use Rattle.std.proofs.Math.IntN.{*ℤ-zero}
use Rattle.fx_math.proofs.Ring.{expand, linear, order, mul-add, mul_left_comm, times_one, times_le, times_lt}
use Rattle.span_shading.specs.Quotients.{IsMean}
use Rattle.span_shading.specs.Mixing.{ahead}
use Rattle.span_shading.specs.Spans.{HasShadeAtEnds, HasShadeTo}
use Rattle.span_shading.specs.declared.spans.Shade.{Shade}
use Rattle.span_shading.specs.declared.spans.Span.{Span}

pub product_between : (n i j p a x y : ℤ) → n *ℤ a ≡ j *ℤ x +ℤ i *ℤ y → n *ℤ (p *ℤ a) ≡ j *ℤ (p *ℤ x) +ℤ i *ℤ (p *ℤ y)
product_between n i j p a x y e =
    mul_left_comm n p a ∙ ap (λ (z : ℤ). p *ℤ z) e ∙ mul-add p (j *ℤ x) (i *ℤ y)
    ∙ ap (λ (z : ℤ). z +ℤ p *ℤ (i *ℤ y)) (mul_left_comm p j x) ∙ ap (λ (z : ℤ). j *ℤ (p *ℤ x) +ℤ z) (mul_left_comm p i y)

-- what is in order at two places is in order between them
order_between : (k i j x y x0 y0 x1 y1 : ℤ) → pos 0 ≤ℤ i → pos 0 ≤ℤ j → pos 0 <ℤ k → k *ℤ x ≡ j *ℤ x0 +ℤ i *ℤ x1 → k *ℤ y ≡ j *ℤ y0 +ℤ i *ℤ y1 → x0 ≤ℤ y0 → x1 ≤ℤ y1 → x ≤ℤ y
order_between k i j x y x0 y0 x1 y1 p q some d e l m =
    by_lt_z y x
    (λ below. absurd (omega (arith, order, d, e, times_lt k y x some below, times_le j x0 y0 q l, times_le i x1 y1 p m)))
    (λ above. above)

strict_between : (k i j x y x0 y0 x1 y1 : ℤ) → pos 0 ≤ℤ i → pos 0 ≤ℤ j → pos 0 <ℤ k → k ≡ i +ℤ j → k *ℤ x ≡ j *ℤ x0 +ℤ i *ℤ x1 → k *ℤ y ≡ j *ℤ y0 +ℤ i *ℤ y1 → x0 <ℤ y0 → x1 <ℤ y1 → x <ℤ y
strict_between k i j x y x0 y0 x1 y1 p q some is d e l m =
    let first : (x0 +ℤ pos 1) ≤ℤ y0 = omega (arith, ints, l) in
    let last : (x1 +ℤ pos 1) ≤ℤ y1 = omega (arith, ints, m) in
    let wide : pos 0 ≤ℤ k = omega (arith, ints, some) in
    by_lt_z x y
    (λ below. below)
    (λ above. absurd (omega (
      arith,
      order,
      some,
      is,
      d,
      e,
      times_le k y x wide above,
      times_le j (x0 +ℤ pos 1) y0 q first,
      mul-add j x0 (pos 1),
      times_one j,
      times_le i (x1 +ℤ pos 1) y1 p last,
      mul-add i x1 (pos 1),
      times_one i,
    )))

pub mean_between : (k i j n w n0 w0 n1 w1 : ℤ) (g : ℕ) → pos 0 ≤ℤ i → pos 0 ≤ℤ j → pos 0 <ℤ k → k ≡ i +ℤ j → k *ℤ n ≡ j *ℤ n0 +ℤ i *ℤ n1 → k *ℤ w ≡ j *ℤ w0 +ℤ i *ℤ w1 → IsMean n0 w0 g → IsMean n1 w1 g → IsMean n w g
mean_between k i j n w n0 w0 n1 w1 g p q some is d e first last =
    let low = product_between k i j (pos g) w w0 w1 e in
    let high : k *ℤ (pos g *ℤ w +ℤ w) ≡ j *ℤ (pos g *ℤ w0 +ℤ w0) +ℤ i *ℤ (pos g *ℤ w1 +ℤ w1) =
    omega (arith, order, low, e, mul-add k (pos g *ℤ w) w, mul-add j (pos g *ℤ w0) w0, mul-add i (pos g *ℤ w1) w1) in
    record {
      least = order_between k i j (pos g *ℤ w) n (pos g *ℤ w0) n0 (pos g *ℤ w1) n1 p q some low d first.least last.least;
      most = strict_between k i j n (pos g *ℤ w +ℤ w) n0 (pos g *ℤ w0 +ℤ w0) n1 (pos g *ℤ w1 +ℤ w1) p q some is d high first.most last.most;
    }

-- ---- along a row
ahead_between : (here step i j : ℤ) → (i +ℤ j) *ℤ (here +ℤ step *ℤ i) ≡ j *ℤ here +ℤ i *ℤ (here +ℤ step *ℤ (i +ℤ j))
ahead_between here step i j = simp expand (omega (arith, linear))

ahead_none : (here step : ℤ) → ahead here step 0 ≡ here
ahead_none here step = omega (arith, order, *ℤ-zero step)

-- the mean at a place and at one n further on is that at each between
pub mean_to : (here step there change : ℤ) (count mean n : ℕ) → n ≤ count → IsMean here there mean → IsMean (ahead here step count) (ahead there change count) mean → IsMean (ahead here step n) (ahead there change n) mean
mean_to here step there change count mean n within first last = ⊎_elim
    (λ some. between some)
    (λ none. start (omega (arith, none, within)))
    (cases_lt 0 count)
  where
    start : n ≡ 0 → IsMean (ahead here step n) (ahead there change n) mean
    start e =
        subst (λ (k : ℕ). IsMean (ahead here step k) (ahead there change k) mean) (sym e)
        (subst (λ (z : ℤ). IsMean z (ahead there change 0) mean) (sym (ahead_none here step)) (subst (λ (z : ℤ). IsMean here z mean) (sym (ahead_none there change)) first))

    between : 0 < count → IsMean (ahead here step n) (ahead there change n) mean
    between some =
        let left = count - n in
        let whole : pos n +ℤ pos left ≡ pos count = omega (arith, ints, within) in
        mean_between (pos n +ℤ pos left) (pos n) (pos left) (ahead here step n) (ahead there change n) here there (ahead here step count) (ahead there change count) mean
        (omega (arith, ints)) (omega (arith, ints)) (omega (arith, ints, some, within)) refl
        (ahead_between here step (pos n) (pos left) ∙ ap (λ (z : ℤ). pos left *ℤ here +ℤ pos n *ℤ (here +ℤ step *ℤ z)) whole)
        (ahead_between there change (pos n) (pos left) ∙ ap (λ (z : ℤ). pos left *ℤ there +ℤ pos n *ℤ (there +ℤ change *ℤ z)) whole)
        first last

-- so has each of three channels
pub shade_to : (s : Span) (count : ℕ) (shade : Shade) → HasShadeAtEnds s count shade → HasShadeTo s count shade
shade_to s count shade ends = record {
  red = λ n within. mean_to s.red.here s.red.step s.weight.here s.weight.step count shade.red n within ends.red.first ends.red.last;
  green = λ n within. mean_to s.green.here s.green.step s.weight.here s.weight.step count shade.green n within ends.green.first ends.green.last;
  blue = λ n within. mean_to s.blue.here s.blue.step s.weight.here s.weight.step count shade.blue n within ends.blue.first ends.blue.last;
}
