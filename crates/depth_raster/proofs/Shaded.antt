-- Spans of small faces along a row: how large their numbers are, what a step makes of them, and the colours that they give.
use Rattle.std.proofs.Common.{◌≡◌, ℕ, ◌+◌, ◌*◌, ◌≤◌, ◌^◌, Option, Some, None, true, refl, ap, sym, ◌∙◌, subst, lit≤, arith}
use Rattle.std.specs.Prelude.{ℤ, pos, ◌+ℤ◌, ◌*ℤ◌}
use Rattle.std.specs.Option.{IfSome}
use Rattle.fx_math.specs.Limits.{size_limit}
use Rattle.fx_math.specs.Within.{IsWithin}
use Rattle.fx_math.proofs.Ring.{expand, linear, times_one}
use Rattle.fx_math.proofs.Size.{within_add, within_mul, within_more}
use Rattle.tri_cover.specs.Faces.{face_hit, is_covered}
use Rattle.tri_cover.specs.Hits.{channel}
use Rattle.tri_cover.specs.Linears.{value_at, step_of}
use Rattle.tri_cover.specs.declared.face.Face.{Face}
use Rattle.tri_cover.specs.declared.hit.Hit.{Hit}
use Rattle.tri_cover.specs.declared.linear.Linear.{Linear}
use Rattle.tri_cover.proofs.EdgeLines.{total_value}
use Rattle.tri_cover.proofs.FaceValues.{two_within}
use Rattle.span_shading.specs.Mixing.{mix, ahead, AreBytes}
use Rattle.span_shading.specs.Quotients.{IsMean, IsChannel}
use Rattle.span_shading.specs.Spans.{IsShade, IsNextSpan, DoFit, HasShadeTo}
use Rattle.span_shading.specs.Sums.{IsNextSum}
use Rattle.span_shading.specs.declared.lines.Line.{Line}
use Rattle.span_shading.specs.declared.lines.Sum.{Sum}
use Rattle.span_shading.specs.declared.lines.Weight.{Weight}
use Rattle.span_shading.specs.declared.spans.Shade.{Shade}
use Rattle.span_shading.specs.declared.spans.Span.{Span}
use Rattle.depth_raster.specs.Mixing.{mix_of, number_at, change_of, AreColours}
use Rattle.depth_raster.specs.Shading.{IsLineAt, IsMixOf, AreMixes, IsSumAt, IsTotalAt, IsSpanAt, shade_colour}
use Rattle.depth_raster.specs.Small.{IsSmallLinear, IsSmallFace}
use Rattle.depth_raster.proofs.Looking.{hit_parts}
use Rattle.span_shading.proofs.Sizes.{byte_within}
use Rattle.depth_raster.proofs.Mixed.{channel_at_covered, hit_shade, number_ahead}
use Rattle.depth_raster.proofs.Stepped.{place_fits, value_ahead, value_after}

-- ---- how large they are
pub small_value : (g : Linear) (px py : ℕ) → IsSmallLinear g → px ≤ size_limit → py ≤ size_limit → IsWithin (2 ^ 52) (value_at g px py)
small_value g px py small column row =
    within_more (2 ^ 52)
    (within_add (within_add (within_mul (within_mul two_within small.a_within) (place_fits px column)) (within_mul (within_mul two_within small.b_within) (place_fits py row))) small.c_within)
    (lit≤ tt)

pub small_step : (g : Linear) → IsSmallLinear g → IsWithin (2 ^ 40) (step_of g)
small_step g small = within_more (2 ^ 40) (within_mul two_within small.a_within) (lit≤ tt)

mix_small : (x y z : ℕ) (a b c : ℤ) → AreBytes x y z → IsWithin (2 ^ 52) a → IsWithin (2 ^ 52) b → IsWithin (2 ^ 52) c → IsWithin (3 * 2 ^ 60) (mix x y z a b c)
mix_small x y z a b c bytes p q r =
    within_more (3 * 2 ^ 60) (within_add (within_add (within_mul (byte_within x bytes.first) p) (within_mul (byte_within y bytes.second) q)) (within_mul (byte_within z bytes.third) r)) (lit≤ tt)

number_small : (f : Face) (px py i : ℕ) → AreBytes (channel f.colours 0 i) (channel f.colours 1 i) (channel f.colours 2 i) → IsSmallFace f → px ≤ size_limit → py ≤ size_limit → IsWithin (3 * 2 ^ 60) (number_at f px py i)
number_small f px py i bytes small column row =
    mix_small (channel f.colours 0 i) (channel f.colours 1 i) (channel f.colours 2 i) (value_at f.edges.e0 px py) (value_at f.edges.e1 px py) (value_at f.edges.e2 px py) bytes
    (small_value f.edges.e0 px py small.first column row) (small_value f.edges.e1 px py small.second column row) (small_value f.edges.e2 px py small.third column row)

weight_small : (f : Face) (px py : ℕ) → IsSmallFace f → px ≤ size_limit → py ≤ size_limit → IsWithin (3 * 2 ^ 52) (value_at f.edges.sum px py)
weight_small f px py small column row =
    subst (λ (z : ℤ). IsWithin (3 * 2 ^ 52) z) (sym (total_value f.edges.e0 f.edges.e1 f.edges.e2 f.edges.sum px py f.edges.total))
    (within_more (3 * 2 ^ 52)
    (within_add (within_add (small_value f.edges.e0 px py small.first column row) (small_value f.edges.e1 px py small.second column row)) (small_value f.edges.e2 px py small.third column row))
    (lit≤ tt))

-- ---- at a pixel
two_sum : (a b c : ℤ) → pos 2 *ℤ (a +ℤ b +ℤ c) ≡ pos 2 *ℤ a +ℤ pos 2 *ℤ b +ℤ pos 2 *ℤ c
two_sum a b c = simp expand (omega (arith, linear))

total_step : (f : Face) → step_of f.edges.sum ≡ step_of f.edges.e0 +ℤ step_of f.edges.e1 +ℤ step_of f.edges.e2
total_step f = ap (λ (z : ℤ). pos 2 *ℤ z) f.edges.total.a_is ∙ two_sum f.edges.e0.a f.edges.e1.a f.edges.e2.a

sum_at : (f : Face) (px py i : ℕ) (first second third : Line) (s : Sum) → IsLineAt f.edges.e0 px py first → IsLineAt f.edges.e1 px py second → IsLineAt f.edges.e2 px py third → IsMixOf f.colours i first second third s → IsSumAt f px py i s
sum_at f px py i first second third s p q r is =
    let g = f.edges in
    record {
      here_is = is.here_is
          ∙ ap (λ (z : ℤ). mix_of f.colours i z second.here third.here) p.here_is
          ∙ ap (λ (z : ℤ). mix_of f.colours i (value_at g.e0 px py) z third.here) q.here_is
          ∙ ap (λ (z : ℤ). mix_of f.colours i (value_at g.e0 px py) (value_at g.e1 px py) z) r.here_is;
      step_is = is.step_is
          ∙ ap (λ (z : ℤ). mix_of f.colours i z second.step third.step) p.step_is
          ∙ ap (λ (z : ℤ). mix_of f.colours i (step_of g.e0) z third.step) q.step_is
          ∙ ap (λ (z : ℤ). mix_of f.colours i (step_of g.e0) (step_of g.e1) z) r.step_is;
    }

pub span_is : (f : Face) (px py : ℕ) (first second third : Line) (s : Span) → IsLineAt f.edges.e0 px py first → IsLineAt f.edges.e1 px py second → IsLineAt f.edges.e2 px py third → AreMixes f.colours first second third s → IsSpanAt f px py s
span_is f px py first second third s p q r are = record {
  red = sum_at f px py 0 first second third s.red p q r are.red;
  green = sum_at f px py 1 first second third s.green p q r are.green;
  blue = sum_at f px py 2 first second third s.blue p q r are.blue;
  weight = record {
    here_is = are.weight.here_is
        ∙ ap (λ (z : ℤ). z +ℤ second.here +ℤ third.here) p.here_is
        ∙ ap (λ (z : ℤ). value_at f.edges.e0 px py +ℤ z +ℤ third.here) q.here_is
        ∙ ap (λ (z : ℤ). value_at f.edges.e0 px py +ℤ value_at f.edges.e1 px py +ℤ z) r.here_is
        ∙ sym (total_value f.edges.e0 f.edges.e1 f.edges.e2 f.edges.sum px py f.edges.total);
    step_is = are.weight.step_is
        ∙ ap (λ (z : ℤ). z +ℤ second.step +ℤ third.step) p.step_is
        ∙ ap (λ (z : ℤ). step_of f.edges.e0 +ℤ z +ℤ third.step) q.step_is
        ∙ ap (λ (z : ℤ). step_of f.edges.e0 +ℤ step_of f.edges.e1 +ℤ z) r.step_is
        ∙ sym (total_step f);
  };
}

-- ---- further on in the row
number_next : (f : Face) (px py i : ℕ) (s : Sum) → IsSumAt f px py i s → s.here +ℤ s.step ≡ number_at f (px + 1) py i
number_next f px py i s at =
    ap (λ (z : ℤ). z +ℤ s.step) at.here_is ∙ ap (λ (z : ℤ). number_at f px py i +ℤ z) (at.step_is ∙ sym (times_one (change_of f i))) ∙ sym (number_ahead f px py i 1)

total_next : (f : Face) (px py : ℕ) (w : Weight) → IsTotalAt f px py w → w.here +ℤ w.step ≡ value_at f.edges.sum (px + 1) py
total_next f px py w at =
    ap (λ (z : ℤ). z +ℤ w.step) at.here_is ∙ ap (λ (z : ℤ). value_at f.edges.sum px py +ℤ z) at.step_is ∙ sym (value_after f.edges.sum px py)

sum_after : (f : Face) (px py i : ℕ) (s t : Sum) → IsSumAt f px py i s → IsNextSum s t → IsSumAt f (px + 1) py i t
sum_after f px py i s t at next = record { here_is = next.here_is ∙ number_next f px py i s at; step_is = next.step_is ∙ at.step_is }

pub span_after : (f : Face) (px py : ℕ) (s t : Span) → IsSpanAt f px py s → IsNextSpan s t → IsSpanAt f (px + 1) py t
span_after f px py s t at next = record {
  red = sum_after f px py 0 s.red t.red at.red next.red;
  green = sum_after f px py 1 s.green t.green at.green next.green;
  blue = sum_after f px py 2 s.blue t.blue at.blue next.blue;
  weight = record { here_is = next.weight.here_is ∙ total_next f px py s.weight at.weight; step_is = next.weight.step_is ∙ at.weight.step_is };
}

pub span_fits : (f : Face) (px py : ℕ) (s : Span) → AreColours f.colours → IsSmallFace f → px + 1 ≤ size_limit → py ≤ size_limit → IsSpanAt f px py s → DoFit s
span_fits f px py s bytes small column row at = record {
  red = subst (λ (z : ℤ). IsWithin (3 * 2 ^ 60) z) (sym (number_next f px py 0 s.red at.red)) (number_small f (px + 1) py 0 bytes.red small column row);
  green = subst (λ (z : ℤ). IsWithin (3 * 2 ^ 60) z) (sym (number_next f px py 1 s.green at.green)) (number_small f (px + 1) py 1 bytes.green small column row);
  blue = subst (λ (z : ℤ). IsWithin (3 * 2 ^ 60) z) (sym (number_next f px py 2 s.blue at.blue)) (number_small f (px + 1) py 2 bytes.blue small column row);
  weight = subst (λ (z : ℤ). IsWithin (3 * 2 ^ 52) z) (sym (total_next f px py s.weight at.weight)) (weight_small f (px + 1) py small column row);
}

-- ---- the colour
-- of the shade at a pixel
pub span_shade : (f : Face) (px py : ℕ) (s : Span) (shade : Shade) → AreColours f.colours → IsSpanAt f px py s → IsShade s shade → IfSome (face_hit f px py) (λ h. shade_colour shade ≡ h.colour)
span_shade f px py s shade bytes at is = by (face_hit f px py) refl
  where
    mean : (i : ℕ) (t : Sum) (m : ℕ) → AreBytes (channel f.colours 0 i) (channel f.colours 1 i) (channel f.colours 2 i) → IsSumAt f px py i t → (IsChannel t.here s.weight.here → IsMean t.here s.weight.here m) → is_covered f px py ≡ true → IsMean (number_at f px py i) (value_at f.edges.sum px py) m
    mean i t m three sum told covered =
        subst (λ (z : ℤ). IsChannel (number_at f px py i) z → IsMean (number_at f px py i) z m) at.weight.here_is
        (subst (λ (z : ℤ). IsChannel z s.weight.here → IsMean z s.weight.here m) sum.here_is told)
        (channel_at_covered f px py i three covered)

    by : (o : Option Hit) → face_hit f px py ≡ o → IfSome o (λ h. shade_colour shade ≡ h.colour)
    by None e = tt
    by (Some h) e =
        let covered = (hit_parts f px py h e).covered in
        hit_shade f px py h shade.red shade.green shade.blue e
        (mean 0 s.red shade.red bytes.red at.red is.red covered)
        (mean 1 s.green shade.green bytes.green at.green is.green covered)
        (mean 2 s.blue shade.blue bytes.blue at.blue is.blue covered)

-- of a shade that is even, so many pixels further on
pub even_span : (f : Face) (px py n count : ℕ) (s : Span) (shade : Shade) → IsSpanAt f px py s → HasShadeTo s count shade → n ≤ count → IfSome (face_hit f (px + n) py) (λ h. shade_colour shade ≡ h.colour)
even_span f px py n count s shade at has within = by (face_hit f (px + n) py) refl
  where
    total : ahead s.weight.here s.weight.step n ≡ value_at f.edges.sum (px + n) py
    total =
        ap (λ (z : ℤ). z +ℤ s.weight.step *ℤ pos n) at.weight.here_is
        ∙ ap (λ (z : ℤ). value_at f.edges.sum px py +ℤ z *ℤ pos n) at.weight.step_is
        ∙ sym (value_ahead f.edges.sum px py n)

    number : (i : ℕ) (t : Sum) → IsSumAt f px py i t → ahead t.here t.step n ≡ number_at f (px + n) py i
    number i t sum =
        ap (λ (z : ℤ). z +ℤ t.step *ℤ pos n) sum.here_is
        ∙ ap (λ (z : ℤ). number_at f px py i +ℤ z *ℤ pos n) sum.step_is
        ∙ sym (number_ahead f px py i n)

    mean : (i : ℕ) (t : Sum) (m : ℕ) → IsSumAt f px py i t → IsMean (ahead t.here t.step n) (ahead s.weight.here s.weight.step n) m → IsMean (number_at f (px + n) py i) (value_at f.edges.sum (px + n) py) m
    mean i t m sum is =
        subst (λ (z : ℤ). IsMean (number_at f (px + n) py i) z m) total (subst (λ (z : ℤ). IsMean z (ahead s.weight.here s.weight.step n) m) (number i t sum) is)

    by : (o : Option Hit) → face_hit f (px + n) py ≡ o → IfSome o (λ h. shade_colour shade ≡ h.colour)
    by None e = tt
    by (Some h) e =
        hit_shade f (px + n) py h shade.red shade.green shade.blue e
        (mean 0 s.red shade.red at.red (has.red n within))
        (mean 1 s.green shade.green at.green (has.green n within))
        (mean 2 s.blue shade.blue at.blue (has.blue n within))
