-- A triangle seen from its back: all signs are turned, and the hits stay.
use Rattle.std.proofs.Common.{◌≡◌, ◌≢◌, ℕ, ◌*◌, Bool, true, false, ◌&&◌, ◌||◌, if◌then◌else◌, List, sym, ap, ◌∙◌, arith, refl}
use Rattle.std.specs.Prelude.{ℤ, pos, neg_ℤ, ◌+ℤ◌, ◌*ℤ◌, ◌≤ℤ◌, ◌<ℤ◌, int_lt, int_le, unsigned_abs}
use Rattle.std.proofs.lemmas.Int.{ints}
use Rattle.fx_math.specs.Plain.{Point}
use Rattle.fx_math.specs.Fixed.{floor_div}
use Rattle.fx_math.specs.Laws.{weighed, scaled}
use Rattle.fx_math.specs.declared.lenses.Lens.{Lens}
use Rattle.fx_math.specs.Hit.{Edges, sum_of, is_inside, is_in_depth, depth_of}
use Rattle.fx_math.proofs.Ring.{linear, order, mul-neg, neg-mul}
use Rattle.fx_math.proofs.Floor.{floor_neg}
use Rattle.fx_math.proofs.Same.{point_same}
use Rattle.tri_cover.specs.Hits.{mean, mean_colour, channel, judged}
use Rattle.tri_cover.specs.Normals.{turned}
use Rattle.tri_cover.proofs.Judgement.{judged_outside, judged_too_deep, judged_seen}

abbrev pub neg_edges : Edges → Edges
neg_edges e = record { e0 = neg_ℤ e.e0; e1 = neg_ℤ e.e1; e2 = neg_ℤ e.e2 }

sum_neg : (e : Edges) → sum_of (neg_edges e) ≡ neg_ℤ (sum_of e)
sum_neg e = omega (arith, linear)

-- ---- the tests of signs
lt_neg : (z : ℤ) → int_lt (pos 0) (neg_ℤ z) ≡ int_lt z (pos 0)
lt_neg z = grind (arith, ints)

neg_lt : (z : ℤ) → int_lt (neg_ℤ z) (pos 0) ≡ int_lt (pos 0) z
neg_lt z = grind (arith, ints)

le_neg : (z : ℤ) → int_le (pos 0) (neg_ℤ z) ≡ int_le z (pos 0)
le_neg z = grind (arith, ints)

neg_le : (z : ℤ) → int_le (neg_ℤ z) (pos 0) ≡ int_le (pos 0) z
neg_le z = grind (arith, ints)

or_swap : (a b : Bool) → (a || b) ≡ (b || a)
or_swap true true = refl
or_swap true false = refl
or_swap false true = refl
or_swap false false = refl

inside_neg : (volume : ℤ) (e : Edges) → is_inside (neg_ℤ volume) (neg_edges e) ≡ is_inside volume e
unfolding is_inside
inside_neg volume e =
    rw (lt_neg volume, neg_lt volume, le_neg e.e0, le_neg e.e1, le_neg e.e2, neg_le e.e0, neg_le e.e1, neg_le e.e2)
    (or_swap (int_lt volume (pos 0) && (int_le e.e0 (pos 0) && int_le e.e1 (pos 0) && int_le e.e2 (pos 0))) (int_lt (pos 0) volume && (int_le (pos 0) e.e0 && int_le (pos 0) e.e1 && int_le (pos 0) e.e2)))

-- ---- depth and colour
depth_neg : (lens : Lens) (volume : ℤ) (e : Edges) → sum_of e ≢ pos 0 → depth_of lens (neg_ℤ volume) (neg_edges e) ≡ depth_of lens volume e
unfolding depth_of
depth_neg lens volume e some =
    ap (λ (d : ℤ). floor_div (pos (2 * lens.f) *ℤ neg_ℤ volume) d) (sum_neg e)
    ∙ ap (λ (n : ℤ). floor_div n (neg_ℤ (sum_of e))) (mul-neg (pos (2 * lens.f)) volume)
    ∙ floor_neg (pos (2 * lens.f) *ℤ volume) (sum_of e) some

mix_neg : (a b c x y z : ℤ) → a *ℤ neg_ℤ x +ℤ b *ℤ neg_ℤ y +ℤ c *ℤ neg_ℤ z ≡ neg_ℤ (a *ℤ x +ℤ b *ℤ y +ℤ c *ℤ z)
mix_neg a b c x y z = omega (arith, linear, order, mul-neg a x, mul-neg b y, mul-neg c z)

mean_neg : (e : Edges) (c0 c1 c2 : ℕ) → sum_of e ≢ pos 0 → mean (neg_edges e) c0 c1 c2 ≡ mean e c0 c1 c2
unfolding mean
mean_neg e c0 c1 c2 some =
    ap unsigned_abs
    (ap (λ (d : ℤ). floor_div (pos c0 *ℤ neg_ℤ e.e0 +ℤ pos c1 *ℤ neg_ℤ e.e1 +ℤ pos c2 *ℤ neg_ℤ e.e2) d) (sum_neg e)
    ∙ ap (λ (n : ℤ). floor_div n (neg_ℤ (sum_of e))) (mix_neg (pos c0) (pos c1) (pos c2) e.e0 e.e1 e.e2)
    ∙ floor_neg (pos c0 *ℤ e.e0 +ℤ pos c1 *ℤ e.e1 +ℤ pos c2 *ℤ e.e2) (sum_of e) some)

colour_neg : (e : Edges) (colours : List (List ℕ)) → sum_of e ≢ pos 0 → mean_colour (neg_edges e) colours ≡ mean_colour e colours
colour_neg e colours some = rw (
  mean_neg e (channel colours 0 0) (channel colours 1 0) (channel colours 2 0) some,
  mean_neg e (channel colours 0 1) (channel colours 1 1) (channel colours 2 1) some,
  mean_neg e (channel colours 0 2) (channel colours 1 2) (channel colours 2 2) some,
)

-- ---- the hit
judged_neg_by : (lens : Lens) (volume : ℤ) (e : Edges) (colours : List (List ℕ)) (inside deep : Bool) → is_inside volume e ≡ inside → is_in_depth lens (depth_of lens volume e) ≡ deep → (is_inside volume e ≡ true → sum_of e ≢ pos 0) → judged lens (neg_ℤ volume) (neg_edges e) colours ≡ judged lens volume e colours
judged_neg_by lens volume e colours false deep h g some =
    judged_outside lens (neg_ℤ volume) (neg_edges e) colours (inside_neg volume e ∙ h)
    ∙ sym (judged_outside lens volume e colours h)
judged_neg_by lens volume e colours true false h g some =
    judged_too_deep lens (neg_ℤ volume) (neg_edges e) colours (inside_neg volume e ∙ h) (ap (is_in_depth lens) (depth_neg lens volume e (some h)) ∙ g)
    ∙ sym (judged_too_deep lens volume e colours h g)
judged_neg_by lens volume e colours true true h g some =
    judged_seen lens (neg_ℤ volume) (neg_edges e) colours (inside_neg volume e ∙ h) (ap (is_in_depth lens) (depth_neg lens volume e (some h)) ∙ g)
    ∙ (rw (depth_neg lens volume e (some h), colour_neg e colours (some h)))
    ∙ sym (judged_seen lens volume e colours h g)

judged_neg : (lens : Lens) (volume : ℤ) (e : Edges) (colours : List (List ℕ)) → (is_inside volume e ≡ true → sum_of e ≢ pos 0) → judged lens (neg_ℤ volume) (neg_edges e) colours ≡ judged lens volume e colours
judged_neg lens volume e colours some = judged_neg_by lens volume e colours _ _ refl refl some

-- ---- turned where the determinant is below 0
-- the number, with its sign turned or not
abbrev flip : Bool → ℤ → ℤ
flip is_back z = if is_back then neg_ℤ z else z

abbrev pub turned_edges : ℤ → Edges → Edges
turned_edges volume e = record { e0 = turned volume e.e0; e1 = turned volume e.e1; e2 = turned volume e.e2 }

judged_flip : (is_back : Bool) (lens : Lens) (volume : ℤ) (e : Edges) (colours : List (List ℕ)) → (is_inside volume e ≡ true → sum_of e ≢ pos 0) → judged lens (flip is_back volume) (record { e0 = flip is_back e.e0; e1 = flip is_back e.e1; e2 = flip is_back e.e2 }) colours ≡ judged lens volume e colours
judged_flip true lens volume e colours some = judged_neg lens volume e colours some
judged_flip false lens volume e colours some = refl

pub judged_turned : (lens : Lens) (volume : ℤ) (e : Edges) (colours : List (List ℕ)) → (is_inside volume e ≡ true → sum_of e ≢ pos 0) → judged lens (turned volume volume) (turned_edges volume e) colours ≡ judged lens volume e colours
judged_turned lens volume e colours some = judged_flip (int_lt volume (pos 0)) lens volume e colours some

above_neg : (volume : ℤ) → int_lt volume (pos 0) ≡ true → pos 0 <ℤ neg_ℤ volume
above_neg volume h = grind (arith, ints)

above : (volume : ℤ) → int_lt volume (pos 0) ≡ false → volume ≢ pos 0 → pos 0 <ℤ volume
above volume h some = let low : pos 0 ≤ℤ volume = grind (arith, ints) in omega (arith, ints, some)

above_flip : (is_back : Bool) (volume : ℤ) → int_lt volume (pos 0) ≡ is_back → volume ≢ pos 0 → pos 0 <ℤ flip is_back volume
above_flip true volume h some = above_neg volume h
above_flip false volume h some = above volume h some

-- the determinant, turned where it is below 0, is above it
pub turned_above : (volume : ℤ) → volume ≢ pos 0 → pos 0 <ℤ turned volume volume
turned_above volume some = above_flip (int_lt volume (pos 0)) volume refl some

size_neg : (volume : ℤ) → int_lt volume (pos 0) ≡ true → neg_ℤ volume ≡ pos (unsigned_abs volume)
size_neg volume h = let some : pos 0 <ℤ neg_ℤ volume = above_neg volume h in omega (arith, ints)

size : (volume : ℤ) → int_lt volume (pos 0) ≡ false → volume ≡ pos (unsigned_abs volume)
size volume h = let low : pos 0 ≤ℤ volume = grind (arith, ints) in omega (arith, ints)

size_flip : (is_back : Bool) (volume : ℤ) → int_lt volume (pos 0) ≡ is_back → flip is_back volume ≡ pos (unsigned_abs volume)
size_flip true volume h = size_neg volume h
size_flip false volume h = size volume h

-- and then it is its magnitude
pub turned_size : (volume : ℤ) → turned volume volume ≡ pos (unsigned_abs volume)
turned_size volume = size_flip (int_lt volume (pos 0)) volume refl

weighed_neg : (volume a b c x y z k : ℤ) → a *ℤ x +ℤ b *ℤ y +ℤ c *ℤ z ≡ volume *ℤ k → neg_ℤ a *ℤ x +ℤ neg_ℤ b *ℤ y +ℤ neg_ℤ c *ℤ z ≡ neg_ℤ volume *ℤ k
weighed_neg volume a b c x y z k e = omega (arith, order, e, neg-mul a x, neg-mul b y, neg-mul c z, neg-mul volume k)

weighed_flip : (is_back : Bool) (volume : ℤ) (e : Edges) (u v w d : Point) → weighed e u v w ≡ scaled volume d → weighed (record { e0 = flip is_back e.e0; e1 = flip is_back e.e1; e2 = flip is_back e.e2 }) u v w ≡ scaled (flip is_back volume) d
weighed_flip true volume e u v w d h = point_same (scaled (neg_ℤ volume) d) _ _ _
    (weighed_neg volume e.e0 e.e1 e.e2 u.x v.x w.x d.x (ap (λ (p : Point). p.x) h))
    (weighed_neg volume e.e0 e.e1 e.e2 u.y v.y w.y d.y (ap (λ (p : Point). p.y) h))
    (weighed_neg volume e.e0 e.e1 e.e2 u.z v.z w.z d.z (ap (λ (p : Point). p.z) h))
weighed_flip false volume e u v w d h = h

-- the edge values weigh the vertices as before
pub weighed_turned : (volume : ℤ) (e : Edges) (u v w d : Point) → weighed e u v w ≡ scaled volume d → weighed (turned_edges volume e) u v w ≡ scaled (turned volume volume) d
weighed_turned volume e u v w d h = weighed_flip (int_lt volume (pos 0)) volume e u v w d h
