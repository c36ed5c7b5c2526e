-- The hits of a face are those of its triangle.
use Rattle.std.proofs.Common.{◌≡◌, ◌≢◌, ℕ, ◌+◌, ◌*◌, ◌/◌, ◌<◌, Bool, true, false, ◌&&◌, if◌then◌else◌, Some, None, List, sym, ap, ◌∙◌, subst, arith, refl}
use Rattle.std.specs.Prelude.{ℤ, pos, ◌+ℤ◌, ◌*ℤ◌, ◌<ℤ◌, ◌≤ℤ◌, int_lt, unsigned_abs}
use Rattle.std.proofs.lemmas.Int.{ints}
use Rattle.fx_math.specs.Plain.{Point}
use Rattle.fx_math.specs.Fixed.{floor_div}
use Rattle.fx_math.specs.declared.lenses.Lens.{Lens}
use Rattle.fx_math.specs.Laws.{weighed, scaled}
use Rattle.fx_math.specs.Hit.{Edges, edges, sum_of, det3, ray, is_in_depth, depth_of}
use Rattle.fx_math.proofs.Cramer.{cramer}
use Rattle.tri_cover.specs.declared.face.Face.{Face}
use Rattle.tri_cover.specs.Edges.{are_not_below_zero}
use Rattle.tri_cover.specs.Hits.{mean, mean_colour, channel, judged, hit_of}
use Rattle.tri_cover.specs.Linears.{value_at, weight_at}
use Rattle.tri_cover.specs.Extents.{IsInside, IsSeenIn, IsExtentOf}
use Rattle.tri_cover.specs.Faces.{is_in_box, is_seen_at, is_covered, depth_at, channel_at, colour_at, face_hit}
use Rattle.tri_cover.specs.Planes.{cross, AreEdgesOf}
use Rattle.tri_cover.specs.Normals.{turned}
use Rattle.tri_cover.proofs.Signs.{inside_above, inside_flat}
use Rattle.tri_cover.proofs.Judgement.{judged_outside, judged_too_deep, judged_seen}
use Rattle.tri_cover.proofs.Weights.{seen_pixel}
use Rattle.tri_cover.proofs.Turned.{turned_edges, judged_turned, turned_above, turned_size, weighed_turned}
use Rattle.tri_cover.proofs.EdgeLines.{values_at, values_turned, total_value}
use Rattle.tri_cover.proofs.Depths.{sum_above}

-- ---- the three tests
all_true : {X : Type 0} (a b c : Bool) (x : X) → a ≡ true → b ≡ true → c ≡ true → (if a && b && c then Some x else None) ≡ Some x
all_true true true true x p q r = refl
all_true true true false x p q r = cc
all_true true false c x p q r = cc
all_true false b c x p q r = cc

second_false : {X : Type 0} (a b c : Bool) (x : X) → b ≡ false → (if a && b && c then Some x else None) ≡ None
second_false true false c x p = refl
second_false false false c x p = refl
second_false a true c x p = cc

third_false : {X : Type 0} (a b c : Bool) (x : X) → c ≡ false → (if a && b && c then Some x else None) ≡ None
third_false true true false x p = refl
third_false true false false x p = refl
third_false false b false x p = refl
third_false a b true x p = cc

pub shown : (f : Face) (px py : ℕ) → is_in_box f.extent px py ≡ true → is_covered f px py ≡ true → is_seen_at f.extent (depth_at f px py) ≡ true → face_hit f px py ≡ Some (record { depth = depth_at f px py; colour = colour_at f px py })
unfolding face_hit
shown f px py p q r = all_true (is_in_box f.extent px py) (is_covered f px py) (is_seen_at f.extent (depth_at f px py)) _ p q r

pub not_covered : (f : Face) (px py : ℕ) → is_covered f px py ≡ false → face_hit f px py ≡ None
unfolding face_hit
not_covered f px py q = second_false (is_in_box f.extent px py) (is_covered f px py) (is_seen_at f.extent (depth_at f px py)) _ q

pub not_seen : (f : Face) (px py : ℕ) → is_seen_at f.extent (depth_at f px py) ≡ false → face_hit f px py ≡ None
unfolding face_hit
not_seen f px py r = third_false (is_in_box f.extent px py) (is_covered f px py) (is_seen_at f.extent (depth_at f px py)) _ r

-- ---- depth and colour in whole numbers
depth_whole : (lens : Lens) (n s : ℕ) (volume : ℤ) (e : Edges) → volume ≡ pos n → sum_of e ≡ pos s → depth_of lens volume e ≡ pos (2 * lens.f * n / s)
unfolding depth_of floor_div
depth_whole lens n s volume e p q =
    ap (λ (d : ℤ). floor_div (pos (2 * lens.f) *ℤ volume) d) q ∙ ap (λ (v : ℤ). floor_div (pos (2 * lens.f) *ℤ v) (pos s)) p

mean_whole : (e : Edges) (c0 c1 c2 a b c s : ℕ) → e.e0 ≡ pos a → e.e1 ≡ pos b → e.e2 ≡ pos c → sum_of e ≡ pos s → mean e c0 c1 c2 ≡ (c0 * a + c1 * b + c2 * c) / s
unfolding mean floor_div
mean_whole e c0 c1 c2 a b c s i j k h =
    ap (λ (d : ℤ). unsigned_abs (floor_div (pos c0 *ℤ e.e0 +ℤ pos c1 *ℤ e.e1 +ℤ pos c2 *ℤ e.e2) d)) h
    ∙ ap (λ (z : ℤ). unsigned_abs (floor_div (pos c0 *ℤ z +ℤ pos c1 *ℤ e.e1 +ℤ pos c2 *ℤ e.e2) (pos s))) i
    ∙ ap (λ (z : ℤ). unsigned_abs (floor_div (pos c0 *ℤ pos a +ℤ pos c1 *ℤ z +ℤ pos c2 *ℤ e.e2) (pos s))) j
    ∙ ap (λ (z : ℤ). unsigned_abs (floor_div (pos c0 *ℤ pos a +ℤ pos c1 *ℤ pos b +ℤ pos c2 *ℤ z) (pos s))) k

whole : (z : ℤ) → pos 0 ≤ℤ z → z ≡ pos (unsigned_abs z)
whole z h = omega (arith, ints)

above_whole : (z : ℤ) → pos 0 <ℤ z → z ≡ pos (unsigned_abs z)
above_whole z h = omega (arith, ints)

lt_true : (z : ℤ) → pos 0 <ℤ z → int_lt (pos 0) z ≡ true
lt_true z h = grind (arith, ints)

and_true : (a b : Bool) → a ≡ true → b ≡ true → (a && b) ≡ true
and_true true true p q = refl
and_true true false p q = cc
and_true false b p q = cc

and_false : (a b : Bool) → a ≡ false → (a && b) ≡ false
and_false false b p = refl
and_false true b p = cc

signs_above : (e : Edges) → are_not_below_zero e ≡ true → (pos 0 ≤ℤ e.e0) × (pos 0 ≤ℤ e.e1) × (pos 0 ≤ℤ e.e2)
signs_above e h = grind (arith, ints)

-- ---- a pixel at which the edge values and the determinant have been turned
-- the face's numbers are those of the triangle, at this pixel
record IsMadeOf (lens : Lens) (px py : ℕ) (volume : ℤ) (f : Face) : Type 0 where
  volume_above : pos 0 <ℤ volume
  dividend_is : f.dividend ≡ 2 * lens.f * unsigned_abs volume
  seen : are_not_below_zero (values_at f.edges px py) ≡ true → IsSeenIn lens f.extent px py (depth_of lens volume (values_at f.edges px py))
  sum : are_not_below_zero (values_at f.edges px py) ≡ true → pos 0 <ℤ sum_of (values_at f.edges px py)

sum_value : (f : Face) (px py : ℕ) → value_at f.edges.sum px py ≡ sum_of (values_at f.edges px py)
sum_value f px py = total_value f.edges.e0 f.edges.e1 f.edges.e2 f.edges.sum px py f.edges.total

covered_is : (f : Face) (px py : ℕ) → are_not_below_zero (values_at f.edges px py) ≡ true → pos 0 <ℤ sum_of (values_at f.edges px py) → is_covered f px py ≡ true
covered_is f px py h some =
    and_true (are_not_below_zero (values_at f.edges px py)) (int_lt (pos 0) (value_at f.edges.sum px py)) h
    (ap (λ (z : ℤ). int_lt (pos 0) z) (sum_value f px py) ∙ lt_true (sum_of (values_at f.edges px py)) some)

uncovered_is : (f : Face) (px py : ℕ) → are_not_below_zero (values_at f.edges px py) ≡ false → is_covered f px py ≡ false
uncovered_is f px py h = and_false (are_not_below_zero (values_at f.edges px py)) (int_lt (pos 0) (value_at f.edges.sum px py)) h

depth_is : (lens : Lens) (volume : ℤ) (f : Face) (px py : ℕ) → IsMadeOf lens px py volume f → are_not_below_zero (values_at f.edges px py) ≡ true → depth_of lens volume (values_at f.edges px py) ≡ pos (depth_at f px py)
depth_is lens volume f px py made h =
    let sum : sum_of (values_at f.edges px py) ≡ pos (weight_at f.edges.sum px py) =
    above_whole _ (made.sum h) ∙ ap (λ (z : ℤ). pos (unsigned_abs z)) (sym (sum_value f px py)) in
    depth_whole lens (unsigned_abs volume) (weight_at f.edges.sum px py) volume (values_at f.edges px py) (above_whole volume made.volume_above) sum
    ∙ ap (λ (n : ℕ). pos (n / weight_at f.edges.sum px py)) (sym made.dividend_is)

colour_is : (lens : Lens) (volume : ℤ) (f : Face) (px py : ℕ) → IsMadeOf lens px py volume f → are_not_below_zero (values_at f.edges px py) ≡ true → mean_colour (values_at f.edges px py) f.colours ≡ colour_at f px py
colour_is lens volume f px py made h = rw (channel_is 0, channel_is 1, channel_is 2)
  where
    e : Edges
    e = values_at f.edges px py

    sum : sum_of e ≡ pos (weight_at f.edges.sum px py)
    sum = above_whole _ (made.sum h) ∙ ap (λ (z : ℤ). pos (unsigned_abs z)) (sym (sum_value f px py))

    signs : (pos 0 ≤ℤ e.e0) × (pos 0 ≤ℤ e.e1) × (pos 0 ≤ℤ e.e2)
    signs = signs_above e h

    channel_is : (i : ℕ) → mean e (channel f.colours 0 i) (channel f.colours 1 i) (channel f.colours 2 i) ≡ channel_at f px py i
    channel_is i = mean_whole e (channel f.colours 0 i) (channel f.colours 1 i) (channel f.colours 2 i) (weight_at f.edges.e0 px py) (weight_at f.edges.e1 px py) (weight_at f.edges.e2 px py) (weight_at f.edges.sum px py) (whole _ signs.0) (whole _ signs.1) (whole _ signs.2) sum

made_hit : (inside deep : Bool) (lens : Lens) (volume : ℤ) (f : Face) (px py : ℕ) → are_not_below_zero (values_at f.edges px py) ≡ inside → is_in_depth lens (depth_of lens volume (values_at f.edges px py)) ≡ deep → IsMadeOf lens px py volume f → judged lens volume (values_at f.edges px py) f.colours ≡ face_hit f px py
made_hit false deep lens volume f px py h g made =
    judged_outside lens volume (values_at f.edges px py) f.colours (inside_above volume (values_at f.edges px py) made.volume_above ∙ h)
    ∙ sym (not_covered f px py (uncovered_is f px py h))
made_hit true false lens volume f px py h g made =
    judged_too_deep lens volume (values_at f.edges px py) f.colours (inside_above volume (values_at f.edges px py) made.volume_above ∙ h) g
    ∙ sym (not_seen f px py (ap (λ (z : ℤ). is_seen_at f.extent (unsigned_abs z)) (sym (depth_is lens volume f px py made h)) ∙ sym (made.seen h).seen ∙ g))
made_hit true true lens volume f px py h g made =
    judged_seen lens volume (values_at f.edges px py) f.colours (inside_above volume (values_at f.edges px py) made.volume_above ∙ h) g
    ∙ (rw (depth_is lens volume f px py made h, colour_is lens volume f px py made h))
    ∙ sym (shown f px py (made.seen h).in_box (covered_is f px py h (made.sum h))
    (ap (λ (z : ℤ). is_seen_at f.extent (unsigned_abs z)) (sym (depth_is lens volume f px py made h)) ∙ sym (made.seen h).seen ∙ g))

-- ---- the whole triangle
-- a pixel at which no turned edge value is below 0 is inside
inside_turned : (lens : Lens) (u v w : Point) (volume : ℤ) (px py : ℕ) (e : Edges) → volume ≡ det3 u v w → volume ≢ pos 0 → px < lens.w → py < lens.h → e ≡ turned_edges volume (edges (ray lens px py) u v w) → are_not_below_zero e ≡ true → IsInside lens px py u v w (turned volume volume) e
inside_turned lens u v w volume px py e same some in_row in_picture values h = record {
  in_row = in_row;
  in_picture = in_picture;
  volume_above = turned_above volume some;
  e0_above = (signs_above e h).0;
  e1_above = (signs_above e h).1;
  e2_above = (signs_above e h).2;
  mean = subst (λ (x : Edges). weighed x u v w ≡ scaled (turned volume volume) (ray lens px py)) (sym values)
      (weighed_turned volume (edges (ray lens px py) u v w) u v w (ray lens px py)
      (subst (λ (z : ℤ). weighed (edges (ray lens px py) u v w) u v w ≡ scaled z (ray lens px py)) (sym same) (cramer (ray lens px py) u v w)));
}

-- the hit by the turned numbers
hit_turned : (lens : Lens) (u v w : Point) (colours : List (List ℕ)) (volume : ℤ) (px py : ℕ) (e : Edges) → volume ≡ det3 u v w → e ≡ turned_edges volume (edges (ray lens px py) u v w) → judged lens (turned volume volume) e colours ≡ hit_of lens px py u v w colours
hit_turned lens u v w colours volume px py e same values =
    ap (λ (x : Edges). judged lens (turned volume volume) x colours) values
    ∙ judged_turned lens volume (edges (ray lens px py) u v w) colours (seen_pixel lens px py u v w volume (edges (ray lens px py) u v w) same refl)
    ∙ ap (λ (z : ℤ). judged lens z (edges (ray lens px py) u v w) colours) same

pub face_hits : (lens : Lens) (u v w : Point) (f : Face) (volume : ℤ) → volume ≡ det3 u v w → volume ≢ pos 0 → AreEdgesOf lens volume (cross v w) (cross w u) (cross u v) f.edges → f.dividend ≡ 2 * lens.f * unsigned_abs volume → IsExtentOf lens u v w (Some f.extent) → (px py : ℕ) → px < lens.w → py < lens.h → hit_of lens px py u v w f.colours ≡ face_hit f px py
face_hits lens u v w f volume same some is_edges dividend extent px py in_row in_picture =
    sym (hit_turned lens u v w f.colours volume px py (values_at f.edges px py) same values)
    ∙ made_hit _ _ lens (turned volume volume) f px py refl refl (record {
      volume_above = turned_above volume some;
      dividend_is = dividend ∙ ap (λ (z : ℤ). 2 * lens.f * unsigned_abs z) (sym (turned_size volume));
      seen = λ h. extent px py (turned volume volume) (values_at f.edges px py) (inside h);
      sum = λ h. sum_above lens px py u v w (turned volume volume) (values_at f.edges px py) (inside h);
    })
  where
    values : values_at f.edges px py ≡ turned_edges volume (edges (ray lens px py) u v w)
    values = values_turned lens u v w volume f.edges px py is_edges

    inside : are_not_below_zero (values_at f.edges px py) ≡ true → IsInside lens px py u v w (turned volume volume) (values_at f.edges px py)
    inside h = inside_turned lens u v w volume px py (values_at f.edges px py) same some in_row in_picture values h

-- there is no hit where nothing inside is seen
unseen_by : (inside : Bool) (lens : Lens) (u v w : Point) (colours : List (List ℕ)) (volume : ℤ) (px py : ℕ) (e : Edges) → are_not_below_zero e ≡ inside → pos 0 <ℤ volume → (are_not_below_zero e ≡ true → is_in_depth lens (depth_of lens volume e) ≡ false) → judged lens volume e colours ≡ None
unseen_by false lens u v w colours volume px py e h some deep = judged_outside lens volume e colours (inside_above volume e some ∙ h)
unseen_by true lens u v w colours volume px py e h some deep = judged_too_deep lens volume e colours (inside_above volume e some ∙ h) (deep h)

pub unseen_hits : (lens : Lens) (u v w : Point) (colours : List (List ℕ)) (volume : ℤ) → volume ≡ det3 u v w → volume ≢ pos 0 → IsExtentOf lens u v w None → (px py : ℕ) → px < lens.w → py < lens.h → hit_of lens px py u v w colours ≡ None
unseen_hits lens u v w colours volume same some extent px py in_row in_picture =
    let e = turned_edges volume (edges (ray lens px py) u v w) in
    sym (hit_turned lens u v w colours volume px py e same refl)
    ∙ unseen_by _ lens u v w colours (turned volume volume) px py e refl (turned_above volume some)
    (λ h. extent px py (turned volume volume) e (inside_turned lens u v w volume px py e same some in_row in_picture refl h))

-- nor where the determinant is 0
pub flat_hits : (lens : Lens) (u v w : Point) (colours : List (List ℕ)) (volume : ℤ) → volume ≡ det3 u v w → volume ≡ pos 0 → (px py : ℕ) → hit_of lens px py u v w colours ≡ None
flat_hits lens u v w colours volume same flat px py =
    let zero : det3 u v w ≡ pos 0 = sym same ∙ flat in
    judged_outside lens (det3 u v w) (edges (ray lens px py) u v w) colours
    (inside_flat (det3 u v w) (edges (ray lens px py) u v w) (omega (arith, ints, zero)) (omega (arith, ints, zero)))
