-- Faces at pixels: what their tests tell of their hits.
use Rattle.std.proofs.Common.{◌≡◌, ℕ, ◌/◌, ◌<◌, ◌≤◌, Bool, true, false, cond, Option, Some, None, refl, ap, sym, ◌∙◌, subst, arith, ⊎_elim}
use Rattle.std.specs.Prelude.{ℤ, pos, ◌≤ℤ◌, int_le, int_lt, nat_le, ◌&&◌, ◌↔◌, IsTrue, unsigned_abs}
use Rattle.std.specs.Option.{option_map_or, IfSome, IfNone}
use Rattle.std.proofs.lemmas.Bool.{and_parts, both_ways, cases_lt}
use Rattle.std.proofs.lemmas.Bool.Decides.{nat_tests}
use Rattle.std.proofs.lemmas.Int.{ints}
use Rattle.tri_cover.specs.Faces.{is_in_box, is_covered, is_seen_at, depth_at, colour_at, face_hit}
use Rattle.tri_cover.specs.Linears.{value_at, weight_at}
use Rattle.tri_cover.specs.declared.face.Face.{Face}
use Rattle.tri_cover.specs.declared.hit.Hit.{Hit}
use Rattle.tri_cover.proofs.EdgeLines.{total_value}
use Rattle.edge_values.specs.Seen.{IsSeenBefore}
use Rattle.edge_values.specs.declared.depths.Depths.{Depths}
use Rattle.depth_raster.specs.Looks.{AreDepthsOf, IsSeen, IsDepthAt}
use Rattle.depth_raster.specs.Weighed.{AreInnerAt, IsInnerSumAt}

-- ---- the parts of a hit
pub record IsHitOf (f : Face) (px py : ℕ) (h : Hit) : Type 0 where
  pub inside : is_in_box f.extent px py ≡ true
  pub covered : is_covered f px py ≡ true
  pub near : f.extent.near ≤ depth_at f px py
  pub far : depth_at f px py ≤ f.extent.far
  pub depth : h.depth ≡ depth_at f px py
  pub colour : h.colour ≡ colour_at f px py

at_most : (m n : ℕ) → nat_le m n ≡ true → m ≤ n
at_most m n h = grind (arith, nat_tests)

three : (a b c : Bool) → (a && b && c) ≡ true → (a ≡ true) × (b ≡ true) × (c ≡ true)
three a b c h =
    let rest : (a && b ≡ true) × (c ≡ true) = and_parts (a && b) c h in
    let first : (a ≡ true) × (b ≡ true) = and_parts a b rest.0 in
    (first.0, first.1, rest.1)

pub hit_parts : (f : Face) (px py : ℕ) (h : Hit) → face_hit f px py ≡ Some h → IsHitOf f px py h
unfolding face_hit
hit_parts f px py h hits = by (is_in_box f.extent px py && is_covered f px py && is_seen_at f.extent (depth_at f px py)) refl hits
  where
    here : Hit
    here = record { depth = depth_at f px py; colour = colour_at f px py }

    by : (t : Bool) → (is_in_box f.extent px py && is_covered f px py && is_seen_at f.extent (depth_at f px py)) ≡ t → cond t (Some here) None ≡ Some h → IsHitOf f px py h
    by true e is =
        let parts = three (is_in_box f.extent px py) (is_covered f px py) (is_seen_at f.extent (depth_at f px py)) e in
        let seen = and_parts (nat_le f.extent.near (depth_at f px py)) (nat_le (depth_at f px py) f.extent.far) parts.2 in
        let same : h ≡ here = ap (λ (o : Option Hit). option_map_or (λ (i : Hit). i) o here) (sym is) in
        record {
          inside = parts.0;
          covered = parts.1;
          near = at_most f.extent.near (depth_at f px py) seen.0;
          far = at_most (depth_at f px py) f.extent.far seen.1;
          depth = ap (λ (i : Hit). i.depth) same;
          colour = ap (λ (i : Hit). i.colour) same;
        }
    by false e is = cc

pub hit_seen : (f : Face) (px py : ℕ) → is_in_box f.extent px py ≡ true → is_covered f px py ≡ true → f.extent.near ≤ depth_at f px py → depth_at f px py ≤ f.extent.far → face_hit f px py ≡ Some (record { depth = depth_at f px py; colour = colour_at f px py })
unfolding face_hit
hit_seen f px py inside covered near far =
    let seen : is_seen_at f.extent (depth_at f px py) ≡ true = grind (arith, nat_tests) in
    ap (λ (t : Bool). cond (t && is_covered f px py && is_seen_at f.extent (depth_at f px py)) (Some here) None) inside
    ∙ ap (λ (t : Bool). cond (t && is_seen_at f.extent (depth_at f px py)) (Some here) None) covered
    ∙ ap (λ (t : Bool). cond t (Some here) None) seen
  where
    here : Hit
    here = record { depth = depth_at f px py; colour = colour_at f px py }

-- a pixel that is not covered
uncovered_by : (x y z s : ℤ) → (int_le (pos 0) x && int_le (pos 0) y && int_le (pos 0) z && int_lt (pos 0) s) ≡ true → (pos 0 ≤ℤ x) × (pos 0 ≤ℤ y) × (pos 0 ≤ℤ z) × (pos 1 ≤ℤ s)
uncovered_by x y z s h = (grind (arith, ints), grind (arith, ints), grind (arith, ints), grind (arith, ints))

-- the edge values at a pixel that is covered
pub record IsCoveredAt (f : Face) (px py : ℕ) : Type 0 where
  pub first : pos 0 ≤ℤ value_at f.edges.e0 px py
  pub second : pos 0 ≤ℤ value_at f.edges.e1 px py
  pub third : pos 0 ≤ℤ value_at f.edges.e2 px py
  pub sum : pos 1 ≤ℤ value_at f.edges.sum px py

pub covered_parts : (f : Face) (px py : ℕ) → is_covered f px py ≡ true → IsCoveredAt f px py
covered_parts f px py h =
    let parts = uncovered_by (value_at f.edges.e0 px py) (value_at f.edges.e1 px py) (value_at f.edges.e2 px py) (value_at f.edges.sum px py) h in
    record { first = parts.0; second = parts.1; third = parts.2; sum = parts.3 }

covered_by : (x y z s : ℤ) → pos 0 ≤ℤ x → pos 0 ≤ℤ y → pos 0 ≤ℤ z → pos 1 ≤ℤ s → (int_le (pos 0) x && int_le (pos 0) y && int_le (pos 0) z && int_lt (pos 0) s) ≡ true
covered_by x y z s a b c d = grind (arith, ints)

pub covered_is : (f : Face) (px py : ℕ) → IsCoveredAt f px py → is_covered f px py ≡ true
covered_is f px py is = covered_by (value_at f.edges.e0 px py) (value_at f.edges.e1 px py) (value_at f.edges.e2 px py) (value_at f.edges.sum px py) is.first is.second is.third is.sum

pub uncovered : (f : Face) (px py : ℕ) → is_covered f px py ≡ false → face_hit f px py ≡ None
uncovered f px py h = by (face_hit f px py) refl
  where
    by : (o : Option Hit) → face_hit f px py ≡ o → o ≡ None
    by None e = refl
    by (Some i) e = let covered = (hit_parts f px py i e).covered in absurd (both_ways (is_covered f px py) h covered)

-- ---- a look
abbrev hit_at : Face → (px py depth : ℕ) → Hit
hit_at f px py depth = record { depth = depth; colour = colour_at f px py }

quotient_at : (f : Face) (px py s : ℕ) (t : Depths) → s ≡ weight_at f.edges.sum px py → AreDepthsOf f t → t.dividend / s ≡ depth_at f px py
quotient_at f px py s t is are = ap (λ (n : ℕ). n / s) are.dividend_is ∙ ap (λ (n : ℕ). f.dividend / n) is

-- whether the face is hit before the limit
pub seen : (f : Face) (px py limit s : ℕ) (t : Depths) (b : Bool) → is_in_box f.extent px py ≡ true → is_covered f px py ≡ true → s ≡ weight_at f.edges.sum px py → AreDepthsOf f t
    → (IsTrue b ↔ IsSeenBefore t limit s) → IsSeen f px py limit b
seen f px py limit s t true inside covered is are before =
    let at = before.0 refl in
    let same = quotient_at f px py s t is are in
    (hit_seen f px py inside covered (omega (arith, at.near, same, are.near_is)) (omega (arith, at.far, same, are.far_is)), omega (arith, at.before, same))
seen f px py limit s t false inside covered is are before = λ h hits.
    let parts = hit_parts f px py h hits in
    let same = quotient_at f px py s t is are in ⊎_elim
    (λ below.
    let no : false ≡ true =
    before.1 (record { near = omega (arith, parts.near, same, are.near_is); far = omega (arith, parts.far, same, are.far_is); before = omega (arith, below, parts.depth, same) }) in
    cc)
    (λ above. above)
    (cases_lt h.depth limit)

-- ---- a look where no edge value is below 0
pub missed : (f : Face) (px py : ℕ) → ((h : Hit) → IsHitOf f px py h → ⊥) → face_hit f px py ≡ None
missed f px py never = by (face_hit f px py) refl
  where
    by : (o : Option Hit) → face_hit f px py ≡ o → o ≡ None
    by None e = refl
    by (Some i) e = absurd (never i (hit_parts f px py i e))

inner_sum : (f : Face) (px py s : ℕ) → IsInnerSumAt f px py s → pos s ≡ value_at f.edges.sum px py
inner_sum f px py s is = is.is_sum ∙ sym (total_value f.edges.e0 f.edges.e1 f.edges.e2 f.edges.sum px py f.edges.total)

inner_covered : (f : Face) (px py s : ℕ) → IsInnerSumAt f px py s → 0 < s → is_covered f px py ≡ true
inner_covered f px py s is some = covered_is f px py (record {
  first = is.inner.first_inner;
  second = is.inner.second_inner;
  third = is.inner.third_inner;
  sum = subst (λ (z : ℤ). pos 1 ≤ℤ z) (inner_sum f px py s is) (omega (arith, ints, some));
})

-- a pixel at which an edge value is below 0 is not covered
pub not_inner : (f : Face) (px py : ℕ) → (AreInnerAt f px py → ⊥) → face_hit f px py ≡ None
not_inner f px py never = missed f px py (λ h parts.
    let c = covered_parts f px py parts.covered in
    never (record { first_inner = c.first; second_inner = c.second; third_inner = c.third }))

-- the depth, where it is one at which the face is seen
pub seen_inside : (f : Face) (px py s : ℕ) (t : Depths) (o : Option ℕ) → IsInnerSumAt f px py s → is_in_box f.extent px py ≡ true → AreDepthsOf f t
    → IfSome o (λ d. (0 < s) × (d ≡ t.dividend / s) × (t.near ≤ d) × (d ≤ t.far)) → IfNone o (0 < s → t.near ≤ t.dividend / s → t.far < t.dividend / s) → IsDepthAt f px py o
seen_inside f px py s t None is inside are seen unseen = missed f px py (λ h parts.
    let some : pos 1 ≤ℤ pos s = subst (λ (z : ℤ). pos 1 ≤ℤ z) (sym (inner_sum f px py s is)) (covered_parts f px py parts.covered).sum in
    let same = quotient_at f px py s t (ap unsigned_abs (inner_sum f px py s is)) are in
    omega (arith, parts.far, same, are.far_is, unseen (omega (arith, ints, some)) (omega (arith, parts.near, same, are.near_is))))
seen_inside f px py s t (Some d) is inside are seen unseen =
    let same : d ≡ depth_at f px py = seen.1 ∙ quotient_at f px py s t (ap unsigned_abs (inner_sum f px py s is)) are in
    hit_seen f px py inside (inner_covered f px py s is seen.0) (omega (arith, seen.2, same, are.near_is)) (omega (arith, seen.3, same, are.far_is))
    ∙ ap (λ (n : ℕ). Some (hit_at f px py n)) (sym same)
