-- The depths of hits, and glass over marks.
use Rattle.std.proofs.Common.{◌≡◌, ℕ, ◌-◌, ◌<◌, Bool, true, false, cond, List, [], Option, Some, None, option_map, refl, ap, sym, ◌∙◌, arith}
use Rattle.std.specs.Prelude.{ℤ, unsigned_abs, nat_lt}
use Rattle.std.specs.Option.{option_map_or}
use Rattle.std.proofs.lemmas.Bool.Decides.{nat_tests}
use Rattle.std.proofs.lemmas.Int.{ints}
use Rattle.fx_math.specs.Plain.{Matrix}
use Rattle.fx_math.specs.Fixed.{carry}
use Rattle.fx_math.specs.Hit.{Edges, det3, ray, edges, is_inside, is_in_depth, depth_of}
use Rattle.fx_math.specs.declared.lenses.Lens.{Lens}
use Rattle.pf_model.specs.declared.geometry.Tri.{Tri}
use Rattle.tri_cover.specs.declared.hit.Hit.{Hit}
use Rattle.tri_cover.specs.Hits.{vertex, hit, judged}
use Rattle.tri_cover.specs.Glass.{blend}
use Rattle.tri_cover.specs.Picture.{Fragment, is_hidden, glazed}
use Rattle.tri_cover.proofs.Judgement.{judged_outside, judged_too_deep, judged_seen, IsSeenDepth, seen_depth}
use Rattle.depth_raster.specs.declared.faces.Face.{Face}
use Rattle.depth_raster.specs.declared.marks.Mark.{Mark}
use Rattle.depth_raster.specs.Faces.{fragment_in, fragment_by, glazed_by_face}
use Rattle.depth_raster.specs.Marks.{seen_as, behind_as}

small : (z : ℤ) → IsSeenDepth z → unsigned_abs z < 2147483648
small z is = omega (arith, ints, is.low, is.high)

judged_small : (lens : Lens) (volume : ℤ) (e : Edges) (colours : List (List ℕ)) (h : Hit) → judged lens volume e colours ≡ Some h → h.depth < 2147483648
judged_small lens volume e colours h hits = by (is_inside volume e) refl (is_in_depth lens (depth_of lens volume e)) refl
  where
    by : (t : Bool) → t ≡ is_inside volume e → (s : Bool) → s ≡ is_in_depth lens (depth_of lens volume e) → h.depth < 2147483648
    by false is s in_depth = let none = judged_outside lens volume e colours (sym is) in cc
    by true is false in_depth = let none = judged_too_deep lens volume e colours (sym is) (sym in_depth) in cc
    by true is true in_depth =
        let some = judged_seen lens volume e colours (sym is) (sym in_depth) in
        let depth : h.depth ≡ unsigned_abs (depth_of lens volume e) = ap (λ (o : Option Hit). option_map_or (λ i. i.depth) o 0) (sym hits ∙ some) in
        omega (arith, depth, small (depth_of lens volume e) (seen_depth lens (depth_of lens volume e) (sym in_depth)))

-- a hit has a depth below that of nothing
pub hit_small : (lens : Lens) (px py : ℕ) (steps : List Matrix) (t : Tri) (h : Hit) → hit lens px py steps t ≡ Some h → h.depth < 2147483648
hit_small lens px py steps t h hits =
    judged_small lens (det3 (carry steps (vertex t 0)) (carry steps (vertex t 1)) (carry steps (vertex t 2)))
    (edges (ray lens px py) (carry steps (vertex t 0)) (carry steps (vertex t 1)) (carry steps (vertex t 2))) t.c h hits

-- ---- glass
-- whether a mark hides a depth
hidden_by : (m : Mark) (colour : List ℕ) (g : Fragment) → g.key.depth < 2147483648 → is_hidden (seen_as m colour) g ≡ nat_lt m.depth g.key.depth
hidden_by m colour g l = by (nat_lt m.depth 2147483648) refl
  where
    by : (t : Bool) → t ≡ nat_lt m.depth 2147483648 → is_hidden (cond t (Some (record { key = record { depth = m.depth; place = m.place; number = m.number }; colour = colour })) None) g ≡ nat_lt m.depth g.key.depth
    by true e = refl
    by false e = grind (arith, nat_tests)

-- what is behind glass counts by its depth alone
pub glazed_colourless : (m : Mark) (colour under : List ℕ) (alpha : ℕ) (g : Fragment) → glazed (seen_as m colour) alpha under g ≡ glazed (behind_as m) alpha under g
glazed_colourless m colour under alpha g = by (nat_lt m.depth 2147483648)
  where
    by : (t : Bool) → glazed (cond t (Some (record { key = record { depth = m.depth; place = m.place; number = m.number }; colour = colour })) None) alpha under g
        ≡ glazed (cond t (Some (record { key = record { depth = m.depth; place = m.place; number = m.number }; colour = [] })) None) alpha under g
    by true = refl
    by false = refl

pub hit_glazed : (lens : Lens) (px py : ℕ) (f : Face) (m : Mark) (under : List ℕ) (h : Hit) → hit lens px py [] f.tri ≡ Some h → glazed_by_face lens px py f (behind_as m) under ≡ cond (nat_lt m.depth (h.depth - f.shift)) under (blend f.alpha h.colour under)
unfolding glazed_by_face fragment_by
hit_glazed lens px py f m under h hits =
    let below : h.depth < 2147483648 = hit_small lens px py [] f.tri h hits in
    ap (λ (o : Option Hit). option_map_or (glazed (behind_as m) f.alpha under) (option_map (fragment_in f) o) under) hits
    ∙ ap (λ (t : Bool). cond t under (blend f.alpha h.colour under)) (hidden_by m [] (fragment_in f h) (omega (arith, below)))

pub none_glazed : (lens : Lens) (px py : ℕ) (f : Face) (behind : Option Fragment) (under : List ℕ) → hit lens px py [] f.tri ≡ None → glazed_by_face lens px py f behind under ≡ under
unfolding glazed_by_face fragment_by
none_glazed lens px py f behind under missed = ap (λ (o : Option Hit). option_map_or (glazed behind f.alpha under) (option_map (fragment_in f) o) under) missed
