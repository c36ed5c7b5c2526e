-- Hits that lie behind what is drawn.
use Rattle.std.proofs.Common.{◌≡◌, ℕ, ◌+◌, ◌<◌, ◌≤◌, Bool, true, false, cond, List, [], Option, Some, None, option_map, refl, ap, arith}
use Rattle.std.specs.Prelude.{nat_lt}
use Rattle.std.proofs.lemmas.Bool.Decides.{nat_tests}
use Rattle.fx_math.specs.declared.lenses.Lens.{Lens}
use Rattle.tri_cover.specs.declared.hit.Hit.{Hit}
use Rattle.tri_cover.specs.Hits.{hit}
use Rattle.tri_cover.specs.Glass.{blend}
use Rattle.tri_cover.specs.Picture.{Fragment, is_hidden}
use Rattle.depth_raster.specs.Faces.{fragment_in, glazed_by_hit}
use Rattle.depth_raster.specs.Marks.{goes_before, mark_of, mark_with, mark_over, behind_as}
use Rattle.depth_raster.specs.declared.faces.Face.{Face}
use Rattle.depth_raster.specs.declared.marks.Mark.{Mark}

not_before : (m n : Mark) → m.depth < n.depth → goes_before n m ≡ false
not_before m n l = grind (arith, nat_tests)

-- each hit of the face at the pixel lies behind the depth
abbrev pub IsDeep : Lens → (px py : ℕ) → Face → (depth : ℕ) → Type 0
IsDeep lens px py f depth = (h : Hit) → hit lens px py [] f.tri ≡ Some h → depth + 1 + f.shift ≤ h.depth

-- where there is a hit behind a mark, or none, the mark stays
pub with_deep : (f : Face) (m : Mark) (o : Option Hit) → ((h : Hit) → o ≡ Some h → m.depth + 1 + f.shift ≤ h.depth) → mark_with m (option_map (mark_of f) o) ≡ m
with_deep f m None deep = refl
with_deep f m (Some h) deep = ap (λ (t : Bool). cond t (mark_of f h) m) (not_before m (mark_of f h) (let d = deep h refl in omega (arith, d)))

pub deep_marked : (lens : Lens) (px py : ℕ) (f : Face) (m : Mark) → IsDeep lens px py f m.depth → mark_over lens px py f m ≡ m
unfolding mark_over
deep_marked lens px py f m deep = with_deep f m (hit lens px py [] f.tri) deep

-- ---- glass
hidden_deep : (m : Mark) (g : Fragment) → m.depth < g.key.depth → g.key.depth < 2147483648 → is_hidden (behind_as m) g ≡ true
hidden_deep m g l small = by (nat_lt m.depth 2147483648) refl
  where
    by : (t : Bool) → t ≡ nat_lt m.depth 2147483648 → is_hidden (cond t (Some (record { key = record { depth = m.depth; place = m.place; number = m.number }; colour = [] })) None) g ≡ true
    by true e = grind (arith, nat_tests)
    by false e = let below : nat_lt m.depth 2147483648 ≡ true = grind (arith, nat_tests) in cc

not_hidden : (m : Mark) (g : Fragment) → g.key.depth ≤ m.depth → is_hidden (behind_as m) g ≡ false
not_hidden m g l = by (nat_lt m.depth 2147483648)
  where
    by : (t : Bool) → is_hidden (cond t (Some (record { key = record { depth = m.depth; place = m.place; number = m.number }; colour = [] })) None) g ≡ false
    by true = grind (arith, nat_tests)
    by false = refl

-- glass behind a mark, or none, leaves what is under it
pub glazed_deep : (f : Face) (m : Mark) (o : Option Hit) (under : List ℕ) → ((h : Hit) → o ≡ Some h → m.depth + 1 + f.shift ≤ h.depth) → ((h : Hit) → o ≡ Some h → h.depth < 2147483648) → glazed_by_hit f (behind_as m) o under ≡ under
glazed_deep f m None under deep small = refl
glazed_deep f m (Some h) under deep small =
    let d = deep h refl in
    let s = small h refl in
    ap (λ (t : Bool). cond t under (blend f.alpha h.colour under)) (hidden_deep m (fragment_in f h) (omega (arith, d)) (omega (arith, s)))

-- glass on a mark or before it is seen
pub glazed_seen : (f : Face) (m : Mark) (h : Hit) (under : List ℕ) → h.depth < m.depth + 1 + f.shift → glazed_by_hit f (behind_as m) (Some h) under ≡ blend f.alpha h.colour under
glazed_seen f m h under l = ap (λ (t : Bool). cond t under (blend f.alpha h.colour under)) (not_hidden m (fragment_in f h) (omega (arith, l)))
