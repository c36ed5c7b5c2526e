-- The least depth of a triangle's hits, and tiles that lie before it.
use Rattle.std.proofs.Common.{◌≡◌, ◌≢◌, ℕ, ◌+◌, ◌-◌, ◌<◌, ◌≤◌, Bool, true, false, List, Option, Some, refl, ap, sym, ◌∙◌, arith, ⊎_elim}
use Rattle.std.specs.Prelude.{ℤ, pos, ◌≤ℤ◌, ◌<ℤ◌, unsigned_abs}
use Rattle.std.specs.Option.{option_map_or}
use Rattle.std.proofs.lemmas.Bool.{cases_lt}
use Rattle.std.proofs.lemmas.Int.{ints}
use Rattle.fx_math.specs.Plain.{Point}
use Rattle.fx_math.specs.Laws.{weighed, scaled}
use Rattle.fx_math.specs.Hit.{Edges, edges, det3, ray, is_inside, is_in_depth, depth_of}
use Rattle.fx_math.specs.declared.lenses.Lens.{Lens}
use Rattle.fx_math.proofs.Cramer.{cramer}
use Rattle.tri_cover.specs.Edges.{are_not_below_zero}
use Rattle.tri_cover.specs.Extents.{IsInside}
use Rattle.tri_cover.specs.Hits.{vertex, judged}
use Rattle.tri_cover.specs.Normals.{turned}
use Rattle.tri_cover.specs.declared.hit.Hit.{Hit}
use Rattle.tri_cover.proofs.Depths.{depth_at_least}
use Rattle.tri_cover.proofs.Judgement.{judged_outside, judged_too_deep, judged_seen, IsSeenDepth, seen_depth}
use Rattle.tri_cover.proofs.Signs.{inside_above, inside_flat}
use Rattle.tri_cover.proofs.Turned.{turned_edges, judged_turned, turned_above, weighed_turned}
use Rattle.tri_cover.proofs.Weights.{seen_pixel}
use Rattle.depth_raster.specs.Blocks.{IsBlockOf}
use Rattle.depth_raster.specs.Pieces.{IsLeast}
use Rattle.depth_raster.specs.Tiles.{IsBehind}
use Rattle.depth_raster.specs.declared.blocks.Block.{Block}
use Rattle.depth_raster.specs.declared.faces.Face.{Face}

-- ---- the parts of a hit
record IsJudged (lens : Lens) (volume : ℤ) (e : Edges) (h : Hit) : Type 0 where
  inside : is_inside volume e ≡ true
  depth : pos h.depth ≡ depth_of lens volume e

magnitude : (z : ℤ) (n : ℕ) → IsSeenDepth z → n ≡ unsigned_abs z → pos n ≡ z
magnitude z n is same = omega (arith, ints, is.low, same)

judged_parts : (lens : Lens) (volume : ℤ) (e : Edges) (colours : List (List ℕ)) (h : Hit) → judged lens volume e colours ≡ Some h → IsJudged lens volume e h
judged_parts lens volume e colours h hits = by (is_inside volume e) refl (is_in_depth lens (depth_of lens volume e)) refl
  where
    by : (t : Bool) → t ≡ is_inside volume e → (s : Bool) → s ≡ is_in_depth lens (depth_of lens volume e) → IsJudged lens volume e h
    by false is s in_depth = let none = judged_outside lens volume e colours (sym is) in cc
    by true is false in_depth = let none = judged_too_deep lens volume e colours (sym is) (sym in_depth) in cc
    by true is true in_depth =
        let some = judged_seen lens volume e colours (sym is) (sym in_depth) in
        record {
          inside = sym is;
          depth = magnitude (depth_of lens volume e) h.depth (seen_depth lens (depth_of lens volume e) (sym in_depth))
              (ap (λ (o : Option Hit). option_map_or (λ i. i.depth) o 0) (sym hits ∙ some));
        }

-- ---- the depth of a hit is at least that of a vertex
signs : (e : Edges) → are_not_below_zero e ≡ true → (pos 0 ≤ℤ e.e0) × (pos 0 ≤ℤ e.e1) × (pos 0 ≤ℤ e.e2)
signs e h = grind (arith, ints)

judged_deep : (lens : Lens) (px py : ℕ) (u v w : Point) (colours : List (List ℕ)) (volume : ℤ) (e : Edges) (h : Hit) (l : ℕ) → px < lens.w → py < lens.h → pos 0 <ℤ volume → weighed e u v w ≡ scaled volume (ray lens px py)
    → judged lens volume e colours ≡ Some h → pos l ≤ℤ u.y → pos l ≤ℤ v.y → pos l ≤ℤ w.y → l ≤ h.depth
judged_deep lens px py u v w colours volume e h l column row above mean hits a b c =
    let parts = judged_parts lens volume e colours h hits in
    let s = signs e (sym (inside_above volume e above) ∙ parts.inside) in
    let inside : IsInside lens px py u v w volume e = record { in_row = column; in_picture = row; volume_above = above; e0_above = s.0; e1_above = s.1; e2_above = s.2; mean = mean } in
    let least = depth_at_least lens px py u v w volume e (pos l) inside a b c in
    omega (arith, ints, parts.depth, least)

not_flat : (volume : ℤ) (e : Edges) → is_inside volume e ≡ true → volume ≢ pos 0
not_flat volume e inside flat = let outside = inside_flat volume e (omega (arith, ints, flat)) (omega (arith, ints, flat)) in cc

hit_deep : (lens : Lens) (px py : ℕ) (u v w : Point) (colours : List (List ℕ)) (h : Hit) (l : ℕ) → px < lens.w → py < lens.h
    → judged lens (det3 u v w) (edges (ray lens px py) u v w) colours ≡ Some h → pos l ≤ℤ u.y → pos l ≤ℤ v.y → pos l ≤ℤ w.y → l ≤ h.depth
hit_deep lens px py u v w colours h l column row hits a b c =
    let volume = det3 u v w in
    let e = edges (ray lens px py) u v w in
    let parts = judged_parts lens volume e colours h hits in
    judged_deep lens px py u v w colours (turned volume volume) (turned_edges volume e) h l column row
    (turned_above volume (not_flat volume e parts.inside))
    (weighed_turned volume e u v w (ray lens px py) (cramer (ray lens px py) u v w))
    (judged_turned lens volume e colours (seen_pixel lens px py u v w volume e refl refl) ∙ hits)
    a b c

-- a depth that is 0, or at most that of each vertex
pub least_of : (f : Face) (l least : ℕ) → (0 < l → pos l ≤ℤ (vertex f.tri 0).y) → (0 < l → pos l ≤ℤ (vertex f.tri 1).y) → (0 < l → pos l ≤ℤ (vertex f.tri 2).y) → least ≡ l - f.shift → IsLeast f least
least_of f l least a b c is lens px py h column row hits =
    let deep : l ≤ h.depth = ⊎_elim
    (λ some. hit_deep lens px py (vertex f.tri 0) (vertex f.tri 1) (vertex f.tri 2) f.tri.c h l column row hits (a some) (b some) (c some))
    (λ none. omega (arith, none))
    (cases_lt 0 l) in
    omega (arith, is, deep)

-- ---- a tile all of whose marks lie before it
pub least_behind : (lens : Lens) (f : Face) (b : Block) (least top : ℕ) → IsLeast f least → IsBlockOf lens b → top < least → IsBehind lens f b top
least_behind lens f b least top is within before q r h column row hits =
    let deep = is lens (b.left + q) (b.first + r) h (omega (arith, column, within.columns)) (omega (arith, row, within.rows)) hits in
    omega (arith, deep, before)
