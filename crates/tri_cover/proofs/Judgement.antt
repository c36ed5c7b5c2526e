-- The hit by its two tests.
use Rattle.std.proofs.Common.{◌≡◌, ℕ, List, true, false, Some, None, arith, ap, ◌∙◌}
use Rattle.std.specs.Prelude.{ℤ, pos, ◌≤ℤ◌, unsigned_abs}
use Rattle.std.proofs.lemmas.Int.{ints}
use Rattle.fx_math.specs.Plain.{Point}
use Rattle.fx_math.specs.Hit.{Edges, edges, det3, ray, is_inside, is_in_depth, depth_of, is_hit}
use Rattle.fx_math.specs.declared.lenses.Lens.{Lens}
use Rattle.fx_math.specs.Plain.{Matrix}
use Rattle.fx_math.specs.Fixed.{carry}
use Rattle.pf_model.specs.declared.geometry.Tri.{Tri}
use Rattle.tri_cover.specs.Hits.{mean_colour, judged, hit_of, vertex, hit}

pub judged_outside : (lens : Lens) (volume : ℤ) (e : Edges) (colours : List (List ℕ)) → is_inside volume e ≡ false → judged lens volume e colours ≡ None
unfolding judged
judged_outside lens volume e colours h = rw h

pub judged_too_deep : (lens : Lens) (volume : ℤ) (e : Edges) (colours : List (List ℕ)) → is_inside volume e ≡ true → is_in_depth lens (depth_of lens volume e) ≡ false → judged lens volume e colours ≡ None
unfolding judged
judged_too_deep lens volume e colours h g = rw (h, g)

pub judged_seen : (lens : Lens) (volume : ℤ) (e : Edges) (colours : List (List ℕ)) → is_inside volume e ≡ true → is_in_depth lens (depth_of lens volume e) ≡ true → judged lens volume e colours ≡ Some (record { depth = unsigned_abs (depth_of lens volume e); colour = mean_colour e colours })
unfolding judged
judged_seen lens volume e colours h g = rw (h, g)

-- a depth between those of the lens is a coordinate above 0
pub record IsSeenDepth (depth : ℤ) : Type 0 where
  pub low : pos 1 ≤ℤ depth
  pub high : depth ≤ℤ pos 1073741823

pub seen_depth : (lens : Lens) (depth : ℤ) → is_in_depth lens depth ≡ true → IsSeenDepth depth
unfolding is_in_depth
seen_depth lens depth h =
    let low : lens.near ≤ℤ depth = grind (arith, ints) in
    let high : depth ≤ℤ lens.far = grind (arith, ints) in
    record { low = omega (arith, ints, lens.in_range.before_eye, low); high = omega (arith, ints, lens.in_range.most_far, high) }

-- the hit of a triangle is what its determinant and its edge values tell
pub hit_of_is_judged : (lens : Lens) (px py : ℕ) (u v w : Point) (colours : List (List ℕ)) (volume : ℤ) (e : Edges) → volume ≡ det3 u v w → e ≡ edges (ray lens px py) u v w → judged lens volume e colours ≡ hit_of lens px py u v w colours
hit_of_is_judged lens px py u v w colours volume e same_volume same_edges =
    ap (λ (z : ℤ). judged lens z e colours) same_volume ∙ ap (λ (d : Edges). judged lens (det3 u v w) d colours) same_edges

-- there is no hit where the pixel's ray does not meet the triangle between the lens's depths
pub no_hit : (lens : Lens) (px py : ℕ) (steps : List Matrix) (t : Tri) → is_hit lens px py (carry steps (vertex t 0)) (carry steps (vertex t 1)) (carry steps (vertex t 2)) ≡ false → hit lens px py steps t ≡ None
unfolding is_hit judged
no_hit lens px py steps t missed = rw missed
