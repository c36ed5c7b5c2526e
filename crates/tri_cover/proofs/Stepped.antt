-- Edge values from a pixel to the next.
use Rattle.std.proofs.Common.{◌≡◌, ℕ, zero, suc, ◌+◌, ◌*◌, ◌<◌, List, [], ◌∷◌, sym, ap, ◌∙◌, subst, arith, lit≤}
use Rattle.std.specs.Prelude.{ℤ, pos, ◌+ℤ◌, ◌-ℤ◌, map, slice_index_or}
use Rattle.std.proofs.lemmas.Int.{ints}
use Rattle.fx_math.specs.Within.{IsWithin}
use Rattle.fx_math.specs.Plain.{Point, point}
use Rattle.fx_math.specs.Views.{point_of}
use Rattle.fx_math.specs.Steps.{origin}
use Rattle.fx_math.specs.Hit.{Edges, edges, det3, ray}
use Rattle.fx_math.specs.declared.lenses.Lens.{Lens}
use Rattle.fx_math.specs.declared.vectors.Vec3.{Vec3}
use Rattle.fx_math.proofs.Ring.{expand, linear}
use Rattle.fx_math.proofs.Size.{within_add, within_sub, within_mul, within_more}
use Rattle.pf_model.specs.declared.geometry.Tri.{Tri}
use Rattle.tri_cover.specs.EdgeValues.{IsDeterminant, AreDeterminants}
use Rattle.tri_cover.specs.Hits.{vertex}
use Rattle.tri_cover.specs.declared.edges.EdgeValues.{EdgeValues}
use Rattle.tri_cover.specs.Edges.{sum_of_edges, edges_of}
use Rattle.tri_cover.specs.Stepping.{to_the_right, edges_in, AreAtPixel}

abbrev sum_of_points : Point → Point → Point
sum_of_points d e = point (d.x +ℤ e.x) (d.y +ℤ e.y) (d.z +ℤ e.z)

-- a determinant is linear in each row
det3-first : (d e v w : Point) → det3 (sum_of_points d e) v w ≡ det3 d v w +ℤ det3 e v w
unfolding det3
det3-first d e v w = simp expand (omega (arith, linear))

det3-second : (d e u w : Point) → det3 u (sum_of_points d e) w ≡ det3 u d w +ℤ det3 u e w
unfolding det3
det3-second d e u w = simp expand (omega (arith, linear))

det3-third : (d e u v : Point) → det3 u v (sum_of_points d e) ≡ det3 u v d +ℤ det3 u v e
unfolding det3
det3-third d e u v = simp expand (omega (arith, linear))

-- and so are the edge values in the direction
edges-sum : (d e u v w : Point) → edges (sum_of_points d e) u v w ≡ sum_of_edges (edges d u v w) (edges e u v w)
unfolding edges
edges-sum d e u v w = rw (det3-first d e v w, det3-second d e u w, det3-third d e u v)

ray-right : (lens : Lens) (px py : ℕ) → ray lens (px + 1) py ≡ sum_of_points (ray lens px py) to_the_right
unfolding ray
ray-right lens px py =
    let x : pos (2 * (px + 1) + 1) -ℤ pos lens.w ≡ pos (2 * px + 1) -ℤ pos lens.w +ℤ pos 2 = omega (arith, ints) in
    let y : pos (2 * lens.f) ≡ pos (2 * lens.f) +ℤ pos 0 = omega (arith, ints) in
    let z : pos lens.h -ℤ pos (2 * py + 1) ≡ pos lens.h -ℤ pos (2 * py + 1) +ℤ pos 0 = omega (arith, ints) in
    cc

-- the edge values at the pixel on the right
edges-right : (lens : Lens) (tri : Tri) (px py : ℕ) → sum_of_edges (edges_in tri (ray lens px py)) (edges_in tri to_the_right) ≡ edges_in tri (ray lens (px + 1) py)
edges-right lens tri px py =
    sym (edges-sum (ray lens px py) to_the_right (vertex tri 0) (vertex tri 1) (vertex tri 2)) ∙ ap (edges_in tri) (sym (ray-right lens px py))

-- ---- the edge values are determinants of small rows
record IsSmall (p : Point) : Type 0 where
  x_small : IsWithin 2147483648 p.x
  y_small : IsWithin 2147483648 p.y
  z_small : IsWithin 2147483648 p.z

det3_small : (a b c : Point) → IsSmall a → IsSmall b → IsSmall c → IsDeterminant (det3 a b c)
unfolding det3
det3_small a b c p q r =
    within_add (within_add
    (within_mul p.x_small (within_sub (within_mul q.y_small r.z_small) (within_mul q.z_small r.y_small)))
    (within_mul p.y_small (within_sub (within_mul q.z_small r.x_small) (within_mul q.x_small r.z_small))))
    (within_mul p.z_small (within_sub (within_mul q.x_small r.y_small) (within_mul q.y_small r.x_small)))

corner_small : (vs : List Vec3) (k : ℕ) → IsSmall (slice_index_or (map point_of vs) k origin)
corner_small [] k = record { x_small = record { size = omega arith }; y_small = record { size = omega arith }; z_small = record { size = omega arith } }
corner_small (v ∷ vs) zero = record {
  x_small = within_more 2147483648 v.in_range.x_within (lit≤ tt);
  y_small = within_more 2147483648 v.in_range.y_within (lit≤ tt);
  z_small = within_more 2147483648 v.in_range.z_within (lit≤ tt);
}
corner_small (v ∷ vs) (suc k) = corner_small vs k

ray_small : (lens : Lens) (px py : ℕ) → px < lens.w → py < lens.h → IsSmall (ray lens px py)
unfolding ray
ray_small lens px py in_row in_picture = record {
  x_small = record { size = omega (arith, ints, lens.in_range.most_width) };
  y_small = record { size = omega (arith, ints, lens.in_range.most_focus) };
  z_small = record { size = omega (arith, ints, lens.in_range.most_height) };
}

-- the edge values of a pixel in the picture are determinants, and so are the sums that a step to it makes
edges_small : (d u v w : Point) → IsSmall d → IsSmall u → IsSmall v → IsSmall w → AreDeterminants (edges d u v w).e0 (edges d u v w).e1 (edges d u v w).e2
unfolding edges
edges_small d u v w i j k l = record { first = det3_small d v w i k l; second = det3_small u d w j i l; third = det3_small u v d j k i }

edges_in_picture : (lens : Lens) (tri : Tri) (px py : ℕ) (e : Edges) → px < lens.w → py < lens.h → e ≡ edges_in tri (ray lens px py) → AreDeterminants e.e0 e.e1 e.e2
edges_in_picture lens tri px py e in_row in_picture same =
    subst (λ (d : Edges). AreDeterminants d.e0 d.e1 d.e2) (sym same)
    (edges_small (ray lens px py) (vertex tri 0) (vertex tri 1) (vertex tri 2)
    (ray_small lens px py in_row in_picture) (corner_small tri.v 0) (corner_small tri.v 1) (corner_small tri.v 2))

-- ---- what a stepper keeps, at the next pixel
pub stepped_edges : (lens : Lens) (tri : Tri) (px py : ℕ) (volume : ℤ) (here step : EdgeValues) → AreAtPixel lens tri px py volume here step → sum_of_edges (edges_of here) (edges_of step) ≡ edges_in tri (ray lens (px + 1) py)
stepped_edges lens tri px py volume here step at =
    ap (λ (e : Edges). sum_of_edges e (edges_of step)) at.here_is
    ∙ ap (sum_of_edges (edges_in tri (ray lens px py))) at.step_is
    ∙ edges-right lens tri px py

pub stepped_small : (lens : Lens) (tri : Tri) (px py : ℕ) (volume : ℤ) (here step : EdgeValues) → AreAtPixel lens tri px py volume here step → px + 1 < lens.w → AreDeterminants (here.e0 +ℤ step.e0) (here.e1 +ℤ step.e1) (here.e2 +ℤ step.e2)
stepped_small lens tri px py volume here step at in_row =
    edges_in_picture lens tri (px + 1) py (sum_of_edges (edges_of here) (edges_of step)) in_row at.in_picture (stepped_edges lens tri px py volume here step at)

pub stepped : (lens : Lens) (tri : Tri) (px py : ℕ) (volume : ℤ) (here step next : EdgeValues) → AreAtPixel lens tri px py volume here step → px + 1 < lens.w → edges_of next ≡ sum_of_edges (edges_of here) (edges_of step) → AreAtPixel lens tri (px + 1) py volume next step
stepped lens tri px py volume here step next at in_row is = record {
  in_row = in_row;
  in_picture = at.in_picture;
  volume_is = at.volume_is;
  volume_small = at.volume_small;
  here_is = is ∙ stepped_edges lens tri px py volume here step at;
  step_is = at.step_is;
}
