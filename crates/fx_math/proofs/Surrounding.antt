-- The hull of a list of points contains each of them, and lies in each box that does.
use Rattle.std.proofs.Common.{◌≡◌, map, List, [], ◌∷◌, sym, subst, arith}
use Rattle.std.specs.Prelude.{Option, Some, None, fold, All, IfSome}
use Rattle.std.specs.Option.{option_map}
use Rattle.std.proofs.lemmas.Int.{ints}
use Rattle.std.proofs.lemmas.List.Elements.{All-nil, All-cons, All-head, All-tail}
use Rattle.fx_math.specs.declared.vectors.Vec3.{Vec3}
use Rattle.fx_math.specs.declared.boxes.Box3.{Box3}
use Rattle.fx_math.specs.Plain.{Point, Bounds, IsInside, Holds}
use Rattle.fx_math.specs.Views.{point_of, bounds_of}
use Rattle.fx_math.specs.Fixed.{hull, hull_of, box_at}
use Rattle.fx_math.proofs.Containment.{hull-first, hull-second, hull-least, inside_same, inside_trans, inside_holds}

pub box_at-holds : (p : Point) → Holds (box_at p) p
box_at-holds p = record {
  x_low = omega (arith, ints);
  x_high = omega (arith, ints);
  y_low = omega (arith, ints);
  y_high = omega (arith, ints);
  z_low = omega (arith, ints);
  z_high = omega (arith, ints);
}

-- the hull of more boxes contains what the hull so far contains
pub fold-hull_inside : (c a : Bounds) (bs : List Bounds) → IsInside c a → IsInside c (fold hull a bs)
fold-hull_inside c a [] h = h
fold-hull_inside c a (b ∷ bs) h = fold-hull_inside c (hull a b) bs (inside_trans c a (hull a b) h (hull-first a b))

-- and each of the boxes
pub fold-hull_all : (a : Bounds) (bs : List Bounds) → All (λ b. IsInside b (fold hull a bs)) bs
fold-hull_all a [] = All-nil _
fold-hull_all a (b ∷ bs) =
    All-cons (λ c. IsInside c (fold hull (hull a b) bs)) b bs (fold-hull_inside b (hull a b) bs (hull-second a b)) (fold-hull_all (hull a b) bs)

fold-points : (a : Bounds) (vs : List Vec3) → All (λ v. Holds (fold hull a (map box_at (map point_of vs))) (point_of v)) vs
fold-points a [] = All-nil _
fold-points a (v ∷ vs) =
    let p = point_of v in
    let rest = map box_at (map point_of vs) in
    let next = hull a (box_at p) in
    All-cons (λ (w : Vec3). Holds (fold hull next rest) (point_of w)) v vs
    (inside_holds (box_at p) (fold hull next rest) p (fold-hull_inside (box_at p) next rest (hull-second a (box_at p))) (box_at-holds p))
    (fold-points next vs)

points_in : (b : Bounds) (vs : List Vec3) → Some b ≡ hull_of (map point_of vs) → All (λ v. Holds b (point_of v)) vs
points_in b [] e = All-nil _
points_in b (v ∷ vs) e =
    let p = point_of v in
    let rest = map box_at (map point_of vs) in
    let is : b ≡ fold hull (box_at p) rest = cc in
    subst (λ (c : Bounds). All (λ w. Holds c (point_of w)) (v ∷ vs)) (sym is)
    (All-cons (λ (w : Vec3). Holds (fold hull (box_at p) rest) (point_of w)) v vs
    (inside_holds (box_at p) (fold hull (box_at p) rest) p (fold-hull_inside (box_at p) (box_at p) rest (inside_same (box_at p))) (box_at-holds p))
    (fold-points (box_at p) vs))

pub hull_of-holds : (vs : List Vec3) (r : Option Box3) → option_map bounds_of r ≡ hull_of (map point_of vs) → IfSome r (λ b. All (λ v. Holds (bounds_of b) (point_of v)) vs)
hull_of-holds vs None e = tt
hull_of-holds vs (Some b) e = points_in (bounds_of b) vs e

-- ---- the least box
box_at-inside : (c : Bounds) (p : Point) → Holds c p → IsInside (box_at p) c
box_at-inside c p h = record { x_low = h.x_low; x_high = h.x_high; y_low = h.y_low; y_high = h.y_high; z_low = h.z_low; z_high = h.z_high }

fold-least : (c a : Bounds) (vs : List Vec3) → IsInside a c → All (λ v. Holds c (point_of v)) vs →
    IsInside (fold hull a (map box_at (map point_of vs))) c
fold-least c a [] h all = h
fold-least c a (v ∷ vs) h all =
    let P : Vec3 → Type 0 = λ w. Holds c (point_of w) in
    let here = box_at-inside c (point_of v) (All-head P v vs all) in
    fold-least c (hull a (box_at (point_of v))) vs (hull-least a (box_at (point_of v)) c h here) (All-tail P v vs all)

least_of : (b c : Bounds) (vs : List Vec3) → Some b ≡ hull_of (map point_of vs) → All (λ v. Holds c (point_of v)) vs → IsInside b c
least_of b c [] e all = cc
least_of b c (v ∷ vs) e all =
    let P : Vec3 → Type 0 = λ w. Holds c (point_of w) in
    let is : b ≡ fold hull (box_at (point_of v)) (map box_at (map point_of vs)) = cc in
    subst (λ (a : Bounds). IsInside a c) (sym is)
    (fold-least c (box_at (point_of v)) vs (box_at-inside c (point_of v) (All-head P v vs all)) (All-tail P v vs all))

pub hull_of-least : (vs : List Vec3) (r : Option Box3) → option_map bounds_of r ≡ hull_of (map point_of vs) →
    IfSome r (λ b. (c : Bounds) → All (λ v. Holds c (point_of v)) vs → IsInside (bounds_of b) c)
hull_of-least vs None e = tt
hull_of-least vs (Some b) e = λ c all. least_of (bounds_of b) c vs e all
