-- Triangles whose box is not near the segment are not crossed.
use Rattle.std.proofs.Common.{◌≡◌, ◌∙◌, ℕ, zero, suc, ◌+◌, ◌<◌, List, [], ◌∷◌, ◌++◌, length, Bool, true, false, cond, Option, Some, None, ap, refl, sym, arith}
use Rattle.std.specs.Prelude.{map, fold, flat_map, filter, filter_map}
use Rattle.std.specs.List.{AllByRecursion, enumerate_from, cons_option}
use Rattle.std.specs.Option.{option_map}
use Rattle.fx_math.specs.Plain.{Point, Matrix, Bounds, Holds, IsInside}
use Rattle.fx_math.specs.Views.{point_of}
use Rattle.fx_math.specs.Fixed.{carry, carry_box, hull, hull_of, box_at}
use Rattle.fx_math.specs.declared.vectors.Vec3.{Vec3}
use Rattle.fx_math.proofs.Containment.{hull-first, hull-second, inside_same, inside_trans, inside_holds, carry-holds}
use Rattle.fx_math.proofs.Surrounding.{box_at-holds}
use Rattle.pf_model.specs.declared.geometry.Tri.{Tri}
use Rattle.pf_model.specs.Angles.{Viewpoint}
use Rattle.pf_model.specs.Boxes.{box_of_tris, corners}
use Rattle.pf_model.specs.Graphs.{Look}
use Rattle.pf_model.specs.Walks.{Instance, instances}
use Rattle.nearest_hit.specs.declared.found.Near.{Near}
use Rattle.nearest_hit.specs.declared.segment.Segment.{Segment}
use Rattle.nearest_hit.specs.Segments.{vertex}
use Rattle.nearest_hit.specs.Nearest.{time_in, hit_of, hit_at, hits_of, closer, nearest_of, nearest, is_near, is_instance_near}
use Rattle.nearest_hit.proofs.Touching.{untouched_none}

-- ---- the points of a hull lie in it
inside_fold : (c : Bounds) (ps : List Point) → IsInside c (fold hull c (map box_at ps))
inside_fold c [] = inside_same c
inside_fold c (p ∷ ps) = inside_trans c (hull c (box_at p)) (fold hull (hull c (box_at p)) (map box_at ps)) (hull-first c (box_at p)) (inside_fold (hull c (box_at p)) ps)

held_fold : (c : Bounds) (ps : List Point) → AllByRecursion (λ q. Holds (fold hull c (map box_at ps)) q) ps
held_fold c [] = tt
held_fold c (p ∷ ps) = (
  inside_holds (box_at p) whole p (inside_trans (box_at p) (hull c (box_at p)) whole (hull-second c (box_at p)) (inside_fold (hull c (box_at p)) ps)) (box_at-holds p),
  held_fold (hull c (box_at p)) ps,
)
  where
    whole : Bounds
    whole = fold hull (hull c (box_at p)) (map box_at ps)

-- a box that is there holds all points
abbrev pub IsHeld : Option Bounds → Point → Type 0
IsHeld None p = ⊥
IsHeld (Some b) p = Holds b p

held : (ps : List Point) → AllByRecursion (IsHeld (hull_of ps)) ps
held [] = tt
held (p ∷ ps) = (inside_holds (box_at p) (fold hull (box_at p) (map box_at ps)) p (inside_fold (box_at p) ps) (box_at-holds p), held_fold (box_at p) ps)

-- ---- the vertices of triangles lie in their box
first_all : (P : Point → Type 0) (xs ys : List Point) → AllByRecursion P (xs ++ ys) → AllByRecursion P xs
first_all P [] ys h = tt
first_all P (x ∷ xs) ys h = (h.0, first_all P xs ys h.1)

second_all : (P : Point → Type 0) (xs ys : List Point) → AllByRecursion P (xs ++ ys) → AllByRecursion P ys
second_all P [] ys h = h
second_all P (x ∷ xs) ys h = second_all P xs ys h.1

corner : (P : Point → Type 0) (vs : List Vec3) (k : ℕ) → k < length vs → AllByRecursion P (map point_of vs) → P (vertex vs k)
corner P [] k l h = absurd (omega (arith, l))
corner P (v ∷ vs) zero l h = h.0
corner P (v ∷ vs) (suc k) l h = corner P vs k (omega (arith, l)) h.1

pub record HasVertices (b : Option Bounds) (t : Tri) : Type 0 where
  pub first : IsHeld b (vertex t.v 0)
  pub second : IsHeld b (vertex t.v 1)
  pub third : IsHeld b (vertex t.v 2)

vertices : (b : Option Bounds) (t : Tri) → AllByRecursion (IsHeld b) (corners t) → HasVertices b t
vertices b t h = record {
  first = corner (IsHeld b) t.v 0 (omega (arith, t.three.vertices_three)) h;
  second = corner (IsHeld b) t.v 1 (omega (arith, t.three.vertices_three)) h;
  third = corner (IsHeld b) t.v 2 (omega (arith, t.three.vertices_three)) h;
}

all_vertices : (b : Option Bounds) (ts : List Tri) → AllByRecursion (IsHeld b) (flat_map corners ts) → AllByRecursion (HasVertices b) ts
all_vertices b [] h = tt
all_vertices b (t ∷ ts) h =
    (vertices b t (first_all (IsHeld b) (corners t) (flat_map corners ts) h), all_vertices b ts (second_all (IsHeld b) (corners t) (flat_map corners ts) h))

-- ---- a box that is not near
missed : (s : Segment) (steps : List Matrix) (b : Option Bounds) (t : Tri) → is_near s (option_map (carry_box steps) b) ≡ false → HasVertices b t → time_in s steps t ≡ None
missed s steps None t off h = absurd h.first
missed s steps (Some b) t off h =
    untouched_none (point_of s.from) (point_of s.to) (carry steps (vertex t.v 0)) (carry steps (vertex t.v 1)) (carry steps (vertex t.v 2)) (carry_box steps b)
    (carry-holds steps b (vertex t.v 0) h.first) (carry-holds steps b (vertex t.v 1) h.second) (carry-holds steps b (vertex t.v 2) h.third) off

none_from : (s : Segment) (x : Instance) (b : Option Bounds) (n : ℕ) (ts : List Tri) → is_near s (option_map (carry_box x.steps) b) ≡ false → AllByRecursion (HasVertices b) ts → filter_map (hit_at s x) (enumerate_from n ts) ≡ []
none_from s x b n [] off h = refl
none_from s x b n (t ∷ ts) off h =
    ap (λ (o : Option ℕ). cons_option (option_map (hit_of x n) o) (filter_map (hit_at s x) (enumerate_from (n + 1) ts))) (missed s x.steps b t off h.0)
    ∙ none_from s x b (n + 1) ts off h.1

pub no_hits : (s : Segment) (x : Instance) → is_instance_near s x ≡ false → hits_of s x ≡ []
no_hits s x off = none_from s x (box_of_tris x.tris) 0 x.tris off (all_vertices (box_of_tris x.tris) x.tris (held (flat_map corners x.tris)))

-- ---- the instances that are not near, left out
hits_left : (s : Segment) (xs : List Instance) → flat_map (hits_of s) (filter (is_instance_near s) xs) ≡ flat_map (hits_of s) xs
hits_left s [] = refl
hits_left s (x ∷ xs) = by (is_instance_near s x) refl (hits_left s xs)
  where
    by : (t : Bool) → is_instance_near s x ≡ t → flat_map (hits_of s) (filter (is_instance_near s) xs) ≡ flat_map (hits_of s) xs →
        flat_map (hits_of s) (cond t (x ∷ filter (is_instance_near s) xs) (filter (is_instance_near s) xs)) ≡ hits_of s x ++ flat_map (hits_of s) xs
    by true e rest = ap (λ (ys : List Near). hits_of s x ++ ys) rest
    by false e rest = rest ∙ ap (λ (ys : List Near). ys ++ flat_map (hits_of s) xs) (sym (no_hits s x e))

pub passed_by : (look : Look) (time : ℕ) (v : Viewpoint) (s : Segment) → nearest_of s (filter (is_instance_near s) (instances look time v)) ≡ nearest look time v s
unfolding nearest
passed_by look time v s = ap (fold closer None) (hits_left s (instances look time v))
