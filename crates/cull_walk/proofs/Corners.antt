-- Triangles whose box is outside hit no pixel.
use Rattle.std.proofs.Common.{◌≡◌, ℕ, zero, suc, ◌<◌, List, [], ◌∷◌, ◌++◌, length, true, false, Option, Some, None, arith}
use Rattle.std.specs.Prelude.{map, fold, flat_map}
use Rattle.std.specs.List.{All, AllByRecursion, slice_index_or}
use Rattle.std.specs.Option.{option_map}
use Rattle.std.proofs.lemmas.Int.{ints}
use Rattle.std.proofs.lemmas.List.Elements.{All-nil, All-cons}
use Rattle.fx_math.specs.Plain.{Point, Matrix, Bounds, Holds, IsInside}
use Rattle.fx_math.specs.Views.{point_of}
use Rattle.fx_math.specs.Fixed.{carry, carry_box, hull, hull_of, box_at}
use Rattle.fx_math.specs.Steps.{origin}
use Rattle.fx_math.specs.declared.vectors.Vec3.{Vec3}
use Rattle.fx_math.specs.declared.lenses.Lens.{Lens}
use Rattle.fx_math.proofs.Containment.{hull-first, hull-second, inside_same, inside_trans, inside_holds, carry-holds}
use Rattle.pf_bounds.proofs.Culling.{outside_hidden}
use Rattle.pf_model.specs.declared.geometry.Tri.{Tri}
use Rattle.pf_model.specs.Boxes.{box_of_tris, corners}
use Rattle.pf_model.specs.Walks.{Instance, instance_box}
use Rattle.draw_list.specs.Shown.{is_off}
use Rattle.tri_cover.specs.Hits.{vertex}
use Rattle.tri_cover.specs.LeftOut.{is_hit_by, IsMissed}

-- ---- the points of a hull lie in it
inside_fold : (c : Bounds) (ps : List Point) → IsInside c (fold hull c (map box_at ps))
inside_fold c [] = inside_same c
inside_fold c (p ∷ ps) = inside_trans c (hull c (box_at p)) (fold hull (hull c (box_at p)) (map box_at ps)) (hull-first c (box_at p)) (inside_fold (hull c (box_at p)) ps)

holds_itself : (p : Point) → Holds (box_at p) p
holds_itself p = record {
  x_low = omega (arith, ints);
  x_high = omega (arith, ints);
  y_low = omega (arith, ints);
  y_high = omega (arith, ints);
  z_low = omega (arith, ints);
  z_high = omega (arith, ints);
}

held_fold : (c : Bounds) (ps : List Point) → AllByRecursion (λ q. Holds (fold hull c (map box_at ps)) q) ps
held_fold c [] = tt
held_fold c (p ∷ ps) = (
  inside_holds (box_at p) whole p (inside_trans (box_at p) (hull c (box_at p)) whole (hull-second c (box_at p)) (inside_fold (hull c (box_at p)) ps)) (holds_itself p),
  held_fold (hull c (box_at p)) ps,
)
  where
    whole : Bounds
    whole = fold hull (hull c (box_at p)) (map box_at ps)

-- a box that is there holds all points
abbrev pub IsHeld : Option Bounds → Point → Type 0
IsHeld None p = ⊥
IsHeld (Some b) p = Holds b p

held : (ps : List Point) → AllByRecursion (IsHeld (hull_of ps)) ps
held [] = tt
held (p ∷ ps) = (inside_holds (box_at p) (fold hull (box_at p) (map box_at ps)) p (inside_fold (box_at p) ps) (holds_itself p), held_fold (box_at p) ps)

-- ---- the vertices of triangles lie in their box
first_all : (P : Point → Type 0) (xs ys : List Point) → AllByRecursion P (xs ++ ys) → AllByRecursion P xs
first_all P [] ys h = tt
first_all P (x ∷ xs) ys h = (h.0, first_all P xs ys h.1)

second_all : (P : Point → Type 0) (xs ys : List Point) → AllByRecursion P (xs ++ ys) → AllByRecursion P ys
second_all P [] ys h = h
second_all P (x ∷ xs) ys h = second_all P xs ys h.1

corner : (P : Point → Type 0) (vs : List Vec3) (k : ℕ) → k < length vs → AllByRecursion P (map point_of vs) → P (slice_index_or (map point_of vs) k origin)
corner P [] k l h = absurd (omega (arith, l))
corner P (v ∷ vs) zero l h = h.0
corner P (v ∷ vs) (suc k) l h = corner P vs k (omega (arith, l)) h.1

pub record HasVertices (b : Option Bounds) (t : Tri) : Type 0 where
  pub first : IsHeld b (vertex t 0)
  pub second : IsHeld b (vertex t 1)
  pub third : IsHeld b (vertex t 2)

vertices : (b : Option Bounds) (t : Tri) → AllByRecursion (IsHeld b) (corners t) → HasVertices b t
vertices b t h = record {
  first = corner (IsHeld b) t.v 0 (omega (arith, t.three.vertices_three)) h;
  second = corner (IsHeld b) t.v 1 (omega (arith, t.three.vertices_three)) h;
  third = corner (IsHeld b) t.v 2 (omega (arith, t.three.vertices_three)) h;
}

all_vertices : (b : Option Bounds) (ts : List Tri) → AllByRecursion (IsHeld b) (flat_map corners ts) → AllByRecursion (HasVertices b) ts
all_vertices b [] h = tt
all_vertices b (t ∷ ts) h =
    (vertices b t (first_all (IsHeld b) (corners t) (flat_map corners ts) h), all_vertices b ts (second_all (IsHeld b) (corners t) (flat_map corners ts) h))

-- ---- a box that is outside
missed : (lens : Lens) (px py : ℕ) (steps : List Matrix) (b : Option Bounds) (t : Tri) → px < lens.w → py < lens.h → is_off lens (option_map (carry_box steps) b) ≡ true → HasVertices b t → is_hit_by lens px py steps t ≡ false
missed lens px py steps None t x y off h = absurd h.first
missed lens px py steps (Some b) t x y off h =
    outside_hidden lens (carry_box steps b) off (carry steps (vertex t 0)) (carry steps (vertex t 1)) (carry steps (vertex t 2))
    (carry-holds steps b (vertex t 0) h.first) (carry-holds steps b (vertex t 1) h.second) (carry-holds steps b (vertex t 2) h.third) px py x y

all_missed : (lens : Lens) (px py : ℕ) (steps : List Matrix) (b : Option Bounds) (ts : List Tri) → px < lens.w → py < lens.h → is_off lens (option_map (carry_box steps) b) ≡ true → AllByRecursion (HasVertices b) ts → All (λ t. is_hit_by lens px py steps t ≡ false) ts
all_missed lens px py steps b [] x y off h = All-nil (λ t. is_hit_by lens px py steps t ≡ false)
all_missed lens px py steps b (t ∷ ts) x y off h =
    All-cons (λ t. is_hit_by lens px py steps t ≡ false) t ts (missed lens px py steps b t x y off h.0) (all_missed lens px py steps b ts x y off h.1)

pub outside_missed : (lens : Lens) (x : Instance) → is_off lens (instance_box x) ≡ true → (px py : ℕ) → px < lens.w → py < lens.h → IsMissed lens px py x
outside_missed lens x off px py column row =
    all_missed lens px py x.steps (box_of_tris x.tris) x.tris column row off (all_vertices (box_of_tris x.tris) x.tris (held (flat_map corners x.tris)))
