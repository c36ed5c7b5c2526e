-- Edge values as linear functions of the pixel.
use Rattle.std.proofs.Common.{◌≡◌, ℕ, ◌*◌, Bool, true, false, if◌then◌else◌, sym, ap, ◌∙◌, subst, arith, refl}
use Rattle.std.specs.Prelude.{ℤ, pos, neg_ℤ, ◌+ℤ◌, ◌-ℤ◌, ◌*ℤ◌, int_lt}
use Rattle.fx_math.specs.Plain.{Point, point}
use Rattle.fx_math.specs.Hit.{Edges, edges, det3, ray}
use Rattle.fx_math.specs.declared.lenses.Lens.{Lens}
use Rattle.fx_math.proofs.Ring.{expand, linear}
use Rattle.tri_cover.specs.declared.linear.Linear.{Linear}
use Rattle.tri_cover.specs.declared.edge_functions.EdgeFunctions.{EdgeFunctions}
use Rattle.tri_cover.specs.Linears.{value_at, IsTotal}
use Rattle.tri_cover.specs.Planes.{cross, product, turned_point, IsLinearOf, AreEdgesOf}
use Rattle.tri_cover.specs.Normals.{turned}
use Rattle.tri_cover.proofs.Turned.{turned_edges}

-- ---- a determinant is a scalar product with a normal
pub det_first : (d v w : Point) → det3 d v w ≡ product d (cross v w)
unfolding det3 product cross
det_first d v w = refl

det_second : (d u w : Point) → det3 u d w ≡ product d (cross w u)
unfolding det3 product cross
det_second d u w = simp expand (omega (arith, linear))

det_third : (d u v : Point) → det3 u v d ≡ product d (cross u v)
unfolding det3 product cross
det_third d u v = simp expand (omega (arith, linear))

-- ---- which is linear in the pixel
line : (x y z w t h p q : ℤ) → (pos 2 *ℤ x) *ℤ p +ℤ (pos 2 *ℤ neg_ℤ z) *ℤ q +ℤ ((pos 1 -ℤ w) *ℤ x +ℤ t *ℤ y +ℤ (h -ℤ pos 1) *ℤ z)
    ≡ (pos 2 *ℤ p +ℤ pos 1 -ℤ w) *ℤ x +ℤ t *ℤ y +ℤ (h -ℤ (pos 2 *ℤ q +ℤ pos 1)) *ℤ z
line x y z w t h p q = simp expand (omega (arith, linear))

pub ray_line : (lens : Lens) (k : Point) (px py : ℕ) → (pos 2 *ℤ k.x) *ℤ pos px +ℤ (pos 2 *ℤ neg_ℤ k.z) *ℤ pos py
    +ℤ ((pos 1 -ℤ pos lens.w) *ℤ k.x +ℤ pos (2 * lens.f) *ℤ k.y +ℤ (pos lens.h -ℤ pos 1) *ℤ k.z) ≡ product (ray lens px py) k
unfolding ray product
ray_line lens k px py = line k.x k.y k.z (pos lens.w) (pos (2 * lens.f)) (pos lens.h) (pos px) (pos py)

sum_line : (a b c d e f g h i p q : ℤ) → (pos 2 *ℤ (a +ℤ b +ℤ c)) *ℤ p +ℤ (pos 2 *ℤ (d +ℤ e +ℤ f)) *ℤ q +ℤ (g +ℤ h +ℤ i)
    ≡ ((pos 2 *ℤ a) *ℤ p +ℤ (pos 2 *ℤ d) *ℤ q +ℤ g) +ℤ ((pos 2 *ℤ b) *ℤ p +ℤ (pos 2 *ℤ e) *ℤ q +ℤ h) +ℤ ((pos 2 *ℤ c) *ℤ p +ℤ (pos 2 *ℤ f) *ℤ q +ℤ i)
sum_line a b c d e f g h i p q = simp expand (omega (arith, linear))

pub total_value : (e0 e1 e2 sum : Linear) (px py : ℕ) → IsTotal e0 e1 e2 sum → value_at sum px py ≡ value_at e0 px py +ℤ value_at e1 px py +ℤ value_at e2 px py
total_value e0 e1 e2 sum px py t =
    ap (λ (z : ℤ). (pos 2 *ℤ z) *ℤ pos px +ℤ (pos 2 *ℤ sum.b) *ℤ pos py +ℤ sum.c) t.a_is
    ∙ ap (λ (z : ℤ). (pos 2 *ℤ (e0.a +ℤ e1.a +ℤ e2.a)) *ℤ pos px +ℤ (pos 2 *ℤ z) *ℤ pos py +ℤ sum.c) t.b_is
    ∙ ap (λ (z : ℤ). (pos 2 *ℤ (e0.a +ℤ e1.a +ℤ e2.a)) *ℤ pos px +ℤ (pos 2 *ℤ (e0.b +ℤ e1.b +ℤ e2.b)) *ℤ pos py +ℤ z) t.c_is
    ∙ sum_line e0.a e1.a e2.a e0.b e1.b e2.b e0.c e1.c e2.c (pos px) (pos py)

-- ---- with the signs turned
product_neg : (d : Point) (x y z : ℤ) → d.x *ℤ neg_ℤ x +ℤ d.y *ℤ neg_ℤ y +ℤ d.z *ℤ neg_ℤ z ≡ neg_ℤ (d.x *ℤ x +ℤ d.y *ℤ y +ℤ d.z *ℤ z)
product_neg d x y z = simp expand (omega (arith, linear))

product_flip : (is_back : Bool) (d k : Point) → product d (point (if is_back then neg_ℤ k.x else k.x) (if is_back then neg_ℤ k.y else k.y) (if is_back then neg_ℤ k.z else k.z)) ≡ (if is_back then neg_ℤ (product d k) else product d k)
unfolding product
product_flip true d k = product_neg d k.x k.y k.z
product_flip false d k = refl

product_turned : (volume : ℤ) (d k : Point) → product d (turned_point volume k) ≡ turned volume (product d k)
product_turned volume d k = product_flip (int_lt volume (pos 0)) d k

-- the values of the functions at a pixel
abbrev pub values_at : EdgeFunctions → (px py : ℕ) → Edges
values_at g px py = record { e0 = value_at g.e0 px py; e1 = value_at g.e1 px py; e2 = value_at g.e2 px py }

edge_value : (lens : Lens) (volume e : ℤ) (k : Point) (g : Linear) (px py : ℕ) → IsLinearOf lens (turned_point volume k) g → e ≡ product (ray lens px py) k → value_at g px py ≡ turned volume e
edge_value lens volume e k g px py is same =
    is.value px py ∙ product_turned volume (ray lens px py) k ∙ ap (turned volume) (sym same)

pub values_turned : (lens : Lens) (u v w : Point) (volume : ℤ) (g : EdgeFunctions) (px py : ℕ) → AreEdgesOf lens volume (cross v w) (cross w u) (cross u v) g → values_at g px py ≡ turned_edges volume (edges (ray lens px py) u v w)
unfolding edges
values_turned lens u v w volume g px py is =
    let first : value_at g.e0 px py ≡ turned volume (det3 (ray lens px py) v w) = edge_value lens volume _ (cross v w) g.e0 px py is.first_is (det_first (ray lens px py) v w) in
    let second : value_at g.e1 px py ≡ turned volume (det3 u (ray lens px py) w) = edge_value lens volume _ (cross w u) g.e1 px py is.second_is (det_second (ray lens px py) u w) in
    let third : value_at g.e2 px py ≡ turned volume (det3 u v (ray lens px py)) = edge_value lens volume _ (cross u v) g.e2 px py is.third_is (det_third (ray lens px py) u v) in
    rw (first, second, third)

-- ---- the same normals
pub edges_same : (lens : Lens) (v v' : ℤ) (k k' l l' m m' : Point) (g : EdgeFunctions) → v ≡ v' → k ≡ k' → l ≡ l' → m ≡ m' → AreEdgesOf lens v k l m g → AreEdgesOf lens v' k' l' m' g
edges_same lens v v' k k' l l' m m' g a b c d h =
    subst (λ (p : Point). AreEdgesOf lens v' k' l' p g) d
    (subst (λ (p : Point). AreEdgesOf lens v' k' p m g) c
    (subst (λ (p : Point). AreEdgesOf lens v' p l m g) b
    (subst (λ (z : ℤ). AreEdgesOf lens z k l m g) a h)))
