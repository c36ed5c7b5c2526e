-- Points and steps are told by their numbers, however these are shown to be in range.
use Rattle.std.proofs.Common.{◌≡◌, ap, subst, ◌∙◌, ℤ, List}
use Rattle.std.proofs.Props.{props}
use Rattle.fx_math.specs.Within.{AreCoordinates, AreEntries}
use Rattle.fx_math.specs.Plain.{Point, point}
use Rattle.fx_math.specs.declared.vectors.Vec3.{Vec3}
use Rattle.fx_math.specs.declared.matrices.Affine.{Affine}

-- a point of three equal coordinates
pub point_same : (p : Point) (x y z : ℤ) → x ≡ p.x → y ≡ p.y → z ≡ p.z → point x y z ≡ p
point_same p x y z f g h =
    ap (λ (a : ℤ). point a y z) f ∙ ap (λ (a : ℤ). point p.x a z) g ∙ ap (λ (a : ℤ). point p.x p.y a) h

pub coordinates_once : (x y z : ℤ) → IsProp (AreCoordinates x y z)
coordinates_once x y z = hlevel props

pub entries_once : (a : List (List ℤ)) → IsProp (AreEntries a)
entries_once a = hlevel props

abbrev of : (x y z : ℤ) → AreCoordinates x y z → Vec3
of x y z h = record { x = x; y = y; z = z; in_range = h }

same_of : (x y z a b c : ℤ) → x ≡ a → y ≡ b → z ≡ c → (h : AreCoordinates x y z) (k : AreCoordinates a b c) →
    of x y z h ≡ of a b c k
same_of x y z a b c e f g h =
    let P : ℤ → Type 0 = λ r. (k : AreCoordinates r b c) → of x y z h ≡ of r b c k in
    let Q : ℤ → Type 0 = λ r. (k : AreCoordinates x r c) → of x y z h ≡ of x r c k in
    let R : ℤ → Type 0 = λ r. (k : AreCoordinates x y r) → of x y z h ≡ of x y r k in
    subst P e (subst Q f (subst R g (λ k. ap (of x y z) (coordinates_once x y z h k))))

-- points with the same coordinates are the same
pub same_point : (v w : Vec3) → v.x ≡ w.x → v.y ≡ w.y → v.z ≡ w.z → v ≡ w
same_point v w e f g = same_of v.x v.y v.z w.x w.y w.z e f g v.in_range w.in_range

abbrev step : (a : List (List ℤ)) (t : Vec3) → AreEntries a → Affine
step a t h = record { a = a; t = t; entries = h }

same_step : (a b : List (List ℤ)) (t u : Vec3) → a ≡ b → t ≡ u → (h : AreEntries a) (k : AreEntries b) →
    step a t h ≡ step b u k
same_step a b t u e f h =
    let P : List (List ℤ) → Type 0 = λ r. (k : AreEntries r) → step a t h ≡ step r u k in
    subst P e (λ k. ap (λ (w : Vec3). step a w h) f ∙ ap (step a u) (entries_once a h k))

-- steps with the same rows and the same translation are the same
pub same_affine : (m n : Affine) → m.a ≡ n.a → m.t ≡ n.t → m ≡ n
same_affine m n e f = same_step m.a n.a m.t n.t e f m.entries n.entries
