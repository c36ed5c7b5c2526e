-- Values of the fixed-point types are told by their numbers.
use Rattle.std.proofs.Common.{◌≡◌, ℕ, refl, sym, ap, subst, ◌∙◌, ℤ, true, false, Bool, List}
use Rattle.std.proofs.Props.{props}
use Rattle.std.proofs.lemmas.Bool.{le-leb}
use Rattle.fx_math.specs.Within.{AreCoordinates, AreEntries, IsRow, row_at}
use Rattle.fx_math.specs.declared.vectors.Vec3.{Vec3}
use Rattle.fx_math.specs.declared.matrices.Affine.{Affine}
use Rattle.pf_model.specs.Three.{AreThree}
use Rattle.pf_model.specs.declared.geometry.Tri.{Tri}
use Rattle.play_format.specs.Making.{vector, vector_if, are_coordinates, coordinates, affine, affine_if, are_entries, is_row}
use Rattle.fx_math.specs.Constants.{origin_vector, identity_step}

are_coordinates_once : (x y z : ℤ) → IsProp (AreCoordinates x y z)
are_coordinates_once x y z = hlevel props

abbrev of : (x y z : ℤ) → AreCoordinates x y z → Vec3
of x y z h = record { x = x; y = y; z = z; in_range = h }

same_of : (x y z a b c : ℤ) → x ≡ a → y ≡ b → z ≡ c → (h : AreCoordinates x y z) (k : AreCoordinates a b c) → of x y z h ≡ of a b c k
same_of x y z a b c e f g h =
    let P : ℤ → Type 0 = λ r. (k : AreCoordinates r b c) → of x y z h ≡ of r b c k in
    let Q : ℤ → Type 0 = λ r. (k : AreCoordinates x r c) → of x y z h ≡ of x r c k in
    let R : ℤ → Type 0 = λ r. (k : AreCoordinates x y r) → of x y z h ≡ of x y r k in
    subst P e (subst Q f (subst R g (λ k. ap (of x y z) (are_coordinates_once x y z h k))))

-- points with the same coordinates are the same
pub same_point : (v w : Vec3) → v.x ≡ w.x → v.y ≡ w.y → v.z ≡ w.z → v ≡ w
same_point v w e f g = same_of v.x v.y v.z w.x w.y w.z e f g v.in_range w.in_range

-- a step with the same matrix and translation is the same
are_entries_once : (a : List (List ℤ)) → IsProp (AreEntries a)
are_entries_once a = hlevel props

abbrev step : (a : List (List ℤ)) (t : Vec3) → AreEntries a → Affine
step a t h = record { a = a; t = t; entries = h }

same_step : (a b : List (List ℤ)) (t u : Vec3) → a ≡ b → t ≡ u → (h : AreEntries a) (k : AreEntries b) → step a t h ≡ step b u k
same_step a b t u e f h =
    let P : List (List ℤ) → Type 0 = λ r. (k : AreEntries r) → step a t h ≡ step r u k in
    subst P e (λ k. ap (λ (w : Vec3). step a w h) f ∙ ap (step a u) (are_entries_once a h k))

pub same_affine : (m n : Affine) → m.a ≡ n.a → m.t ≡ n.t → m ≡ n
same_affine m n e f = same_step m.a n.a m.t n.t e f m.entries n.entries

-- a triangle with the same vertices and colours is the same
three_once : (v : List Vec3) (c : List (List ℕ)) → IsProp (AreThree v c)
three_once v c = hlevel props

abbrev corners : (v : List Vec3) (c : List (List ℕ)) → AreThree v c → Tri
corners v c h = record { v = v; c = c; three = h }

same_corners : (v w : List Vec3) (c d : List (List ℕ)) → v ≡ w → c ≡ d → (h : AreThree v c) (k : AreThree w d) → corners v c h ≡ corners w d k
same_corners v w c d e f h =
    let P : List Vec3 → Type 0 = λ r. (k : AreThree r d) → corners v c h ≡ corners r d k in
    let Q : List (List ℕ) → Type 0 = λ r. (k : AreThree v r) → corners v c h ≡ corners v r k in
    subst P e (subst Q f (λ k. ap (corners v c) (three_once v c h k)))

pub same_tri : (s t : Tri) → s.v ≡ t.v → s.c ≡ t.c → s ≡ t
same_tri s t e f = same_corners s.v t.v s.c t.c e f s.three t.three

-- coordinates pass the test
pub pass_coordinates : (x y z : ℤ) → AreCoordinates x y z → are_coordinates x y z ≡ true
pass_coordinates x y z h = rw (le-leb _ _ h.x_within.size, le-leb _ _ h.y_within.size, le-leb _ _ h.z_within.size) refl

made_of : (x y z : ℤ) (b : Bool) (e : are_coordinates x y z ≡ b) → AreCoordinates x y z → ((vector_if x y z b e).x ≡ x) × ((vector_if x y z b e).y ≡ y) × ((vector_if x y z b e).z ≡ z)
unfolding vector_if
made_of x y z true e h = (refl, refl, refl)
made_of x y z false e h = let k = pass_coordinates x y z h in absurd cc

-- the vector of coordinates has them
pub vector_has : (x y z : ℤ) → AreCoordinates x y z → ((vector x y z).x ≡ x) × ((vector x y z).y ≡ y) × ((vector x y z).z ≡ z)
unfolding vector
vector_has x y z h = made_of x y z (are_coordinates x y z) refl h

pub vector_is : (v : Vec3) (x y z : ℤ) → v.x ≡ x → v.y ≡ y → v.z ≡ z → v ≡ vector x y z
vector_is v x y z e f g =
    let h : AreCoordinates x y z = rw (← e, ← f, ← g) v.in_range in
    let k = vector_has x y z h in
    same_point v (vector x y z) (e ∙ sym k.0) (f ∙ sym k.1) (g ∙ sym k.2)

unmade : (x y z : ℤ) (b : Bool) (e : are_coordinates x y z ≡ b) → (AreCoordinates x y z → ⊥) → origin_vector ≡ vector_if x y z b e
unfolding vector_if
unmade x y z true e h = absurd (h (coordinates x y z e))
unmade x y z false e h = refl

-- numbers that are no coordinates make the point 0
pub vector_none : (x y z : ℤ) → (AreCoordinates x y z → ⊥) → origin_vector ≡ vector x y z
unfolding vector
vector_none x y z h = unmade x y z (are_coordinates x y z) refl h

-- entries pass the test
pass_row : (r : List ℤ) → IsRow r → is_row r ≡ true
pass_row r h = rw (le-leb _ _ h.first.size, le-leb _ _ h.second.size, le-leb _ _ h.third.size) refl

pub pass_entries : (a : List (List ℤ)) → AreEntries a → are_entries a ≡ true
pass_entries a h = rw (pass_row (row_at a 0) h.x_row, pass_row (row_at a 1) h.y_row, pass_row (row_at a 2) h.z_row) refl

step_of : (a : List (List ℤ)) (t : Vec3) (b : Bool) (e : are_entries a ≡ b) → AreEntries a → ((affine_if a t b e).a ≡ a) × ((affine_if a t b e).t ≡ t)
unfolding affine_if
step_of a t true e h = (refl, refl)
step_of a t false e h = let k = pass_entries a h in absurd cc

-- the step of entries has them
pub affine_has : (a : List (List ℤ)) (t : Vec3) → AreEntries a → ((affine a t).a ≡ a) × ((affine a t).t ≡ t)
unfolding affine
affine_has a t h = step_of a t (are_entries a) refl h

pub affine_is : (m : Affine) → m ≡ affine m.a m.t
affine_is m = let k = affine_has m.a m.t m.entries in same_affine m (affine m.a m.t) (sym k.0) (sym k.1)

no_step : (a : List (List ℤ)) (t : Vec3) (b : Bool) (e : are_entries a ≡ b) → b ≡ false → identity_step ≡ affine_if a t b e
unfolding affine_if
no_step a t true e h = absurd cc
no_step a t false e h = refl

pub affine_none : (a : List (List ℤ)) (t : Vec3) → are_entries a ≡ false → identity_step ≡ affine a t
unfolding affine
affine_none a t h = no_step a t (are_entries a) refl h
