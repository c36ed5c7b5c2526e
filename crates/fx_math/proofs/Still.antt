-- The steps of a view of zeros leave each point as it is.
use Rattle.std.proofs.Common.{◌≡◌, ◌∙◌, ap, refl, arith}
use Rattle.std.specs.Prelude.{ℤ, pos, ◌+ℤ◌, ◌*ℤ◌}
use Rattle.std.proofs.lemmas.Int.{ints}
use lib.IntN.{*ℤ_comm, *ℤ-zero, +ℤ_idr, +ℤ_idl}
use Rattle.fx_math.specs.Within.{IsCoordinate, AreCoordinates}
use Rattle.fx_math.specs.Plain.{Point, Matrix}
use Rattle.fx_math.specs.Fixed.{floor_div, clamp, moved, dot, apply, carry}
use Rattle.fx_math.specs.Steps.{half_wave, sine, cosine, identity, origin, roll, pitch, heading, shift, view_steps}
use Rattle.fx_math.proofs.Same.{point_same}
use Rattle.fx_math.proofs.Floor.{floor_times}
use Rattle.fx_math.proofs.Containment.{clamp_same}

-- a coordinate is moved to itself by the entry 1 and no translation
moved_same : (z : ℤ) → IsCoordinate z → moved (pos 65536 *ℤ z) (pos 0) ≡ z
unfolding moved
moved_same z h =
    let whole : floor_div (pos 65536 *ℤ z) (pos 65536) ≡ z = floor_times (pos 65536) z (omega (arith, ints)) in
    ap (λ (q : ℤ). clamp (q +ℤ pos 0)) whole ∙ ap clamp (+ℤ_idr z) ∙ clamp_same z h

-- of a row of 1 and two times 0 the scalar product is one product
first_alone : (a b c : ℤ) → a *ℤ pos 65536 +ℤ b *ℤ pos 0 +ℤ c *ℤ pos 0 ≡ pos 65536 *ℤ a
first_alone a b c = simp (*ℤ-zero, +ℤ_idr) (*ℤ_comm a (pos 65536))

second_alone : (a b c : ℤ) → a *ℤ pos 0 +ℤ b *ℤ pos 65536 +ℤ c *ℤ pos 0 ≡ pos 65536 *ℤ b
second_alone a b c = simp (*ℤ-zero, +ℤ_idr, +ℤ_idl) (*ℤ_comm b (pos 65536))

third_alone : (a b c : ℤ) → a *ℤ pos 0 +ℤ b *ℤ pos 0 +ℤ c *ℤ pos 65536 ≡ pos 65536 *ℤ c
third_alone a b c = simp (*ℤ-zero, +ℤ_idr, +ℤ_idl) (*ℤ_comm c (pos 65536))

pub apply-identity : (p : Point) → AreCoordinates p.x p.y p.z → apply identity p ≡ p
unfolding apply dot
apply-identity p h =
    point_same p _ _ _
    (ap (λ (a : ℤ). moved a (pos 0)) (first_alone p.x p.y p.z) ∙ moved_same p.x h.x_within)
    (ap (λ (a : ℤ). moved a (pos 0)) (second_alone p.x p.y p.z) ∙ moved_same p.y h.y_within)
    (ap (λ (a : ℤ). moved a (pos 0)) (third_alone p.x p.y p.z) ∙ moved_same p.z h.z_within)

pub heading_zero : heading (pos 0) ≡ identity
unfolding heading cosine sine half_wave
heading_zero = refl

pub pitch_zero : pitch (pos 0) ≡ identity
unfolding pitch cosine sine half_wave
pitch_zero = refl

pub roll_zero : roll (pos 0) ≡ identity
unfolding roll cosine sine half_wave
roll_zero = refl

pub shift_zero : shift origin ≡ identity
unfolding shift
shift_zero = refl

-- a step that is the identity leaves each point as it is
pub still : (m : Matrix) (p : Point) → m ≡ identity → AreCoordinates p.x p.y p.z → apply m p ≡ p
still m p e h = ap (λ (n : Matrix). apply n p) e ∙ apply-identity p h

pub carry-view_of_zeros : (p : Point) → AreCoordinates p.x p.y p.z → carry (view_steps origin (pos 0) (pos 0) (pos 0)) p ≡ p
carry-view_of_zeros p h =
    ap (λ (q : Point). apply (roll (pos 0)) (apply (pitch (pos 0)) (apply (heading (pos 0)) q))) (still (shift origin) p shift_zero h)
    ∙ ap (λ (q : Point). apply (roll (pos 0)) (apply (pitch (pos 0)) q)) (still (heading (pos 0)) p heading_zero h)
    ∙ ap (λ (q : Point). apply (roll (pos 0)) q) (still (pitch (pos 0)) p pitch_zero h)
    ∙ still (roll (pos 0)) p roll_zero h
