-- Steps in the form that costs least are the steps that they stand for.
use Rattle.std.proofs.Common.{◌≡◌, ◌∙◌, List, ap, sym, refl, arith}
use Rattle.std.specs.Prelude.{ℤ, pos, ◌+ℤ◌, ◌*ℤ◌}
use Rattle.std.proofs.lemmas.Int.{ints}
use lib.IntN.{*ℤ_comm, *ℤ-zero, +ℤ_idr, +ℤ_idl}
use Rattle.fx_math.specs.Plain.{Point, Matrix, point, matrix}
use Rattle.fx_math.specs.Fixed.{floor_div, clamp, moved, dot, apply}
use Rattle.fx_math.specs.Steps.{sine, cosine, identity, scaling, roll, pitch, heading, shift}
use Rattle.fx_math.proofs.Floor.{floor_times}
use Rattle.fx_math.proofs.Still.{shift_zero}
use Rattle.draw_list.specs.Steps.{unit_rows, rolled, pitched, turned}

-- ---- steps that only shift
pub moved_whole : (z t : ℤ) → moved (pos 65536 *ℤ z) t ≡ clamp (z +ℤ t)
unfolding moved
moved_whole z t =
    let whole : floor_div (pos 65536 *ℤ z) (pos 65536) ≡ z = floor_times (pos 65536) z (omega (arith, ints)) in
    ap (λ (q : ℤ). clamp (q +ℤ t)) whole

pub first_alone : (a b c : ℤ) → a *ℤ pos 65536 +ℤ b *ℤ pos 0 +ℤ c *ℤ pos 0 ≡ pos 65536 *ℤ a
first_alone a b c = simp (*ℤ-zero, +ℤ_idr) (*ℤ_comm a (pos 65536))

pub second_alone : (a b c : ℤ) → a *ℤ pos 0 +ℤ b *ℤ pos 65536 +ℤ c *ℤ pos 0 ≡ pos 65536 *ℤ b
second_alone a b c = simp (*ℤ-zero, +ℤ_idr, +ℤ_idl) (*ℤ_comm b (pos 65536))

pub third_alone : (a b c : ℤ) → a *ℤ pos 0 +ℤ b *ℤ pos 0 +ℤ c *ℤ pos 65536 ≡ pos 65536 *ℤ c
third_alone a b c = simp (*ℤ-zero, +ℤ_idr, +ℤ_idl) (*ℤ_comm c (pos 65536))

pub three : (x y z u v w : ℤ) → x ≡ u → y ≡ v → z ≡ w → point x y z ≡ point u v w
three x y z u v w f g h =
    ap (λ (a : ℤ). point a y z) f ∙ ap (λ (a : ℤ). point u a z) g ∙ ap (λ (a : ℤ). point u v a) h

-- a shift adds to each coordinate, clamped
pub apply-shift : (p t : Point) → point (clamp (p.x +ℤ t.x)) (clamp (p.y +ℤ t.y)) (clamp (p.z +ℤ t.z)) ≡ apply (shift t) p
unfolding apply dot shift
apply-shift p t = sym
    (three _ _ _ _ _ _
    (ap (λ (a : ℤ). moved a t.x) (first_alone p.x p.y p.z) ∙ moved_whole p.x t.x)
    (ap (λ (a : ℤ). moved a t.y) (second_alone p.x p.y p.z) ∙ moved_whole p.y t.y)
    (ap (λ (a : ℤ). moved a t.z) (third_alone p.x p.y p.z) ∙ moved_whole p.z t.z))

pub unit_shifts : (a : List (List ℤ)) (t : Point) → a ≡ unit_rows → shift t ≡ matrix a t
unfolding shift
unit_shifts a t e = ap (λ (rows : List (List ℤ)). matrix rows t) (sym e)

pub unit_still : (a : List (List ℤ)) (t : Point) → a ≡ unit_rows → t ≡ point (pos 0) (pos 0) (pos 0) → identity ≡ matrix a t
unit_still a t e z = sym shift_zero ∙ ap shift (sym z) ∙ unit_shifts a t e

-- ---- scalings and turns
pub scale_none : (k : ℤ) → k ≡ pos 65536 → identity ≡ scaling k
unfolding scaling
scale_none k e = ap (λ (a : ℤ). scaling a) (sym e)

pub roll_is : (x : ℤ) → rolled (sine x) (cosine x) ≡ roll x
unfolding roll
roll_is x = refl

pub pitch_is : (x : ℤ) → pitched (sine x) (cosine x) ≡ pitch x
unfolding pitch
pitch_is x = refl

pub heading_is : (x : ℤ) → turned (sine x) (cosine x) ≡ heading x
unfolding heading
heading_is x = refl

-- by the sine and the cosine of an angle
told : (f : ℤ → ℤ → Matrix) (s c a b : ℤ) → s ≡ a → c ≡ b → f s c ≡ f a b
told f s c a b e g = ap (λ (k : ℤ). f k c) e ∙ ap (f a) g

pub rolls : (x s c : ℤ) → s ≡ sine x → c ≡ cosine x → rolled s c ≡ roll x
rolls x s c e g = told rolled s c (sine x) (cosine x) e g ∙ roll_is x

pub pitches : (x s c : ℤ) → s ≡ sine x → c ≡ cosine x → pitched s c ≡ pitch x
pitches x s c e g = told pitched s c (sine x) (cosine x) e g ∙ pitch_is x

pub turns : (x s c : ℤ) → s ≡ sine x → c ≡ cosine x → turned s c ≡ heading x
turns x s c e g = told turned s c (sine x) (cosine x) e g ∙ heading_is x

-- a turn of the sine 0 and the cosine 1 moves no point
still : (f : ℤ → ℤ → Matrix) (s c : ℤ) → s ≡ pos 0 → c ≡ pos 65536 → f (pos 0) (pos 65536) ≡ f s c
still f s c e g = sym (told f s c (pos 0) (pos 65536) e g)

pub roll_none : (x s c : ℤ) → s ≡ sine x → c ≡ cosine x → s ≡ pos 0 → c ≡ pos 65536 → identity ≡ roll x
roll_none x s c e g i j = still rolled s c i j ∙ rolls x s c e g

pub pitch_none : (x s c : ℤ) → s ≡ sine x → c ≡ cosine x → s ≡ pos 0 → c ≡ pos 65536 → identity ≡ pitch x
pitch_none x s c e g i j = still pitched s c i j ∙ pitches x s c e g

pub heading_none : (x s c : ℤ) → s ≡ sine x → c ≡ cosine x → s ≡ pos 0 → c ≡ pos 65536 → identity ≡ heading x
heading_none x s c e g i j = still turned s c i j ∙ turns x s c e g
