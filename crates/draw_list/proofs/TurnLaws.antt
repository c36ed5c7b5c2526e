-- Points after a turn or a scaling, by those products alone that are not 0.
use Rattle.std.proofs.Common.{◌≡◌, ◌∙◌, ap, sym}
use Rattle.std.specs.Prelude.{ℤ, pos, neg_ℤ, ◌+ℤ◌, ◌*ℤ◌}
use lib.IntN.{*ℤ-zero, +ℤ_idr, +ℤ_idl}
use Rattle.fx_math.specs.Within.{IsCoordinate, AreCoordinates}
use Rattle.fx_math.specs.Plain.{Point, point}
use Rattle.fx_math.specs.Fixed.{clamp, moved, dot, apply}
use Rattle.fx_math.specs.Steps.{scaling}
use Rattle.fx_math.proofs.Containment.{clamp_same}
use Rattle.draw_list.specs.Steps.{rolled, pitched, turned}
use Rattle.draw_list.proofs.StepLaws.{moved_whole, three, first_alone, second_alone, third_alone}

-- ---- scalar products with a 0
without_first : (a b c d e : ℤ) → e *ℤ pos 0 +ℤ a *ℤ b +ℤ c *ℤ d ≡ a *ℤ b +ℤ c *ℤ d
without_first a b c d e = simp (*ℤ-zero, +ℤ_idl)

without_second : (a b c d e : ℤ) → a *ℤ b +ℤ e *ℤ pos 0 +ℤ c *ℤ d ≡ a *ℤ b +ℤ c *ℤ d
without_second a b c d e = simp (*ℤ-zero, +ℤ_idr)

without_third : (a b c d e : ℤ) → a *ℤ b +ℤ c *ℤ d +ℤ e *ℤ pos 0 ≡ a *ℤ b +ℤ c *ℤ d
without_third a b c d e = simp (*ℤ-zero, +ℤ_idr)

first_factor : (a b c k : ℤ) → a *ℤ k +ℤ b *ℤ pos 0 +ℤ c *ℤ pos 0 ≡ a *ℤ k
first_factor a b c k = simp (*ℤ-zero, +ℤ_idr)

second_factor : (a b c k : ℤ) → a *ℤ pos 0 +ℤ b *ℤ k +ℤ c *ℤ pos 0 ≡ b *ℤ k
second_factor a b c k = simp (*ℤ-zero, +ℤ_idr, +ℤ_idl)

third_factor : (a b c k : ℤ) → a *ℤ pos 0 +ℤ b *ℤ pos 0 +ℤ c *ℤ k ≡ c *ℤ k
third_factor a b c k = simp (*ℤ-zero, +ℤ_idl)

-- ---- a coordinate that stays
pub kept : (z : ℤ) → IsCoordinate z → moved (pos 65536 *ℤ z) (pos 0) ≡ z
kept z h = moved_whole z (pos 0) ∙ ap clamp (+ℤ_idr z) ∙ clamp_same z h

abbrev at : ℤ → ℤ
at sum = moved sum (pos 0)

-- ---- points
apply-turned : (s c : ℤ) (p : Point) → AreCoordinates p.x p.y p.z →
    point (moved (p.x *ℤ c +ℤ p.y *ℤ neg_ℤ s) (pos 0)) (moved (p.x *ℤ s +ℤ p.y *ℤ c) (pos 0)) p.z ≡ apply (turned s c) p
unfolding apply dot
apply-turned s c p h = sym
    (three _ _ _ _ _ _
    (ap at (without_third p.x c p.y (neg_ℤ s) p.z))
    (ap at (without_third p.x s p.y c p.z))
    (ap at (third_alone p.x p.y p.z) ∙ kept p.z h.z_within))

apply-pitched : (s c : ℤ) (p : Point) → AreCoordinates p.x p.y p.z →
    point p.x (moved (p.y *ℤ c +ℤ p.z *ℤ neg_ℤ s) (pos 0)) (moved (p.y *ℤ s +ℤ p.z *ℤ c) (pos 0)) ≡ apply (pitched s c) p
unfolding apply dot
apply-pitched s c p h = sym
    (three _ _ _ _ _ _
    (ap at (first_alone p.x p.y p.z) ∙ kept p.x h.x_within)
    (ap at (without_first p.y c p.z (neg_ℤ s) p.x))
    (ap at (without_first p.y s p.z c p.x)))

apply-rolled : (s c : ℤ) (p : Point) → AreCoordinates p.x p.y p.z →
    point (moved (p.x *ℤ c +ℤ p.z *ℤ s) (pos 0)) p.y (moved (p.x *ℤ neg_ℤ s +ℤ p.z *ℤ c) (pos 0)) ≡ apply (rolled s c) p
unfolding apply dot
apply-rolled s c p h = sym
    (three _ _ _ _ _ _
    (ap at (without_second p.x c p.z s p.y))
    (ap at (second_alone p.x p.y p.z) ∙ kept p.y h.y_within)
    (ap at (without_second p.x (neg_ℤ s) p.z c p.y)))

apply-scaling : (k : ℤ) (p : Point) →
    point (moved (p.x *ℤ k) (pos 0)) (moved (p.y *ℤ k) (pos 0)) (moved (p.z *ℤ k) (pos 0)) ≡ apply (scaling k) p
unfolding apply dot scaling
apply-scaling k p = sym
    (three _ _ _ _ _ _
    (ap at (first_factor p.x p.y p.z k))
    (ap at (second_factor p.x p.y p.z k))
    (ap at (third_factor p.x p.y p.z k)))

-- by their coordinates, each of which is told on its own
pub turned_by : (s c : ℤ) (p : Point) (x y z : ℤ) → AreCoordinates p.x p.y p.z →
    x ≡ moved (p.x *ℤ c +ℤ p.y *ℤ neg_ℤ s) (pos 0) → y ≡ moved (p.x *ℤ s +ℤ p.y *ℤ c) (pos 0) → z ≡ p.z → point x y z ≡ apply (turned s c) p
turned_by s c p x y z h e f g = three _ _ _ _ _ _ e f g ∙ apply-turned s c p h

pub pitched_by : (s c : ℤ) (p : Point) (x y z : ℤ) → AreCoordinates p.x p.y p.z →
    x ≡ p.x → y ≡ moved (p.y *ℤ c +ℤ p.z *ℤ neg_ℤ s) (pos 0) → z ≡ moved (p.y *ℤ s +ℤ p.z *ℤ c) (pos 0) → point x y z ≡ apply (pitched s c) p
pitched_by s c p x y z h e f g = three _ _ _ _ _ _ e f g ∙ apply-pitched s c p h

pub rolled_by : (s c : ℤ) (p : Point) (x y z : ℤ) → AreCoordinates p.x p.y p.z →
    x ≡ moved (p.x *ℤ c +ℤ p.z *ℤ s) (pos 0) → y ≡ p.y → z ≡ moved (p.x *ℤ neg_ℤ s +ℤ p.z *ℤ c) (pos 0) → point x y z ≡ apply (rolled s c) p
rolled_by s c p x y z h e f g = three _ _ _ _ _ _ e f g ∙ apply-rolled s c p h

pub scaled_by : (k : ℤ) (p : Point) (x y z : ℤ) →
    x ≡ moved (p.x *ℤ k) (pos 0) → y ≡ moved (p.y *ℤ k) (pos 0) → z ≡ moved (p.z *ℤ k) (pos 0) → point x y z ≡ apply (scaling k) p
scaled_by k p x y z e f g = three _ _ _ _ _ _ e f g ∙ apply-scaling k p
