-- What the laws of quotients and edge values say.
use Rattle.std.specs.Prelude.{ℤ, pos, negsuc, ◌+ℤ◌, ◌-ℤ◌, ◌*ℤ◌, ◌≤ℤ◌}
use Rattle.fx_math.specs.Plain.{Point, point}
use Rattle.fx_math.specs.Hit.{Edges}

-- the whole number z is at most n / d, for a divisor that is not 0: a negative one turns the order
abbrev pub IsAtMostQuotient : (n d z : ℤ) → Type 0
IsAtMostQuotient n (pos d) z = (pos d *ℤ z) ≤ℤ n
IsAtMostQuotient n (negsuc d) z = n ≤ℤ (negsuc d *ℤ z)

-- q is the greatest whole number that is at most n / d
pub record IsFloor (n d q : ℤ) : Type 0 where
  pub at_most : IsAtMostQuotient n d q
  pub greatest : (z : ℤ) → IsAtMostQuotient n d z → z ≤ℤ q

-- the side from p to q
abbrev pub side : Point → Point → Point
side p q = point (q.x -ℤ p.x) (q.y -ℤ p.y) (q.z -ℤ p.z)

-- a point times a number
abbrev pub scaled : ℤ → Point → Point
scaled k p = point (k *ℤ p.x) (k *ℤ p.y) (k *ℤ p.z)

-- the sum of three points, each times its edge value
abbrev pub weighed : Edges → Point → Point → Point → Point
weighed e u v w = point
    (e.e0 *ℤ u.x +ℤ e.e1 *ℤ v.x +ℤ e.e2 *ℤ w.x)
    (e.e0 *ℤ u.y +ℤ e.e1 *ℤ v.y +ℤ e.e2 *ℤ w.y)
    (e.e0 *ℤ u.z +ℤ e.e1 *ℤ v.z +ℤ e.e2 *ℤ w.z)
