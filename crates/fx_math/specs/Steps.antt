-- The steps of a pose and of a view. Angles are tenths of a degree.
use Rattle.std.specs.Prelude.{ℕ, ◌-◌, ◌*◌, ◌/◌, List, [], ◌∷◌, if◌then◌else◌, nat_le, ℤ, pos, neg_ℤ, ◌+ℤ◌, unsigned_abs}
use Rattle.std.specs.Int.{int_rem_euclid}
use Rattle.fx_math.specs.Plain.{Point, Matrix, point}

-- Bhaskara's formula for the sine of 0 to 1800 tenths of a degree, in 1/65536, rounded down
unfoldable pub half_wave : ℕ → ℕ
half_wave x = let product = x * (1800 - x) in 65536 * (4 * product) / (4050000 - product)

-- the sine of an angle, which is first taken modulo a whole turn
unfoldable pub sine : ℤ → ℤ
sine x = let turned = unsigned_abs (int_rem_euclid x (pos 3600)) in
    if nat_le turned 1800 then pos (half_wave turned) else neg_ℤ (pos (half_wave (turned - 1800)))

unfoldable pub cosine : ℤ → ℤ
cosine x = sine (x +ℤ pos 900)

abbrev pub origin : Point
origin = point (pos 0) (pos 0) (pos 0)

-- the step that leaves each point as it is
abbrev pub identity : Matrix
identity = record {
  x = point (pos 65536) (pos 0) (pos 0);
  y = point (pos 0) (pos 65536) (pos 0);
  z = point (pos 0) (pos 0) (pos 65536);
  t = origin;
}

-- a scaling by k / 65536
unfoldable pub scaling : ℤ → Matrix
scaling k = record {
  x = point k (pos 0) (pos 0);
  y = point (pos 0) k (pos 0);
  z = point (pos 0) (pos 0) k;
  t = origin;
}

-- the roll by an angle, about Y
unfoldable pub roll : ℤ → Matrix
roll x = record {
  x = point (cosine x) (pos 0) (neg_ℤ (sine x));
  y = point (pos 0) (pos 65536) (pos 0);
  z = point (sine x) (pos 0) (cosine x);
  t = origin;
}

-- the pitch by an angle, about X
unfoldable pub pitch : ℤ → Matrix
pitch x = record {
  x = point (pos 65536) (pos 0) (pos 0);
  y = point (pos 0) (cosine x) (sine x);
  z = point (pos 0) (neg_ℤ (sine x)) (cosine x);
  t = origin;
}

-- the turn by a heading, about Z
unfoldable pub heading : ℤ → Matrix
heading x = record {
  x = point (cosine x) (sine x) (pos 0);
  y = point (neg_ℤ (sine x)) (cosine x) (pos 0);
  z = point (pos 0) (pos 0) (pos 65536);
  t = origin;
}

-- the translation by t
unfoldable pub shift : Point → Matrix
shift t = record {
  x = point (pos 65536) (pos 0) (pos 0);
  y = point (pos 0) (pos 65536) (pos 0);
  z = point (pos 0) (pos 0) (pos 65536);
  t = t;
}

-- the steps of a pose: scaled, rolled, pitched, turned by its heading, and moved
abbrev pub pose_steps : (scale h p r : ℤ) (t : Point) → List Matrix
pose_steps scale h p r t = scaling scale ∷ roll r ∷ pitch p ∷ heading h ∷ shift t ∷ []

-- the steps to the eye of a view that stands at a point and has a heading, a pitch and a roll
abbrev pub view_steps : (eye : Point) (h p r : ℤ) → List Matrix
view_steps eye h p r =
    shift (point (neg_ℤ eye.x) (neg_ℤ eye.y) (neg_ℤ eye.z)) ∷ heading (neg_ℤ h) ∷ pitch (neg_ℤ p) ∷ roll (neg_ℤ r) ∷ []
