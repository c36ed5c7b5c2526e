-- Linear functions of the pixel.
use Rattle.std.specs.Prelude.{◌≡◌, ℕ, ℤ, pos, ◌+ℤ◌, ◌*ℤ◌, unsigned_abs}
use Rattle.tri_cover.specs.Coefficients.{AreNarrow}
use Rattle.tri_cover.specs.declared.linear.Linear.{Linear}

-- the value at the pixel (px, py)
abbrev pub value_at : Linear → (px py : ℕ) → ℤ
value_at g px py = (pos 2 *ℤ g.a) *ℤ pos px +ℤ (pos 2 *ℤ g.b) *ℤ pos py +ℤ g.c

-- by how much the value changes from a pixel to the next one of its row
abbrev pub step_of : Linear → ℤ
step_of g = pos 2 *ℤ g.a

-- the value at the pixel (px, py), where it is not below 0
abbrev pub weight_at : Linear → (px py : ℕ) → ℕ
weight_at g px py = unsigned_abs (value_at g px py)

-- the function has the coefficients of an edge value
abbrev pub IsNarrow : Linear → Type 0
IsNarrow g = AreNarrow g.a g.b g.c

-- the function is the sum of three
pub record IsTotal (e0 e1 e2 sum : Linear) : Type 0 where
  pub a_is : sum.a ≡ e0.a +ℤ e1.a +ℤ e2.a
  pub b_is : sum.b ≡ e0.b +ℤ e1.b +ℤ e2.b
  pub c_is : sum.c ≡ e0.c +ℤ e1.c +ℤ e2.c
