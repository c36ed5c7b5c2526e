-- Linear functions along a row.
use Rattle.std.proofs.Common.{◌≡◌, ℕ, ◌+◌, ◌≤◌, ◌^◌, ap, ◌∙◌, lit≤, arith}
use Rattle.std.specs.Prelude.{ℤ, pos, ◌+ℤ◌, ◌*ℤ◌}
use Rattle.fx_math.specs.Limits.{size_limit}
use Rattle.fx_math.specs.Within.{IsWithin}
use Rattle.fx_math.proofs.Ring.{order, mul-add, times_one}
use Rattle.fx_math.proofs.Size.{within_add, within_mul, within_more}
use Rattle.tri_cover.specs.Linears.{value_at, step_of}
use Rattle.tri_cover.specs.declared.linear.Linear.{Linear}
use Rattle.tri_cover.proofs.FaceValues.{two_within}

pub place_fits : (n : ℕ) → n ≤ size_limit → IsWithin (2 ^ 10) (pos n)
place_fits n l = record { size = l }

pub value_within : (g : Linear) (px py : ℕ) → px ≤ size_limit → py ≤ size_limit → IsWithin (2 ^ 82) (value_at g px py)
value_within g px py column row =
    within_more (2 ^ 82)
    (within_add (within_add (within_mul (within_mul two_within g.wide.a_within) (place_fits px column)) (within_mul (within_mul two_within g.wide.b_within) (place_fits py row))) g.wide.c_within)
    (lit≤ tt)

pub step_within : (g : Linear) → IsWithin (2 ^ 64) (step_of g)
step_within g = within_more (2 ^ 64) (within_mul two_within g.wide.a_within) (lit≤ tt)

moved : (u a v c : ℤ) → (u +ℤ a) +ℤ v +ℤ c ≡ (u +ℤ v +ℤ c) +ℤ a
moved u a v c = omega (arith, order)

-- the value n pixels further on in the row
pub value_ahead : (g : Linear) (px py n : ℕ) → value_at g (px + n) py ≡ value_at g px py +ℤ step_of g *ℤ pos n
value_ahead g px py n =
    let step : step_of g *ℤ pos (px + n) ≡ step_of g *ℤ pos px +ℤ step_of g *ℤ pos n = mul-add (step_of g) (pos px) (pos n) in
    ap (λ (z : ℤ). z +ℤ (pos 2 *ℤ g.b) *ℤ pos py +ℤ g.c) step ∙ moved (step_of g *ℤ pos px) (step_of g *ℤ pos n) ((pos 2 *ℤ g.b) *ℤ pos py) g.c

pub value_after : (g : Linear) (px py : ℕ) → value_at g (px + 1) py ≡ value_at g px py +ℤ step_of g
value_after g px py = value_ahead g px py 1 ∙ ap (λ (z : ℤ). value_at g px py +ℤ z) (times_one (step_of g))
