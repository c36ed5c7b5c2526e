-- How large bytes, and the steps of weighed sums, are.
use Rattle.std.proofs.Common.{◌≡◌, ℕ, ◌*◌, ◌<◌, ◌^◌, lit<, lit≤, sym, subst, to_z, of_z, arith}
use Rattle.std.specs.Prelude.{ℤ, pos}
use mir.Syntax.{w64}
use Rattle.fx_math.specs.Within.{IsWithin}
use Rattle.fx_math.proofs.Size.{back, within_add, within_mul, within_more}
use Rattle.span_shading.specs.Mixing.{mix}
use Rattle.span_shading.specs.declared.lines.Line.{Line}

pub byte_within : (n : ℕ) → n < 2 ^ 8 → IsWithin (2 ^ 8) (pos n)
byte_within n l = record { size = omega (arith, l) }

-- as it is passed on
passed : {m : ℕ} (z : ℤ) → IsWithin m z → m < 2 ^ 63 → IsWithin m (to_z w64 (of_z w64 z))
passed {m} z small l = subst (λ (y : ℤ). IsWithin m y) (sym (back w64 small l)) small

-- the step of a channel of three vertices
pub step_within : (x y z : ℕ) (first second third : Line) (s : ℤ) → x < 2 ^ 8 → y < 2 ^ 8 → z < 2 ^ 8
    → s ≡ mix x y z (to_z w64 (of_z w64 first.step)) (to_z w64 (of_z w64 second.step)) (to_z w64 (of_z w64 third.step)) → IsWithin (3 * 2 ^ 48) (to_z w64 (of_z w64 s))
step_within x y z first second third s l m n is =
    let a = within_mul (byte_within x l) (passed first.step first.step_small (lit< tt)) in
    let b = within_mul (byte_within y m) (passed second.step second.step_small (lit< tt)) in
    let c = within_mul (byte_within z n) (passed third.step third.step_small (lit< tt)) in
    let whole : IsWithin (3 * 2 ^ 48) s = subst (λ (y : ℤ). IsWithin (3 * 2 ^ 48) y) (sym is) (within_more (3 * 2 ^ 48) (within_add (within_add a b) c) (lit≤ tt)) in
    passed s whole (lit< tt)
