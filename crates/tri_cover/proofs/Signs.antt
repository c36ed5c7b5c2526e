-- The test of the edge values by the sign of the determinant.
use Rattle.std.proofs.Common.{◌≡◌, Bool, true, false, ◌&&◌, ◌||◌, refl, arith}
use Rattle.std.specs.Prelude.{ℤ, pos, ◌≤ℤ◌, ◌<ℤ◌, int_lt}
use Rattle.std.proofs.lemmas.Int.{ints}
use Rattle.fx_math.specs.Hit.{Edges, is_inside}
use Rattle.tri_cover.specs.Edges.{are_not_below_zero, are_not_above_zero}

is_below : (a b : ℤ) → a <ℤ b → int_lt a b ≡ true
is_below a b h = grind (arith, ints)

is_not_below : (a b : ℤ) → b ≤ℤ a → int_lt a b ≡ false
is_not_below a b h = grind (arith, ints)

only_first : (p q a b : Bool) → p ≡ true → q ≡ false → ((p && a) || (q && b)) ≡ a
only_first true false true b h e = refl
only_first true false false b h e = refl
only_first true true a b h e = cc
only_first false q a b h e = cc

only_second : (p q a b : Bool) → p ≡ false → q ≡ true → ((p && a) || (q && b)) ≡ b
only_second false true a b h e = refl
only_second false false a b h e = cc
only_second true q a b h e = cc

neither : (p q a b : Bool) → p ≡ false → q ≡ false → ((p && a) || (q && b)) ≡ false
neither false false a b h e = refl
neither false true a b h e = cc
neither true q a b h e = cc

pub inside_above : (volume : ℤ) (e : Edges) → pos 0 <ℤ volume → is_inside volume e ≡ are_not_below_zero e
unfolding is_inside
inside_above volume e h =
    only_first (int_lt (pos 0) volume) (int_lt volume (pos 0)) _ _ (is_below (pos 0) volume h) (is_not_below volume (pos 0) (omega (arith, ints)))

pub inside_below : (volume : ℤ) (e : Edges) → volume <ℤ pos 0 → is_inside volume e ≡ are_not_above_zero e
unfolding is_inside
inside_below volume e h =
    only_second (int_lt (pos 0) volume) (int_lt volume (pos 0)) _ _ (is_not_below (pos 0) volume (omega (arith, ints))) (is_below volume (pos 0) h)

pub inside_flat : (volume : ℤ) (e : Edges) → volume ≤ℤ pos 0 → pos 0 ≤ℤ volume → is_inside volume e ≡ false
unfolding is_inside
inside_flat volume e h g =
    neither (int_lt (pos 0) volume) (int_lt volume (pos 0)) _ _ (is_not_below (pos 0) volume h) (is_not_below volume (pos 0) g)
