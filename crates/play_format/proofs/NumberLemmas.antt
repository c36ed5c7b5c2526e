-- Numbers read byte by byte, and held at a bound.
use Rattle.std.proofs.Common.{◌≡◌, ℕ, ◌+◌, ◌*◌, ◌-◌, arith, refl, true, false, cond, rules, Bool, List, Some, None, Result, Ok, Err, ◌&&◌}
use Rattle.std.specs.Prelude.{min, ℤ, int_le, ◌<ℤ◌, ◌≤ℤ◌, FitsSigned}
use Rattle.std.specs.Int.{w32}
use Rattle.std.specs.Char.{is_ascii_digit, digit_value}
use Rattle.std.proofs.lemmas.Int.{ints, clamps}
use Rattle.play_format.specs.declared.refusal.Why.{Why}
use Rattle.play_format.specs.declared.refusal.Why.TheVariants as whys
use Rattle.play_format.specs.declared.numbers.Limits.{Limits}
use Rattle.play_format.specs.Numbers.{number_at, is_number, value_of}
use Rattle.play_format.specs.Rests.{held}

-- a digit more, of a number that is held at a bound
pub min_more : (a d : ℕ) → min (min a 1099511627776 * 10 + d) 1099511627776 ≡ min (a * 10 + d) 1099511627776
min_more a d = omega arith

pub digit_value_is : (b : ℕ) → is_ascii_digit b ≡ true → digit_value b ≡ b - 48
digit_value_is b h = search rules

pub held_below : (lo z : ℤ) → FitsSigned w32 lo → held z <ℤ lo → int_le lo z ≡ false
held_below lo z fits h = let k : z <ℤ lo = omega (arith, ints, clamps) in grind (arith, ints)

pub held_above : (hi z : ℤ) → FitsSigned w32 hi → hi <ℤ held z → int_le z hi ≡ false
held_above hi z fits h = let k : hi <ℤ z = omega (arith, ints, clamps) in grind (arith, ints)

pub held_within : (lo hi z : ℤ) → FitsSigned w32 lo → FitsSigned w32 hi → lo ≤ℤ held z → held z ≤ℤ hi → (int_le lo z ≡ true) × (int_le z hi ≡ true) × (held z ≡ z)
held_within lo hi z f g h k =
    let low : lo ≤ℤ z = omega (arith, ints, clamps) in
    let high : z ≤ℤ hi = omega (arith, ints, clamps) in
    (grind (arith, ints), grind (arith, ints), omega (arith, ints, clamps))

abbrev judged : Bool → ℤ → ℤ → ℤ → Result ℤ Why
judged b lo hi z = cond b (cond (int_le lo z && int_le z hi) (Ok z) (Err whys.Range)) (Err whys.Number)

below_judged : (b : Bool) (lo hi z v : ℤ) → Some v ≡ cond b (Some (held z)) None → FitsSigned w32 lo → v <ℤ lo → judged b lo hi z ≡ Err whys.Range
below_judged true lo hi z v e f h = let k : v ≡ held z = cc in rw (held_below lo z f (rw (← k) h)) refl
below_judged false lo hi z v e f h = absurd cc

above_judged : (b : Bool) (lo hi z v : ℤ) → Some v ≡ cond b (Some (held z)) None → FitsSigned w32 hi → hi <ℤ v → judged b lo hi z ≡ Err whys.Range
above_judged true lo hi z v e f h = let k : v ≡ held z = cc in
    let not_below : int_le z hi ≡ false = held_above hi z f (rw (← k) h) in
    rw not_below (elim (int_le lo z) as (λ t. cond (t && false) (Ok z) (Err whys.Range) ≡ Err whys.Range) [ true ↦ refl | false ↦ refl ])
above_judged false lo hi z v e f h = absurd cc

within_judged : (b : Bool) (lo hi z v : ℤ) → Some v ≡ cond b (Some (held z)) None → FitsSigned w32 lo → FitsSigned w32 hi → lo ≤ℤ v → v ≤ℤ hi → judged b lo hi z ≡ Ok v
within_judged true lo hi z v e f g h i = let k : v ≡ held z = cc in
    let all = held_within lo hi z f g (rw (← k) h) (rw (← k) i) in
    rw (all.0, all.1, k, all.2) refl
within_judged false lo hi z v e f g h i = absurd cc

pub number_below : (r : Limits) (w : List ℕ) (v : ℤ) → Some v ≡ cond (is_number w) (Some (held (value_of w))) None → FitsSigned w32 r.low → v <ℤ r.low → number_at r w ≡ Err whys.Range
unfolding number_at
number_below r w v e f h = below_judged (is_number w) r.low r.high (value_of w) v e f h

pub number_above : (r : Limits) (w : List ℕ) (v : ℤ) → Some v ≡ cond (is_number w) (Some (held (value_of w))) None → FitsSigned w32 r.high → r.high <ℤ v → number_at r w ≡ Err whys.Range
unfolding number_at
number_above r w v e f h = above_judged (is_number w) r.low r.high (value_of w) v e f h

pub number_within : (r : Limits) (w : List ℕ) (v : ℤ) → Some v ≡ cond (is_number w) (Some (held (value_of w))) None → FitsSigned w32 r.low → FitsSigned w32 r.high → r.low ≤ℤ v → v ≤ℤ r.high → number_at r w ≡ Ok v
unfolding number_at
number_within r w v e f g h i = within_judged (is_number w) r.low r.high (value_of w) v e f g h i

pub number_none : (r : Limits) (w : List ℕ) (why : Why) → why ≡ whys.Number → is_number w ≡ false → number_at r w ≡ Err why
unfolding number_at
number_none r w why e h = rw (h, e) refl

pub some_held : (w : List ℕ) (v : ℤ) → is_number w ≡ true → v ≡ held (value_of w) → Some v ≡ cond (is_number w) (Some (held (value_of w))) None
some_held w v e h = rw (e, h) refl
