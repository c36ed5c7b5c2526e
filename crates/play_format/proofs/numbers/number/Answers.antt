use Rattle.std.proofs.Common.{rules, ◌≡◌, arith, ap, Some, None, cond}
use Rattle.std.specs.Prelude.{◌<ℤ◌, ◌≤ℤ◌, FitsSigned, Ok}
use Rattle.std.specs.Int.{w32}
use Rattle.std.proofs.lemmas.Int.{ints}
use Rattle.std.proofs.lemmas.Result.{err_from_is_err_and}
use Rattle.play_format.specs.Rests.{front_word, held}
use Rattle.play_format.specs.Numbers.{number_at, is_number, value_of}
use Rattle.play_format.proofs.NumberLemmas.{number_below, number_above, number_within, number_none, some_held}
use Rattle.play_format.proofs.numbers.number.Goals as goal
use Rattle.play_format.proofs.numbers.number.Goals.{then-value-from-via-then-value-from, then-value-from-via-else-value-from+then-from-value}

pub returns-in_err-value : goal.returns-in_err-value
returns-in_err-value c =
    let p = err_from_is_err_and c.from_residual.result c.from_residual.ensures.1 in
    rw (p.1, p.2) (number_none c.args.limits (front_word c.args.line.now) c.in_err-value.field-0.0 c.in_err-value.ensures.0 c.in_err-value.ensures.1)

pub returns-then-value-from : goal.returns-then-value-from
returns-then-value-from c =
    let v = c.in_ok-value.value in
    let w = front_word c.args.line.now in
    let f : FitsSigned w32 c.args.limits.low = search rules in
    let g : FitsSigned w32 c.args.limits.high = search rules in
    let some : Some v ≡ cond (is_number w) (Some (held (value_of w))) None = some_held w v c.in_ok-value.ensures.0 c.in_ok-value.ensures.1 in
    elim c.then-value-from.branch [
      | then-value-from-via-then-value-from x ↦
          let h : v <ℤ c.args.limits.low = grind (arith, ints, x.if-value-from.true, c.from.ensures) in
          number_below c.args.limits w v some f h
      | then-value-from-via-else-value-from+then-from-value x ↦
          let h : c.args.limits.high <ℤ v = grind (arith, ints, x.if-from-value.true, x.from-else-value-from.ensures) in
          number_above c.args.limits w v some g h
    ]

pub returns : goal.returns
returns c =
    let v = c.in_ok-value.value in
    let w = front_word c.args.line.now in
    let f : FitsSigned w32 c.args.limits.low = search rules in
    let g : FitsSigned w32 c.args.limits.high = search rules in
    let some : Some v ≡ cond (is_number w) (Some (held (value_of w))) None = some_held w v c.in_ok-value.ensures.0 c.in_ok-value.ensures.1 in
    let h : c.args.limits.low ≤ℤ v = grind (arith, ints, c.if-value-from.false, c.from.ensures) in
    let i : v ≤ℤ c.args.limits.high = grind (arith, ints, c.if-from-value.false, c.from-else-value-from.ensures) in
    let e : number_at c.args.limits w ≡ Ok v = number_within c.args.limits w v some f g h i in
    (rw e (ap (λ z. Ok z) (omega (arith, ints))), c.in_ok-value.ensures.2)
