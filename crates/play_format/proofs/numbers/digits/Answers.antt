use Rattle.std.proofs.Common.{◌≡◌, ◌∙◌, ◌-◌, get_or, take, length, arith, sym, true}
use Rattle.std.specs.Char.{is_ascii_digit}
use Rattle.std.specs.Str.Parse.{digits_value}
use Rattle.std.proofs.lemmas.Int.Digits.{digits_value_more}
use Rattle.play_format.proofs.NumberLemmas.{min_more, digit_value_is}
use Rattle.play_format.proofs.FrontLemmas.{digits_end, more_digits, read_so_far}
use Rattle.play_format.proofs.numbers.digits.Goals as goal

pub returns-then-not-is_ascii_digit-clause-len : goal.returns-then-not-is_ascii_digit-clause-len
returns-then-not-is_ascii_digit-clause-len c = digits_end c.args.text.now c.loop-len.len c.loop-len.auto.len-end c.loop-len.invariant.digits (λ _. sym c.is_ascii_digit.ensures.value ∙ c.if-not-is_ascii_digit.true)

pub returns-then-not-is_ascii_digit-clause-value : goal.returns-then-not-is_ascii_digit-clause-value
returns-then-not-is_ascii_digit-clause-value c = c.loop-len.invariant.so_far ∙ read_so_far c.args.text.now c.loop-len.len (returns-then-not-is_ascii_digit-clause-len c)

pub loop-len-preserved : goal.loop-len-preserved
loop-len-preserved c =
    let is : is_ascii_digit (get_or c.args.text.now c.loop-len.len 0) ≡ true = sym c.is_ascii_digit.ensures.value ∙ c.if-not-is_ascii_digit.false in
    record {
      digits = more_digits c.args.text.now c.loop-len.len c.loop-len.invariant.digits is;
      so_far = rw (digits_value_more 10 c.args.text.now c.loop-len.len c.loop-len-test.true, digit_value_is (get_or c.args.text.now c.loop-len.len 0) is, c.min-value.ensures, c.from.ensures, c.loop-len.invariant.so_far) (min_more (digits_value 10 (take c.loop-len.len c.args.text.now)) (get_or c.args.text.now c.loop-len.len 0 - 48));
    }

pub returns-clause-len : goal.returns-clause-len
returns-clause-len c =
    let e : c.loop-len.len ≡ length c.args.text.now = omega (arith, c.loop-len.auto.len-end, c.loop-len-test.false) in
    sym e ∙ digits_end c.args.text.now c.loop-len.len c.loop-len.auto.len-end c.loop-len.invariant.digits (λ lt. absurd (omega (arith, lt, e)))

pub returns-clause-value : goal.returns-clause-value
returns-clause-value c =
    let e : c.loop-len.len ≡ length c.args.text.now = omega (arith, c.loop-len.auto.len-end, c.loop-len-test.false) in
    c.loop-len.invariant.so_far ∙ read_so_far c.args.text.now c.loop-len.len (e ∙ returns-clause-len c)
