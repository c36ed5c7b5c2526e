use Rattle.std.proofs.Common.{◌≡◌, ◌∙◌, Ok, Some, None, sym, arith, rules}
use Rattle.std.specs.Prelude.{decimal}
use Rattle.std.specs.Str.Parse.{ParsesUnsigned}
use Rattle.std.proofs.lemmas.Slice.Eq.{bytes_eq-Decides}
use Rattle.program_words.proofs.Numbers.{number_found, number_none, parse_found}
use Rattle.program_words.proofs.values.number_in.Goals as goal
use Rattle.program_words.proofs.values.number_in.Goals.{then-number-low-via-then-number-low, then-number-low-via-else-number-low+then-high-number, then-number-low-via-else-number-low+else-high-number+then-not-is_written}

pub returns-in_err-number-clause-value : goal.returns-in_err-number-clause-value
returns-in_err-number-clause-value c =
    let parsed : ParsesUnsigned 16 10 c.args.text.now c.parse.result = search rules in
    let none : c.ok.result ≡ None = c.in_err-number.was in
    c.from_residual.ensures ∙ sym (number_none c.args.low c.args.high c.args.text.now (λ n e a b.
    let r : c.parse.result ≡ Ok n = parse_found n c.args.text.now c.parse.result (omega (arith, b, c.ranges.high.fits)) parsed e in
    let some : c.ok.result ≡ Some n = search rules in
    absurd cc))

pub returns-then-number-low-clause-value : goal.returns-then-number-low-clause-value
returns-then-number-low-clause-value c =
    let parsed : ParsesUnsigned 16 10 c.args.text.now c.parse.result = search rules in
    let read : c.parse.result ≡ Ok c.in_ok-number.number = search rules in
    sym (number_none c.args.low c.args.high c.args.text.now (λ n e a b.
    let r : c.parse.result ≡ Ok n = parse_found n c.args.text.now c.parse.result (omega (arith, b, c.ranges.high.fits)) parsed e in
    let same : c.in_ok-number.number ≡ n = cc in
    elim c.then-number-low.branch [
      | then-number-low-via-then-number-low w ↦ absurd (let l = w.if-number-low.true in omega (arith, l, a, same))
      | then-number-low-via-else-number-low+then-high-number w ↦ absurd (let l = w.if-high-number.true in omega (arith, l, b, same))
      | then-number-low-via-else-number-low+else-high-number+then-not-is_written w ↦ absurd (let yes = (bytes_eq-Decides (decimal n) c.args.text.now).1 (sym e) in let no = w.is_written.ensures in let is = w.if-not-is_written.true in cc)
    ]))

pub returns-clause-value : goal.returns-clause-value
returns-clause-value c =
    let n = c.in_ok-number.number in
    let written : c.args.text.now ≡ decimal n = sym ((bytes_eq-Decides (decimal n) c.args.text.now).0 (sym c.is_written.ensures ∙ c.if-not-is_written.false)) in
    sym (number_found c.args.low c.args.high n c.args.text.now (omega (arith, c.if-high-number.false, c.ranges.high.fits)) written (omega (arith, c.if-number-low.false)) (omega (arith, c.if-high-number.false)))
