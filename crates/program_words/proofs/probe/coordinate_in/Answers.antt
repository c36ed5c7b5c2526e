use Rattle.std.proofs.Common.{◌≡◌, ◌∙◌, Ok, Some, None, sym, arith, rules, ap}
use Rattle.std.specs.Prelude.{FitsSigned}
use Rattle.std.specs.Fmt.{signed_decimal}
use Rattle.std.specs.Int.{w32}
use Rattle.std.specs.Str.Parse.{ParsesSigned}
use Rattle.std.proofs.lemmas.Int.{ints, to_z-of_z}
use Rattle.std.proofs.lemmas.Slice.Eq.{bytes_eq-Decides}
use Rattle.play_format.specs.Commands.{coordinate}
use Rattle.play_format.specs.Places.{IsWithin}
use Rattle.program_words.proofs.Coordinates.{coordinate_found, coordinate_none, coordinate_parsed, not_written}
use Rattle.program_words.proofs.probe.coordinate_in.Goals as goal
use Rattle.program_words.proofs.probe.coordinate_in.Goals.{then-number-via-then-number, then-number-via-else-number+then-number-gt-MAX_COORDINATE, then-number-via-else-number+else-number-gt-MAX_COORDINATE+then-not-is_written}

pub returns-in_err-number-clause-value : goal.returns-in_err-number-clause-value
returns-in_err-number-clause-value c =
    let parsed : ParsesSigned w32 10 c.args.text.now c.parse.result = search rules in
    let none : c.ok.result ≡ None = c.in_err-number.was in
    c.from_residual.ensures ∙ sym (coordinate_none c.args.text.now (λ z e within.
    let r : c.parse.result ≡ Ok z = coordinate_parsed z c.args.text.now c.parse.result parsed e within in
    let some : c.ok.result ≡ Some z = search rules in
    absurd cc))

pub returns-then-number-clause-value : goal.returns-then-number-clause-value
returns-then-number-clause-value c =
    let parsed : ParsesSigned w32 10 c.args.text.now c.parse.result = search rules in
    let read : c.parse.result ≡ Ok c.in_ok-number.number = search rules in
    let fits : FitsSigned w32 c.in_ok-number.number = search rules in
    sym (coordinate_none c.args.text.now (λ z e within.
    let r : c.parse.result ≡ Ok z = coordinate_parsed z c.args.text.now c.parse.result parsed e within in
    let same : c.in_ok-number.number ≡ z = cc in
    let low = within.low in
    let high = within.high in
    elim c.then-number.branch [
      | then-number-via-then-number w ↦ absurd (let l = w.if-number.true in grind (arith, ints, l, low, same))
      | then-number-via-else-number+then-number-gt-MAX_COORDINATE w ↦ absurd (let l = w.if-number-gt-MAX_COORDINATE.true in grind (arith, ints, l, high, same))
      | then-number-via-else-number+else-number-gt-MAX_COORDINATE+then-not-is_written w ↦
          let no = rw (to_z-of_z w32 c.in_ok-number.number fits) at (sym w.is_written.ensures ∙ w.if-not-is_written.true) in
          absurd (not_written c.in_ok-number.number c.args.text.now (e ∙ ap signed_decimal (sym same)) no)
    ]))

pub returns-clause-value : goal.returns-clause-value
returns-clause-value c =
    let z = c.in_ok-number.number in
    let fits : FitsSigned w32 z = search rules in
    let same = rw (to_z-of_z w32 z fits) at (sym c.is_written.ensures ∙ c.if-not-is_written.false) in
    let written : c.args.text.now ≡ signed_decimal z = sym ((bytes_eq-Decides (signed_decimal z) c.args.text.now).0 same) in
    let within : IsWithin coordinate z = record { low = grind (arith, ints, c.if-number.false); high = grind (arith, ints, c.if-number-gt-MAX_COORDINATE.false) } in
    ap Some (to_z-of_z w32 z fits) ∙ sym (coordinate_found z c.args.text.now written within)
