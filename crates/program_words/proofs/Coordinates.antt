-- The coordinate that a text spells, beside what a parse gives.
use Rattle.std.proofs.Common.{◌≡◌, ◌∙◌, ℕ, ◌<◌, ◌^◌, List, Some, None, Result, Ok, Err, ℤ, pos, negsuc, false, refl, sym, ap, arith}
use Rattle.std.specs.Prelude.{FitsSigned}
use Rattle.std.specs.Int.{w32}
use Rattle.std.specs.Fmt.{signed_decimal}
use Rattle.std.specs.Result.{result_ok}
use Rattle.std.specs.Str.{bytes_eq}
use Rattle.std.specs.Str.Parse.{ParsesSigned}
use Rattle.std.proofs.lemmas.Int.{ints}
use Rattle.std.proofs.lemmas.Fmt.{parse-signed_decimal}
use Rattle.std.proofs.lemmas.Slice.Eq.{bytes_eq-Decides}
use Rattle.play_format.specs.declared.refusal.Why.{Why}
use Rattle.play_format.specs.Commands.{coordinate}
use Rattle.play_format.specs.Numbers.{number_at}
use Rattle.play_format.specs.Places.{IsWithin}
use Rattle.play_format.proofs.EntryLemmas.{number_within}
use Rattle.play_format.proofs.SpellLemmas.{number_spelled, number_again}
use Rattle.program_words.specs.Probes.{coordinate_in}

-- a text that is written like a coordinate spells it
pub coordinate_found : (z : ℤ) (text : List ℕ) → text ≡ signed_decimal z → IsWithin coordinate z → coordinate_in text ≡ Some z
coordinate_found z text e within = ap result_ok (ap (number_at coordinate) e ∙ number_again coordinate z refl within)

-- and no other text spells one
pub coordinate_none : (text : List ℕ) → ((z : ℤ) → text ≡ signed_decimal z → IsWithin coordinate z → ⊥) → coordinate_in text ≡ None
coordinate_none text none = by (number_at coordinate text) refl
  where
    by : (r : Result ℤ Why) → number_at coordinate text ≡ r → result_ok r ≡ None
    by (Ok z) e = absurd (none z (sym (number_spelled coordinate text z refl e)) (number_within coordinate text z e))
    by (Err why) e = refl

-- the parse of such a text gives the coordinate
pub coordinate_parsed : {E : Type 0} (z : ℤ) (text : List ℕ) (r : Result ℤ E) → ParsesSigned w32 10 text r → text ≡ signed_decimal z →
    IsWithin coordinate z → r ≡ Ok z
coordinate_parsed (pos n) text r parsed e within =
    let fits : FitsSigned w32 (pos n) = omega (arith, ints, within.high) in
    let small : n < 2 ^ 63 = omega (arith, ints, within.high) in
    parse-signed_decimal w32 (pos n) text r fits small e parsed
coordinate_parsed (negsuc n) text r parsed e within =
    let fits : FitsSigned w32 (negsuc n) = omega (arith, ints, within.low) in
    let small : n < 2 ^ 63 = omega (arith, ints, within.low) in
    parse-signed_decimal w32 (negsuc n) text r fits small e parsed

-- a text that is not written like a number is another
pub not_written : (z : ℤ) (text : List ℕ) → text ≡ signed_decimal z → bytes_eq (signed_decimal z) text ≡ false → ⊥
not_written z text e wrong = let yes = (bytes_eq-Decides (signed_decimal z) text).1 (sym e) in absurd cc
