-- The number that a text spells, beside what a parse gives.
use Rattle.std.proofs.Common.{◌≡◌, ◌∙◌, ℕ, ◌<◌, ◌≤◌, ◌^◌, Bool, true, false, ◌&&◌, cond, not, List, Some, None, Result, Ok, Option, refl, sym, ap, arith}
use Rattle.std.specs.Prelude.{decimal, nat_lt}
use Rattle.std.specs.Str.{bytes_eq}
use Rattle.std.specs.Str.Parse.{digits_value, ParsesUnsigned}
use Rattle.std.proofs.lemmas.Fmt.{decimal_is_IsNumeral, parse-decimal}
use Rattle.std.proofs.lemmas.Slice.Eq.{bytes_eq-Decides}
use Rattle.std.proofs.lemmas.Bool.{ltb-false, le-ltb}
use Rattle.program_words.specs.Meaning.{number_in}

-- what a text spells is the value of its digits
pub spelled : (n : ℕ) (text : List ℕ) → n < 2 ^ 64 → text ≡ decimal n → digits_value 10 text ≡ n
spelled n text l e = ap (digits_value 10) e ∙ (decimal_is_IsNumeral n l).1

abbrev Judged : ℕ → Bool → Bool → Bool → Option ℕ
Judged n a b c = cond (a && (not b && not c)) (Some n) None

-- it is a number from low to high
pub number_found : (low high n : ℕ) (text : List ℕ) → n < 2 ^ 64 → text ≡ decimal n → low ≤ n → n ≤ high → number_in low high text ≡ Some n
number_found low high n text l e a b =
    let is = spelled n text l e in
    let written : bytes_eq (decimal n) text ≡ true = (bytes_eq-Decides (decimal n) text).1 (sym e) in
    let above : nat_lt n low ≡ false = le-ltb n low a in
    let below : nat_lt high n ≡ false = le-ltb high n b in
    rw is (rw (written, above, below) refl)

-- no text spells a number from low to high that is not written like it
pub number_none : (low high : ℕ) (text : List ℕ) →
    ((n : ℕ) → text ≡ decimal n → low ≤ n → n ≤ high → ⊥) → number_in low high text ≡ None
number_none low high text none =
    by (bytes_eq (decimal n) text) (nat_lt n low) (nat_lt high n) refl refl refl
  where
    n : ℕ
    n = digits_value 10 text

    by : (a b c : Bool) → bytes_eq (decimal n) text ≡ a → nat_lt n low ≡ b → nat_lt high n ≡ c → Judged n a b c ≡ None
    by false b c p q r = refl
    by true true c p q r = refl
    by true false true p q r = refl
    by true false false p q r =
        absurd (none n (sym ((bytes_eq-Decides (decimal n) text).0 p)) (ltb-false n low q) (ltb-false high n r))

-- the parse of such a text gives the number
pub parse_found : {E : Type 0} (n : ℕ) (text : List ℕ) (r : Result ℕ E) → n < 2 ^ 16 → ParsesUnsigned 16 10 text r → text ≡ decimal n → r ≡ Ok n
parse_found n text r l parsed e = parse-decimal 16 n text r (omega (arith, l)) (omega (arith, l)) e parsed
