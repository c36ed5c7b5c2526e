-- Numbers as a play spells them: `0`, or digits of which the first is not 0, with `-` before them for a negative one.
use Rattle.std.specs.Prelude.{ℕ, ◌-◌, Bool, ◌&&◌, ◌||◌, ◌==◌, not, nat_lt, if◌then◌else◌, List, length, drop, ℤ, pos, negsuc, int_le, Result, Ok, Err, slice_index}
use Rattle.std.specs.List.{list_all}
use Rattle.std.specs.Char.{is_ascii_digit}
use Rattle.std.specs.Str.Parse.{digits_value}
use Rattle.play_format.specs.declared.refusal.Why.{Why}
use Rattle.play_format.specs.declared.refusal.Why.TheVariants as whys
use Rattle.play_format.specs.declared.numbers.Limits.{Limits}

-- digits without a 0 in front, or `0` itself
abbrev pub is_natural : List ℕ → Bool
is_natural w = (nat_lt 0 (length w) && (not (slice_index w 0 == 48) || (length w == 1))) && list_all is_ascii_digit w

-- the word begins with `-`
abbrev pub is_signed : List ℕ → Bool
is_signed w = slice_index w 0 == 45

-- `-0` is no number
abbrev pub is_number : List ℕ → Bool
is_number w = if is_signed w then not (slice_index (drop 1 w) 0 == 48) && is_natural (drop 1 w) else is_natural w

-- minus n
abbrev pub minus : ℕ → ℤ
minus n = if n == 0 then pos 0 else negsuc (n - 1)

-- the number that a word spells
abbrev pub value_of : List ℕ → ℤ
value_of w = if is_signed w then minus (digits_value 10 (drop 1 w)) else pos (digits_value 10 w)

-- The number of a word, which is to be within limits: first it has to be a number, and then within them.
unfoldable pub number_at : Limits → List ℕ → Result ℤ Why
number_at r w =
    if is_number w then
    (if int_le r.low (value_of w) && int_le (value_of w) r.high then Ok (value_of w) else Err whys.Range)
    else Err whys.Number
