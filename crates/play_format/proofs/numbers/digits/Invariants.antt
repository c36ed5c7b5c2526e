use Rattle.std.proofs.Common.{◌≡◌, ℕ, ◌<◌, take, get_or, true}
use Rattle.std.specs.Prelude.{min}
use Rattle.std.specs.Char.{is_ascii_digit}
use Rattle.std.specs.Str.Parse.{digits_value}
use Rattle.play_format.proofs.numbers.digits.Given as goal

abbrev pub invariant-loop-len : goal.invariant-loop-len
invariant-loop-len l = record {
  digits : (k : ℕ) → k < l.len → is_ascii_digit (get_or l.text k 0) ≡ true;
  so_far : l.value ≡ min (digits_value 10 (take l.len l.text)) 1099511627776;
}
