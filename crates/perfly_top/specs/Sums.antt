-- The sum of the bytes that a sink took since its start.
use Rattle.std.specs.Prelude.{◌≡◌, ℕ, ◌≤◌, ◌%◌, ◌^◌, List, length, drop, Option, Some}
use Rattle.std.specs.List.{sum_by}

-- the sum of bytes, modulo 2^64
abbrev pub sum_of_bytes : List ℕ → ℕ
sum_of_bytes bytes = sum_by (λ byte. byte) bytes % 2 ^ 64

-- where a sink had bytes at its start and has more now, this is the sum of those that came
abbrev pub IsSumSince : (start now : Option (List ℕ)) → ℕ → Type 0
IsSumSince start now n =
    (before bytes : List ℕ) → start ≡ Some before → now ≡ Some bytes →
    (length before ≤ length bytes) × (n ≡ sum_of_bytes (drop (length before) bytes))
