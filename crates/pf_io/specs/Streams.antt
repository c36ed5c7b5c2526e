-- What a read takes from the bytes that a source has left, and what a write adds to the bytes of a sink.
-- Each is an equation of the known bytes: a stream that tells none is `None` before and after.
use Rattle.std.specs.Prelude.{◌≡◌, ◌==◌, ℕ, ◌<◌, Bool, true, false, if◌then◌else◌, List, length, take, Option, Result, Ok, Err, MatchResult}
use Rattle.std.specs.Io.KnownBytes.{prepend_known, append_known, IsAtEnd}
use Rattle.pf_io.specs.Causes.{counted}

-- `Ok(n)` took the next n bytes, and none only at the end; `Err` took none
abbrev pub Reads : {E : Type 0} → Option (List ℕ) → Option (List ℕ) → Result ℕ E → List ℕ → Type 0
Reads old new result into =
    MatchResult result
    (λ n. (old ≡ prepend_known (take n into) new) × (n ≡ 0 → IsAtEnd new))
    (λ _. new ≡ old)

-- the count of the reads that found the end, after one more answer: `Ok(0)` found it
abbrev pub ends_after : {E : Type 0} → ℕ → Result ℕ E → ℕ
ends_after ends (Ok n) = if n == 0 then counted ends else ends
ends_after ends (Err error) = ends

-- whether the last call that succeeded was a flush, after one more write
abbrev pub flushed_after_write : {A E : Type 0} → Bool → Result A E → Bool
flushed_after_write flushed (Ok n) = false
flushed_after_write flushed (Err error) = flushed

-- the same after one more flush
abbrev pub flushed_after_flush : {A E : Type 0} → Bool → Result A E → Bool
flushed_after_flush flushed (Ok done) = true
flushed_after_flush flushed (Err error) = flushed

-- some of the next bytes were taken
abbrev pub TakesFront : Option (List ℕ) → Option (List ℕ) → Type 0
TakesFront old new = (taken : List ℕ) × (old ≡ prepend_known taken new)

-- `Ok(n)` added the first n bytes of the piece, and `Err` added none
abbrev pub Writes : {E : Type 0} → Option (List ℕ) → Option (List ℕ) → Result ℕ E → List ℕ → Type 0
Writes old new result piece =
    MatchResult result (λ n. new ≡ append_known old (take n piece)) (λ _. new ≡ old)

-- `Err` tells that what is written now was written at the last fault, and `Ok` leaves what was told of it
abbrev pub MarksFault : {A E : Type 0} → Option (List ℕ) → Option (List ℕ) → Option (List ℕ) → Result A E → Type 0
MarksFault old new written result = MatchResult result (λ _. new ≡ old) (λ _. new ≡ written)

-- a front of the bytes was added, but not all of them
abbrev pub AppendsFront : Option (List ℕ) → Option (List ℕ) → List ℕ → Type 0
AppendsFront old new bytes = (k : ℕ) × (k < length bytes) × (new ≡ append_known old (take k bytes))
