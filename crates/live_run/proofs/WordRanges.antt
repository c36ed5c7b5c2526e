-- How many frames right words let be in flight.
use Rattle.std.proofs.Common.{◌≡◌, ℕ, ◌≤◌, Bool, true, false, ◌&&◌, cond, not, List, length, ◌==◌, Option, Some, None, refl, ap, arith}
use Rattle.std.specs.Prelude.{codes, decimal, nat_lt}
use Rattle.std.specs.List.{list_any}
use Rattle.std.specs.Str.{bytes_eq}
use Rattle.std.specs.Str.Parse.{digits_value}
use Rattle.std.proofs.lemmas.Bool.{ltb-false}
use Rattle.clap.specs.Words.{Row, Text, first_of, fault_of, matches_of}
use Rattle.nearest_hit.specs.declared.segment.Segment.{Segment}
use Rattle.program_words.specs.declared.words.Mode.{Mode}
use Rattle.program_words.specs.declared.words.Words.{Words}
use Rattle.program_words.specs.Usage.{usage}
use Rattle.program_words.specs.Meaning.{number_in, mode_of, dbase_of, ahead_of, make_of, probe_of, stream_of, words_of, meaning_of_values, meaning_of_words}

abbrev Judged : ℕ → Bool → Bool → Bool → Option ℕ
Judged n a b c = cond (a && (not b && not c)) (Some n) None

-- a number that was read lies in its range
in_range : (low high : ℕ) (text : List ℕ) (n : ℕ) → number_in low high text ≡ Some n → (low ≤ n) × (n ≤ high)
in_range low high text n e =
    by (bytes_eq (decimal m) text) (nat_lt m low) (nat_lt high m) refl refl e
  where
    m : ℕ
    m = digits_value 10 text

    by : (a b c : Bool) → nat_lt m low ≡ b → nat_lt high m ≡ c → Judged m a b c ≡ Some n → (low ≤ n) × (n ≤ high)
    by false b c q r j = absurd cc
    by true true c q r j = absurd cc
    by true false true q r j = absurd cc
    by true false false q r j =
        let same : m ≡ n = cc in
        (omega (arith, ltb-false m low q, same), omega (arith, ltb-false high m r, same))

-- what the ahead of such words comes from
part : (mode : Option Mode) (dbase : Bool) (ahead : Option ℕ) (make : Option (Option ℕ)) (probe : Option (Option Segment))
    (stream : Option (Option ℕ)) (w : Words) → words_of mode dbase ahead make probe stream ≡ Some w → ahead ≡ Some w.ahead
part None dbase ahead make probe stream w e = absurd cc
part (Some m) dbase None make probe stream w e = absurd cc
part (Some m) dbase (Some a) None probe stream w e = absurd cc
part (Some m) dbase (Some a) (Some k) None stream w e = absurd cc
part (Some m) dbase (Some a) (Some k) (Some p) None w e = absurd cc
part (Some m) dbase (Some a) (Some k) (Some p) (Some s) w e =
    let read : Words = record { mode = m; dbase = dbase; ahead = a; make = k; probe = p; stream = s } in
    let is : Some read ≡ Some w = e in
    let same : read ≡ w = cc in
    ap (λ (v : Words). Some v.ahead) same

of_ahead : (given : Option Text) (n : ℕ) → ahead_of given ≡ Some n → (1 ≤ n) × (n ≤ 4)
of_ahead None n e = let same : 1 ≡ n = cc in (omega (arith, same), omega (arith, same))
of_ahead (Some text) n e = in_range 1 4 text n e

pub of_words : (words : List Text) (w : Words) → meaning_of_words words ≡ Some w → (1 ≤ w.ahead) × (w.ahead ≤ 4)
unfolding meaning_of_words
of_words words w e = by (list_any (λ t. bytes_eq t (codes "--")) words) (length (fault_of usage words) == 0) e
  where
    rows : List Row
    rows = matches_of usage words

    by : (a b : Bool) → cond a None (cond b (meaning_of_values rows) None) ≡ Some w → (1 ≤ w.ahead) × (w.ahead ≤ 4)
    by true b j = absurd cc
    by false false j = absurd cc
    by false true j =
        of_ahead (first_of (codes "ahead") rows) w.ahead
        (part (mode_of (first_of (codes "mode") rows)) (dbase_of (first_of (codes "dbase") rows))
        (ahead_of (first_of (codes "ahead") rows)) (make_of (first_of (codes "make") rows))
        (probe_of (first_of (codes "probe") rows)) (stream_of (first_of (codes "stream") rows)) w j)
