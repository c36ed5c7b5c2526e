-- The ranges of the numbers that right words give.
use Rattle.std.proofs.Common.{◌≡◌, ℕ, ◌≤◌, Bool, true, false, ◌&&◌, cond, not, List, length, ◌==◌, Option, Some, None, refl, ap, rules, arith}
use Rattle.std.specs.Prelude.{codes, decimal, nat_lt, IfSome, option_map}
use Rattle.std.specs.List.{list_any}
use Rattle.std.specs.Str.{bytes_eq}
use Rattle.std.specs.Str.Parse.{digits_value}
use Rattle.std.proofs.lemmas.Bool.{ltb-false}
use Rattle.clap.specs.Words.{Row, Text, first_of, fault_of, matches_of}
use Rattle.nearest_hit.specs.declared.segment.Segment.{Segment}
use Rattle.program_words.specs.declared.words.Mode.{Mode}
use Rattle.program_words.specs.declared.words.Words.{Words}
use Rattle.program_words.specs.Usage.{usage}
use Rattle.program_words.specs.Meaning.{number_in, mode_of, dbase_of, ahead_of, make_of, probe_of, stream_of, words_of, meaning_of_values, meaning_of_words}

abbrev Judged : ℕ → Bool → Bool → Bool → Option ℕ
Judged n a b c = cond (a && (not b && not c)) (Some n) None

-- a number that was read lies in its range
pub in_range : (low high : ℕ) (text : List ℕ) (n : ℕ) → number_in low high text ≡ Some n → (low ≤ n) × (n ≤ high)
in_range low high text n e =
    by (bytes_eq (decimal m) text) (nat_lt m low) (nat_lt high m) refl refl e
  where
    m : ℕ
    m = digits_value 10 text

    by : (a b c : Bool) → nat_lt m low ≡ b → nat_lt high m ≡ c → Judged m a b c ≡ Some n → (low ≤ n) × (n ≤ high)
    by false b c q r j = absurd cc
    by true true c q r j = absurd cc
    by true false true q r j = absurd cc
    by true false false q r j =
        let same : m ≡ n = cc in
        (omega (arith, ltb-false m low q, same), omega (arith, ltb-false high m r, same))

-- what the ahead and the number to make of such words come from
parts : (mode : Option Mode) (dbase : Bool) (ahead : Option ℕ) (make : Option (Option ℕ)) (probe : Option (Option Segment))
    (stream : Option (Option ℕ)) (w : Words) →
    words_of mode dbase ahead make probe stream ≡ Some w → (ahead ≡ Some w.ahead) × (make ≡ Some w.make)
parts None dbase ahead make probe stream w e = absurd cc
parts (Some m) dbase None make probe stream w e = absurd cc
parts (Some m) dbase (Some a) None probe stream w e = absurd cc
parts (Some m) dbase (Some a) (Some k) None stream w e = absurd cc
parts (Some m) dbase (Some a) (Some k) (Some p) None w e = absurd cc
parts (Some m) dbase (Some a) (Some k) (Some p) (Some s) w e =
    let read : Words = record { mode = m; dbase = dbase; ahead = a; make = k; probe = p; stream = s } in
    let is : Some read ≡ Some w = e in
    let same : read ≡ w = cc in
    (ap (λ (v : Words). Some v.ahead) same, ap (λ (v : Words). Some v.make) same)

of_ahead : (given : Option Text) (n : ℕ) → ahead_of given ≡ Some n → (1 ≤ n) × (n ≤ 4)
of_ahead None n e = let same : 1 ≡ n = cc in (omega (arith, same), omega (arith, same))
of_ahead (Some text) n e = in_range 1 4 text n e

of_make : (given : Option Text) (k : Option ℕ) (n : ℕ) → make_of given ≡ Some k → k ≡ Some n → (1 ≤ n) × (n ≤ 256)
of_make None k n e s = absurd cc
of_make (Some text) k n e s = by (number_in 1 256 text) refl e
  where
    by : (o : Option ℕ) → number_in 1 256 text ≡ o → option_map Some o ≡ Some k → (1 ≤ n) × (n ≤ 256)
    by None p q = absurd cc
    by (Some x) p q = let same : x ≡ n = cc in in_range 1 256 text n cc

-- a number to make lies in its range, where there is one
to_make : (given : Option Text) (k : Option ℕ) → make_of given ≡ Some k → IfSome k (λ n. 1 ≤ n) × IfSome k (λ n. n ≤ 256)
to_make given None e = (search rules, search rules)
to_make given (Some n) e = let is = of_make given (Some n) n e refl in (is.0, is.1)

-- the numbers of such words are in their ranges
abbrev AreInRange : Words → Type 0
AreInRange w = (1 ≤ w.ahead) × (w.ahead ≤ 4) × IfSome w.make (λ n. 1 ≤ n) × IfSome w.make (λ n. n ≤ 256)

of_words : (words : List Text) (w : Words) → meaning_of_words words ≡ Some w → AreInRange w
unfolding meaning_of_words
of_words words w e = by (list_any (λ t. bytes_eq t (codes "--")) words) (length (fault_of usage words) == 0) e
  where
    rows : List Row
    rows = matches_of usage words

    by : (a b : Bool) → cond a None (cond b (meaning_of_values rows) None) ≡ Some w → AreInRange w
    by true b j = absurd cc
    by false false j = absurd cc
    by false true j =
        let is = parts (mode_of (first_of (codes "mode") rows)) (dbase_of (first_of (codes "dbase") rows))
        (ahead_of (first_of (codes "ahead") rows)) (make_of (first_of (codes "make") rows))
        (probe_of (first_of (codes "probe") rows)) (stream_of (first_of (codes "stream") rows)) w j in
        let ahead = of_ahead (first_of (codes "ahead") rows) w.ahead is.0 in
        let make = to_make (first_of (codes "make") rows) w.make is.1 in
        (ahead.0, ahead.1, make.0, make.1)

pub some_ahead : (words : List Text) (w : Words) → meaning_of_words words ≡ Some w → 1 ≤ w.ahead
some_ahead words w e = (of_words words w e).0

pub few_ahead : (words : List Text) (w : Words) → meaning_of_words words ≡ Some w → w.ahead ≤ 4
few_ahead words w e = (of_words words w e).1

pub low_make : (words : List Text) (w : Words) → meaning_of_words words ≡ Some w → IfSome w.make (λ n. 1 ≤ n)
low_make words w e = (of_words words w e).2

pub high_make : (words : List Text) (w : Words) → meaning_of_words words ≡ Some w → IfSome w.make (λ n. n ≤ 256)
high_make words w e = (of_words words w e).3
