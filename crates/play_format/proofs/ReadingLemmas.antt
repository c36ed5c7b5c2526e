-- Reading the words of a line one after the other.
use Rattle.std.proofs.Common.{◌≡◌, ℕ, ◌+◌, ◌<◌, arith, refl, true, false, ap, sym, ◌∙◌, List, [], ◌∷◌, ◌++◌, length, drop, append_assoc, eqb, Result, Ok, Err, ℤ, pos, get_or, add-one, drop-cons, ◌≤◌}
use Rattle.std.specs.Prelude.{codes}
use Rattle.std.specs.List.{join_with_byte}
use Rattle.std.specs.Str.{bytes_eq}
use Rattle.std.proofs.lemmas.Bool.{eq-eqb, false_from_ne_true}
use Rattle.std.proofs.lemmas.Slice.Eq.{bytes_eq-Decides}
use Rattle.std.proofs.lemmas.List.{append-nil, drop_all, length-drop}
use Rattle.std.proofs.lemmas.List.Splits.{length-slice_split, join_with_byte-slice_split}
use Rattle.play_format.specs.declared.refusal.Why.{Why}
use Rattle.play_format.specs.declared.refusal.Why.TheVariants as whys
use Rattle.play_format.specs.declared.numbers.Limits.{Limits}
use Rattle.play_format.specs.Numbers.{number_at}
use Rattle.play_format.specs.Words.{words}
use Rattle.play_format.specs.declared.commands.Command.{Command}
use Rattle.play_format.specs.declared.places.Spot.{Spot}
use Rattle.play_format.specs.Commands.{limits_of, tail_of, words_in}
use Rattle.play_format.specs.Grammar.{◌>>=◌, numbers_at, switched, switch_form, fields_at}

pub bytes_yes : (xs ys : List ℕ) → bytes_eq xs ys ≡ true → xs ≡ ys
bytes_yes xs ys e = (bytes_eq-Decides xs ys).0 e

-- a text of several words is none of one word
several : (text v w one : List ℕ) (ws : List (List ℕ)) → words text ≡ v ∷ w ∷ ws → words one ≡ one ∷ [] → bytes_eq text one ≡ false
several text v w one ws e single = false_from_ne_true _ (λ yes. let k : text ≡ one = bytes_yes text one yes in let h : v ∷ w ∷ ws ≡ one ∷ [] = sym e ∙ ap words k ∙ single in absurd cc)

switch_words_of : (id text : List ℕ) (ws : List (List ℕ)) → words text ≡ ws → switch_form (id ∷ ws) ≡ switched text
switch_words_of id text [] e = absurd (omega (arith, ap length e, length-slice_split (λ b. eqb b 32) text))
switch_words_of id text (v ∷ []) e = ap switched (sym (ap (join_with_byte 32) e) ∙ join_with_byte-slice_split 32 text)
switch_words_of id text (v ∷ w ∷ ws) e =
    rw (several text v w (codes "on") ws e refl, several text v w (codes "off") ws e refl) refl

-- the form of `sw` by what stands behind its id
pub switch_words : (id text : List ℕ) → switch_form (id ∷ words text) ≡ switched text
switch_words id text = switch_words_of id text (words text) refl

-- what was read before, and what is still read
abbrev pub with_numbers : List ℤ → Result (List ℤ) Why → Result (List ℤ) Why
with_numbers front read = read >>= λ zs. Ok (front ++ zs)

regroup : (front : List ℤ) (z : ℤ) (read : Result (List ℤ) Why) → with_numbers front (read >>= λ zs. Ok (z ∷ zs)) ≡ with_numbers (front ++ z ∷ []) read
regroup front z (Ok zs) = ap (λ (ns : List ℤ). Ok ns) (sym (append_assoc front (z ∷ []) zs))
regroup front z (Err why) = refl

abbrev none : Limits
none = record { low = pos 0; high = pos 0 }

split_at_place : (rs : List Limits) (i : ℕ) → i < length rs → drop i rs ≡ get_or rs i none ∷ drop (i + 1) rs
split_at_place rs i lt = rw (add-one) (drop-cons rs i none lt)

-- a number more
pub number_more : (front : List ℤ) (rs : List Limits) (i : ℕ) (left : List (List ℕ)) (w : List ℕ) (ws : List (List ℕ)) (z : ℤ) (all : Result (List ℤ) Why)
    → i < length rs → left ≡ w ∷ ws → number_at (get_or rs i none) w ≡ Ok z
    → with_numbers front (numbers_at (drop i rs) left) ≡ all → with_numbers (front ++ z ∷ []) (numbers_at (drop (i + 1) rs) ws) ≡ all
unfolding numbers_at
number_more front rs i left w ws z all lt e h so_far =
    let one : with_numbers front (numbers_at (drop i rs) left) ≡ with_numbers (front ++ z ∷ []) (numbers_at (drop (i + 1) rs) ws) =
    rw (split_at_place rs i lt, e, h) (regroup front z (numbers_at (drop (i + 1) rs) ws)) in
    sym one ∙ so_far

-- a wrong word
pub number_wrong : (front : List ℤ) (rs : List Limits) (i : ℕ) (left : List (List ℕ)) (w : List ℕ) (ws : List (List ℕ)) (why : Why) (all : Result (List ℤ) Why)
    → i < length rs → left ≡ w ∷ ws → number_at (get_or rs i none) w ≡ Err why
    → with_numbers front (numbers_at (drop i rs) left) ≡ all → all ≡ Err why
unfolding numbers_at
number_wrong front rs i left w ws why all lt e h so_far =
    let one : with_numbers front (numbers_at (drop i rs) left) ≡ Err why = rw (split_at_place rs i lt, e, h) refl in
    sym so_far ∙ one

-- no word is left
pub none_left : (front : List ℤ) (rs : List Limits) (i : ℕ) (all : Result (List ℤ) Why) → i < length rs
    → with_numbers front (numbers_at (drop i rs) []) ≡ all → all ≡ Err whys.Fields
unfolding numbers_at
none_left front rs i all lt so_far =
    let one : with_numbers front (numbers_at (drop i rs) []) ≡ Err whys.Fields = rw (split_at_place rs i lt) refl in
    sym so_far ∙ one

-- all numbers are read
pub all_read : (front : List ℤ) (rs : List Limits) (i : ℕ) (ws : List (List ℕ)) (all : Result (List ℤ) Why) → length rs ≤ i
    → with_numbers front (numbers_at (drop i rs) ws) ≡ all → all ≡ Ok front
unfolding numbers_at
all_read front rs i ws all le so_far =
    let one : with_numbers front (numbers_at (drop i rs) ws) ≡ Ok front = rw (drop_all i rs le) (ap (λ (ns : List ℤ). Ok ns) (append-nil front)) in
    sym so_far ∙ one

-- the numbers of a line that has as many words as its command
pub fields_read : (s : Spot) (c : Command) (line : List ℕ) (left : List (List ℕ)) (zs : List ℤ) → numbers_at (limits_of s.channels c) (drop 1 (words line)) ≡ Ok zs
    → length (limits_of s.channels c) + length left ≡ length (drop 1 (words line)) → length left ≡ length (tail_of c) → fields_at s c (words line) ≡ Ok zs
fields_read s c line left zs numbers count tail =
    let all : length (words line) ≡ words_in s.channels c = omega (arith, count, tail, length-drop 1 (words line), length-slice_split (λ b. eqb b 32) line) in
    rw (eq-eqb _ _ all) numbers
