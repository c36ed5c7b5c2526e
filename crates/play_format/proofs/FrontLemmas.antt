-- The first word of a text, and the digits at its front.
use Rattle.std.proofs.Common.{◌≡◌, ℕ, ◌+◌, ◌<◌, ◌≤◌, arith, refl, true, false, cond, ap, Bool, sym, ◌∙◌, List, [], ◌∷◌, length, take, drop, get_or, eqb, ltb, subst, zero, suc, pos, negsuc, Option, ◌⊎◌, inl, inr}
use Rattle.std.specs.Prelude.{◌&&◌, ◌||◌, not, nat_lt, slice_index, min}
use Rattle.std.specs.List.{list_all, prefix_len, take_while}
use Rattle.std.specs.Char.{is_ascii_digit}
use Rattle.std.specs.Str.Parse.{digits_value}
use Rattle.std.proofs.lemmas.Bool.{ne_eqb, eq-eqb, eqb-true, ltb-true, ltb-false, lt-ltb, false_from_ne_true}
use Rattle.std.proofs.lemmas.List.{get_or-take, take_all}
use Rattle.std.proofs.lemmas.List.Folds.{length-prefix_len}
use Rattle.std.proofs.lemmas.List.Sums.{prefix_len_is, prefix_len-le-length, prefix_len_passes, prefix_len_stops, take_while-cons, position_or_len_is, fails_before_first, passes_at_first, AllPass-from_list_all, list_all-from_AllPass}
use Rattle.std.proofs.lemmas.List.Splits.{slice_split_none, slice_split_first, slice_split-cons_no}
use Rattle.std.proofs.lemmas.Int.{ints, clamps}
use Rattle.std.specs.Borrow.{Bor}
use Rattle.play_format.specs.Words.{words}
use Rattle.play_format.proofs.SpellLemmas.{both_true}
use Rattle.play_format.specs.Numbers.{is_natural, is_number, is_signed, value_of, minus}
use Rattle.play_format.specs.Rests.{front_word, front_len, IsBehind, held}

abbrev digits_len : List ℕ → ℕ
digits_len text = prefix_len is_ascii_digit text

-- a digit is no space
pub digit_no_space : (b : ℕ) → is_ascii_digit b ≡ true → eqb b 32 ≡ false
digit_no_space b h = ne_eqb b 32 (λ e. let P : ℕ → Type 0 = λ x. is_ascii_digit x ≡ true in let k : is_ascii_digit 32 ≡ true = subst P e h in absurd cc)

digits_no_space : (text : List ℕ) (k : ℕ) → k < digits_len text → eqb (get_or text k 0) 32 ≡ false
digits_no_space text k lt = digit_no_space (get_or text k 0) (prefix_len_passes is_ascii_digit text k 0 lt)

-- digits up to a byte that is none, or up to the end
pub digits_end : (text : List ℕ) (n : ℕ) → n ≤ length text → ((k : ℕ) → k < n → is_ascii_digit (get_or text k 0) ≡ true) → (n < length text → is_ascii_digit (get_or text n 0) ≡ false) → n ≡ digits_len text
digits_end text n le h e = sym (prefix_len_is is_ascii_digit text n 0 le h e)

-- one digit more
pub more_digits : (text : List ℕ) (n : ℕ) → ((k : ℕ) → k < n → is_ascii_digit (get_or text k 0) ≡ true) → is_ascii_digit (get_or text n 0) ≡ true → (k : ℕ) → k < n + 1 → is_ascii_digit (get_or text k 0) ≡ true
more_digits text n h e k lt = by_test (ltb k n) refl
  where
    by_test : (b : Bool) → ltb k n ≡ b → is_ascii_digit (get_or text k 0) ≡ true
    by_test true t = h k (ltb-true _ _ t)
    by_test false t = let same : n ≡ k = omega (arith, ltb-false _ _ t, lt) in let P : ℕ → Type 0 = λ i. is_ascii_digit (get_or text i 0) ≡ true in subst P same e

pub read_so_far : (text : List ℕ) (n : ℕ) → n ≡ digits_len text → min (digits_value 10 (take n text)) 1099511627776 ≡ min (digits_value 10 (take_while is_ascii_digit text)) 1099511627776
read_so_far text n e = ap (λ (k : ℕ). min (digits_value 10 (take k text)) 1099511627776) e

-- digits that end at a space, or at the end, are the first word
pub front_ends : (text : List ℕ) → (digits_len text < length text → eqb (get_or text (digits_len text) 0) 32 ≡ true) → front_len text ≡ digits_len text
front_ends text h = position_or_len_is (λ b. eqb b 32) text (digits_len text) 0 (prefix_len-le-length is_ascii_digit text) (λ k lt. digits_no_space text k lt) h

-- no space up to a place
no_space_up_to : (text : List ℕ) (n : ℕ) → n < length text → ((k : ℕ) → k ≤ n → eqb (get_or text k 0) 32 ≡ false) → n < front_len text
no_space_up_to text n lt h = by_test (ltb n (front_len text)) refl
  where
    by_test : (b : Bool) → ltb n (front_len text) ≡ b → n < front_len text
    by_test true e = ltb-true _ _ e
    by_test false e =
        let le : front_len text ≤ n = ltb-false _ _ e in
        let is : eqb (get_or text (front_len text) 0) 32 ≡ true = passes_at_first (λ b. eqb b 32) text 0 (omega (arith, le, lt)) in
        let no : eqb (get_or text (front_len text) 0) 32 ≡ false = h (front_len text) le in
        absurd cc

up_to_digits : (text : List ℕ) → eqb (get_or text (digits_len text) 0) 32 ≡ false → (k : ℕ) → k ≤ digits_len text → eqb (get_or text k 0) 32 ≡ false
up_to_digits text e k le = by_test (ltb k (digits_len text)) refl
  where
    by_test : (b : Bool) → ltb k (digits_len text) ≡ b → eqb (get_or text k 0) 32 ≡ false
    by_test true h = digits_no_space text k (ltb-true _ _ h)
    by_test false h = let same : digits_len text ≡ k = omega (arith, ltb-false _ _ h, le) in let P : ℕ → Type 0 = λ i. eqb (get_or text i 0) 32 ≡ false in subst P same e

pub length_front : (text : List ℕ) → length (front_word text) ≡ front_len text
length_front text = length-prefix_len (λ b. not (eqb b 32)) text

-- where another byte stands behind the digits, the first word does not consist of digits
pub front_goes_on : (text : List ℕ) → digits_len text < length text → eqb (get_or text (digits_len text) 0) 32 ≡ false → list_all is_ascii_digit (front_word text) ≡ false
front_goes_on text lt e = false_from_ne_true _ (λ all.
    let n = digits_len text in
    let inside : n < front_len text = no_space_up_to text n lt (up_to_digits text e) in
    let at : is_ascii_digit (get_or (front_word text) n 0) ≡ true = AllPass-from_list_all is_ascii_digit (front_word text) all n 0 (omega (arith, inside, length_front text)) in
    let same : get_or (front_word text) n 0 ≡ get_or text n 0 = get_or-take (front_len text) text n 0 inside in
    let no : is_ascii_digit (get_or text n 0) ≡ false = prefix_len_stops is_ascii_digit text 0 lt in
    let yes : is_ascii_digit (get_or text n 0) ≡ true = let P : ℕ → Type 0 = λ b. is_ascii_digit b ≡ true in subst P same at in
    absurd cc)

-- a word and what is left behind it
pub front_alone : (text : List ℕ) → front_len text ≡ length text → words text ≡ front_word text ∷ []
front_alone text e =
    slice_split_none (λ b. eqb b 32) text (λ k d lt. fails_before_first (λ b. eqb b 32) text k d (omega (arith, e, lt)))
    ∙ ap (λ (w : List ℕ). w ∷ []) (sym (take_all (front_len text) text (omega (arith, e))))

pub front_first : (text : List ℕ) → front_len text < length text → words text ≡ front_word text ∷ words (drop (front_len text + 1) text)
front_first text lt = slice_split_first (λ b. eqb b 32) text 0 lt

-- a text has a first word
pub some_front : (text : List ℕ) → words text ≡ front_word text ∷ drop 1 (words text)
some_front text = by_test (ltb (front_len text) (length text)) refl
  where
    by_test : (b : Bool) → ltb (front_len text) (length text) ≡ b → words text ≡ front_word text ∷ drop 1 (words text)
    by_test true e = rw (front_first text (ltb-true _ _ e)) refl
    by_test false e = rw (front_alone text (omega (arith, ltb-false _ _ e, prefix_len-le-length (λ b. not (eqb b 32)) text))) refl

front_cons : (x : ℕ) (xs : List ℕ) → eqb x 32 ≡ false → front_word (x ∷ xs) ≡ x ∷ front_word xs
front_cons x xs e = take_while-cons (λ b. not (eqb b 32)) x xs ∙ rw e refl

front_space : (x : ℕ) (xs : List ℕ) → eqb x 32 ≡ true → front_word (x ∷ xs) ≡ []
front_space x xs e = take_while-cons (λ b. not (eqb b 32)) x xs ∙ rw e refl

-- Digits

all_digits : (text : List ℕ) → list_all is_ascii_digit (take_while is_ascii_digit text) ≡ true
all_digits text = list_all-from_AllPass is_ascii_digit (take_while is_ascii_digit text) (λ k d lt.
    let inside : k < digits_len text = omega (arith, lt, length-prefix_len is_ascii_digit text) in
    let P : ℕ → Type 0 = λ b. is_ascii_digit b ≡ true in
    subst P (sym (get_or-take (digits_len text) text k d inside)) (prefix_len_passes is_ascii_digit text k d inside))

first_front : (text : List ℕ) (b : ℕ) → eqb 0 b ≡ false → eqb (slice_index text 0) b ≡ false → eqb (slice_index (front_word text) 0) b ≡ false
first_front [] b z e = z
first_front (x ∷ xs) b z e = by_test (eqb x 32) refl
  where
    by_test : (s : Bool) → eqb x 32 ≡ s → eqb (slice_index (front_word (x ∷ xs)) 0) b ≡ false
    by_test true h = rw (front_space x xs h) z
    by_test false h = rw (front_cons x xs h) e

one_or_no_zero : (a b : Bool) → (b ≡ true) ⊎ (a ≡ false) → (not a || b) ≡ true
one_or_no_zero true true h = refl
one_or_no_zero true false (inl e) = e
one_or_no_zero true false (inr e) = absurd cc
one_or_no_zero false b h = refl

-- a first word that consists of digits is a natural number, unless a 0 stands in front of others
natural_of : (w : List ℕ) → (length w ≡ 0 → ⊥) → (length w ≡ 1) ⊎ (eqb (slice_index w 0) 48 ≡ false) → list_all is_ascii_digit w ≡ true → is_natural w ≡ true
natural_of w some one all =
    let form : (not (eqb (slice_index w 0) 48) || eqb (length w) 1) ≡ true = one_or_no_zero (eqb (slice_index w 0) 48) (eqb (length w) 1) (elim one [ inl e ↦ inl (eq-eqb _ _ e) | inr e ↦ inr e ]) in
    both_true (nat_lt 0 (length w) && (not (eqb (slice_index w 0) 48) || eqb (length w) 1)) (list_all is_ascii_digit w)
    (both_true (nat_lt 0 (length w)) (not (eqb (slice_index w 0) 48) || eqb (length w) 1) (lt-ltb 0 (length w) (omega (arith, some))) form) all

pub natural_yes : (text : List ℕ) (n : ℕ) → n ≡ digits_len text → front_len text ≡ n → (n ≡ 0 → ⊥) → (n ≡ 1) ⊎ (eqb (slice_index text 0) 48 ≡ false)
    → (is_natural (front_word text) ≡ true) × (front_word text ≡ take_while is_ascii_digit text)
natural_yes text n digits ends some one =
    let same : front_word text ≡ take_while is_ascii_digit text = ap (λ (k : ℕ). take k text) (ends ∙ digits) in
    let all : list_all is_ascii_digit (front_word text) ≡ true = ap (list_all is_ascii_digit) same ∙ all_digits text in
    let len : length (front_word text) ≡ n = length_front text ∙ ends in
    (natural_of (front_word text) (λ e. some (sym len ∙ e)) (elim one [ inl e ↦ inl (len ∙ e) | inr e ↦ inr (first_front text 48 refl e) ]) all, same)

-- Signs

-- a word behind a `-`
behind_sign : (xs : List ℕ) (rest : Option (Bor (List ℕ))) → IsBehind xs rest → IsBehind (45 ∷ xs) rest
behind_sign xs rest h = rw (slice_split-cons_no (λ b. eqb b 32) 45 xs refl, h, front_cons 45 xs refl) refl

minus_suc : (k : ℕ) → minus (suc k) ≡ negsuc k
minus_suc k = rw (ne_eqb (suc k) 0 (λ e. absurd (omega (arith, e)))) (ap (λ (n : ℕ). negsuc n) (omega arith))

held_sign : (sign : Bool) (m : ℕ) → cond sign (minus (min m 1099511627776)) (pos (min m 1099511627776)) ≡ held (cond sign (minus m) (pos m))
held_sign true zero = refl
held_sign true (suc m) =
    let e : min (suc m) 1099511627776 ≡ suc (min m 1099511627775) = omega arith in
    let low : negsuc (min m 1099511627775) ≡ held (negsuc m) = omega (arith, ints, clamps) in
    ap minus e ∙ minus_suc (min m 1099511627775) ∙ low ∙ ap held (sym (minus_suc m))
held_sign false m = omega (arith, ints, clamps)

-- what is behind the sign, where there is one
abbrev pub unsigned : List ℕ → Bool → List ℕ
unsigned text sign = drop (cond sign 1 0) text

pub signed_yes : (text : List ℕ) (sign : Bool) (n : ℕ) (rest : Option (Bor (List ℕ))) → eqb (slice_index text 0) 45 ≡ sign
    → (sign ≡ true → eqb (slice_index (unsigned text sign) 0) 48 ≡ false) → is_natural (front_word (unsigned text sign)) ≡ true → n ≡ min (digits_value 10 (front_word (unsigned text sign))) 1099511627776 → IsBehind (unsigned text sign) rest
    → (is_number (front_word text) ≡ true) × (cond sign (minus n) (pos n) ≡ held (value_of (front_word text))) × IsBehind text rest
signed_yes text false n rest e first natural value behind =
    let no : is_signed (front_word text) ≡ false = first_front text 45 refl e in
    (rw no natural, rw (no, value) (held_sign false (digits_value 10 (front_word text))), behind)
signed_yes [] true n rest e first natural value behind = absurd cc
signed_yes (x ∷ xs) true n rest e first natural value behind =
    let is : x ≡ 45 = eqb-true _ _ e in
    let P : ℕ → Type 0 = λ y. (is_number (front_word (y ∷ xs)) ≡ true) × (minus n ≡ held (value_of (front_word (y ∷ xs)))) × IsBehind (y ∷ xs) rest in
    subst P (sym is) (
      rw (front_cons 45 xs refl) (both_true (not (eqb (slice_index (front_word xs) 0) 48)) (is_natural (front_word xs)) (ap (λ (b : Bool). not b) (first_front xs 48 refl (first refl))) natural),
      rw (front_cons 45 xs refl, value) (held_sign true (digits_value 10 (front_word xs))),
      behind_sign xs rest behind,
    )

pub signed_no : (text : List ℕ) (sign : Bool) → eqb (slice_index text 0) 45 ≡ sign → is_natural (front_word (unsigned text sign)) ≡ false → is_number (front_word text) ≡ false
signed_no text false e natural = rw (first_front text 45 refl e) natural
signed_no [] true e natural = absurd cc
signed_no (x ∷ xs) true e natural =
    let P : ℕ → Type 0 = λ y. is_number (front_word (y ∷ xs)) ≡ false in
    subst P (sym (eqb-true _ _ e)) (rw (front_cons 45 xs refl) (elim (not (eqb (slice_index (front_word xs) 0) 48)) as (λ b. (b && is_natural (front_word xs)) ≡ false) [ true ↦ natural | false ↦ refl ]))
