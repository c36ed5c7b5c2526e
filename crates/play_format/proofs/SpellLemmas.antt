-- Numbers are spelled in one way.
use Rattle.std.proofs.Common.{◌≡◌, ℕ, zero, suc, ◌-◌, ◌<◌, ◌≤◌, ◌^◌, arith, refl, true, false, cond, ap, rules, Bool, sym, ◌∙◌, List, [], ◌∷◌, ◌++◌, length, drop, map, get_or, eqb, ltb, subst, Result, Ok, Err, ℤ, pos, negsuc}
use Rattle.std.specs.Prelude.{◌&&◌, ◌||◌, not, ◌≤ℤ◌, int_le, unsigned_abs}
use Rattle.std.specs.List.{list_all}
use Rattle.std.specs.Char.{is_ascii_digit}
use Rattle.std.specs.Fmt.{decimal, signed_decimal}
use Rattle.std.specs.Str.Parse.{digits_value}
use Rattle.std.proofs.lemmas.Bool.{lt-ltb, ltb-true, ne_eqb, eqb-true, eqb-false}
use Rattle.std.proofs.lemmas.Int.{ints}
use Rattle.std.proofs.lemmas.Str.Parse.{IsNumeralModel, numerals_by_value}
use Rattle.std.proofs.lemmas.Fmt.{digits_decimal, digits_value-decimal, decimal-digits_value, decimal_nonempty, first_decimal, decimal_digit}
use Rattle.play_format.specs.declared.refusal.Why.{Why}
use Rattle.play_format.specs.declared.refusal.Why.TheVariants as whys
use Rattle.play_format.specs.declared.numbers.Limits.{Limits}
use Rattle.play_format.specs.Numbers.{is_natural, is_signed, is_number, minus, value_of, number_at}
use Rattle.play_format.specs.Places.{IsWithin, AreWithin}
use Rattle.play_format.specs.Grammar.{◌>>=◌, numbers_at}
use Rattle.play_format.proofs.EntryLemmas.{bind_ok, test_ok, both, number_within}

pub own : IsNumeralModel (λ ds. list_all is_ascii_digit ds ≡ true) (digits_value 10)
own = numerals_by_value _ (search rules)

-- the first digit of a number
first_digit : (n : ℕ) → n < 2 ^ 63 → 48 ≤ get_or (decimal n) 0 0
first_digit zero h = rw (decimal_digit 0 (omega arith)) (omega arith)
first_digit (suc n) h = omega (arith, first_decimal (suc n) (omega arith) (omega arith))

natural_decimal : (n : ℕ) → n < 2 ^ 63 → is_natural (decimal n) ≡ true
natural_decimal zero h = rw (decimal_digit 0 (omega arith)) refl
natural_decimal (suc n) h =
    let small : suc n < 2 ^ 64 = omega arith in
    let some : ltb 0 (length (decimal (suc n))) ≡ true = lt-ltb _ _ (decimal_nonempty (suc n) small) in
    let first : eqb (get_or (decimal (suc n)) 0 0) 48 ≡ false = ne_eqb _ _ (λ e. absurd (omega (arith, e, first_decimal (suc n) (omega arith) small))) in
    rw (some, first, digits_decimal own (suc n) small) refl

unsigned_first : (n : ℕ) → n < 2 ^ 63 → is_signed (decimal n) ≡ false
unsigned_first n h = ne_eqb _ _ (λ e. absurd (omega (arith, e, first_digit n h)))

pub both_true : (a b : Bool) → a ≡ true → b ≡ true → (a && b) ≡ true
both_true true b e f = f
both_true false b e f = absurd cc

signed_is : (w : List ℕ) → eqb (get_or w 0 0) 48 ≡ false → is_natural w ≡ true → is_number (45 ∷ w) ≡ true
signed_is w e h = both_true (not (eqb (get_or w 0 0) 48)) (is_natural w) (ap not e) h

minus_suc : (n : ℕ) → minus (suc n) ≡ negsuc n
minus_suc n =
    let some : eqb (suc n) 0 ≡ false = ne_eqb (suc n) 0 (λ e. absurd (omega arith)) in
    let less : suc n - 1 ≡ n = omega arith in
    rw (some, less) refl

pub number_of : (z : ℤ) → unsigned_abs z < 2 ^ 63 → (is_number (signed_decimal z) ≡ true) × (value_of (signed_decimal z) ≡ z)
number_of (pos n) h = (rw (unsigned_first n h) (natural_decimal n h), rw (unsigned_first n h) (ap (λ (m : ℕ). pos m) (digits_value-decimal own n (omega arith))))
number_of (negsuc n) h =
    let small : suc n < 2 ^ 64 = omega arith in
    let first : eqb (get_or (decimal (suc n)) 0 0) 48 ≡ false = ne_eqb _ _ (λ e. absurd (omega (arith, e, first_decimal (suc n) (omega arith) small))) in
    (signed_is (decimal (suc n)) first (natural_decimal (suc n) (omega arith)), ap minus (digits_value-decimal own (suc n) small) ∙ minus_suc n)

leads : (w : List ℕ) (a b : Bool) → eqb (get_or w 0 0) 48 ≡ a → eqb (length w) 1 ≡ b → (not a || b) ≡ true → get_or w 0 0 ≡ 48 → length w ≡ 1
leads w true true e f h k = eqb-true _ _ f
leads w true false e f h k = absurd cc
leads w false b e f h k = absurd (eqb-false _ _ e k)

of_natural : (w : List ℕ) → is_natural w ≡ true → digits_value 10 w < 2 ^ 64 → decimal (digits_value 10 w) ≡ w
of_natural w h small =
    let a = both (ltb 0 (length w) && (not (eqb (get_or w 0 0) 48) || eqb (length w) 1)) (list_all is_ascii_digit w) h in
    let b = both (ltb 0 (length w)) (not (eqb (get_or w 0 0) 48) || eqb (length w) 1) a.0 in
    decimal-digits_value own w a.1 (ltb-true _ _ b.0) (leads w _ _ refl refl b.1) small

signed_word : (w : List ℕ) → is_signed w ≡ true → w ≡ 45 ∷ drop 1 w
signed_word [] h = absurd cc
signed_word (b ∷ w) h = ap (λ (x : ℕ). x ∷ w) (eqb-true b 45 h)

not_zero : (w : List ℕ) (n : ℕ) → not (eqb (get_or w 0 0) 48) ≡ true → decimal n ≡ w → 0 < n
not_zero w zero h e = let k : eqb (get_or w 0 0) 48 ≡ true = rw (← e, decimal_digit 0 (omega arith)) refl in absurd cc
not_zero w (suc n) h e = omega arith

signed_minus : (n : ℕ) → 0 < n → signed_decimal (minus n) ≡ 45 ∷ decimal n
signed_minus zero h = absurd (omega arith)
signed_minus (suc n) h = ap signed_decimal (minus_suc n)

number_by_sign : (w : List ℕ) (b : Bool) → is_signed w ≡ b → cond b (not (eqb (get_or (drop 1 w) 0 0) 48) && is_natural (drop 1 w)) (is_natural w) ≡ true
    → unsigned_abs (cond b (minus (digits_value 10 (drop 1 w))) (pos (digits_value 10 w))) < 2 ^ 63
    → signed_decimal (cond b (minus (digits_value 10 (drop 1 w))) (pos (digits_value 10 w))) ≡ w
number_by_sign w true s h small =
    let ds = drop 1 w in
    let a = both (not (eqb (get_or ds 0 0) 48)) (is_natural ds) h in
    let n = digits_value 10 ds in
    let spelled : decimal n ≡ ds = of_natural ds a.1 (minus_small n small) in
    signed_minus n (not_zero ds n a.0 spelled) ∙ ap (λ (bs : List ℕ). 45 ∷ bs) spelled ∙ sym (signed_word w s)
  where
    minus_small : (n : ℕ) → unsigned_abs (minus n) < 2 ^ 63 → n < 2 ^ 64
    minus_small zero h = omega arith
    minus_small (suc n) h = omega (arith, rw (minus_suc n) at h)
number_by_sign w false s h small = of_natural w h (omega arith)

pub of_number : (w : List ℕ) → is_number w ≡ true → unsigned_abs (value_of w) < 2 ^ 63 → signed_decimal (value_of w) ≡ w
of_number w h small = number_by_sign w (is_signed w) refl h small

-- limits of 32 bits
abbrev pub is_small : Limits → Bool
is_small r = int_le (negsuc 2147483647) r.low && int_le r.high (pos 2147483647)

pub small_number : (r : Limits) (z : ℤ) → is_small r ≡ true → IsWithin r z → unsigned_abs z < 2 ^ 32
small_number r z s w =
    let b = both (int_le (negsuc 2147483647) r.low) (int_le r.high (pos 2147483647)) s in
    let l : negsuc 2147483647 ≤ℤ r.low = grind (arith, ints, b.0) in
    let h : r.high ≤ℤ pos 2147483647 = grind (arith, ints, b.1) in
    omega (arith, ints, l, h, w.low, w.high)

abbrev read_number : ℤ → Result ℤ Why
read_number z = Ok z

-- a number that was read is spelled by its word
pub number_spelled : (r : Limits) (w : List ℕ) (z : ℤ) → is_small r ≡ true → number_at r w ≡ Ok z → signed_decimal z ≡ w
unfolding number_at
number_spelled r w z s e =
    let t = test_ok (is_number w) (cond (int_le r.low (value_of w) && int_le (value_of w) r.high) (Ok (value_of w)) (Err whys.Range)) whys.Number z e in
    let u = test_ok (int_le r.low (value_of w) && int_le (value_of w) r.high) (Ok (value_of w)) whys.Range z t.1 in
    let same : read_number (value_of w) ≡ read_number z = u.1 in
    let k : value_of w ≡ z = cc in
    let small : unsigned_abs z < 2 ^ 32 = small_number r z s (number_within r w z e) in
    let fits : unsigned_abs (value_of w) < 2 ^ 63 = rw k (omega arith) in
    rw (← k) (of_number w t.0 fits)

-- and its spelling is read again
pub number_again : (r : Limits) (z : ℤ) → is_small r ≡ true → IsWithin r z → number_at r (signed_decimal z) ≡ Ok z
unfolding number_at
number_again r z s w =
    let small : unsigned_abs z < 2 ^ 32 = small_number r z s w in
    let n = number_of z (omega arith) in
    let l : int_le r.low z ≡ true = grind (arith, ints, w.low) in
    let h : int_le z r.high ≡ true = grind (arith, ints, w.high) in
    rw (n.0, n.1, l, h) refl

-- numbers that were read are spelled by their words
pub numbers_spelled : (rs : List Limits) (ws : List (List ℕ)) (zs : List ℤ) → list_all is_small rs ≡ true → numbers_at rs ws ≡ Ok zs → ws ≡ map signed_decimal zs ++ drop (length rs) ws
unfolding numbers_at
numbers_spelled [] ws [] s e = refl
numbers_spelled [] ws (z ∷ zs) s e = absurd cc
numbers_spelled (r ∷ rs) [] zs s e = absurd cc
numbers_spelled (r ∷ rs) (w ∷ ws) zs s e =
    let b = both (is_small r) (list_all is_small rs) s in
    let a = bind_ok (number_at r w) (λ z. numbers_at rs ws >>= λ zs. Ok (z ∷ zs)) zs e in
    let k = bind_ok (numbers_at rs ws) (λ ys. Ok (a.0 ∷ ys)) zs a.2 in
    let is : a.0 ∷ k.0 ≡ zs = cc in
    let word : signed_decimal a.0 ≡ w = number_spelled r w a.0 b.0 a.1 in
    let more = numbers_spelled rs ws k.0 b.1 k.1 in
    subst (λ (ys : List ℤ). w ∷ ws ≡ map signed_decimal ys ++ drop (length rs) ws) is
    (ap (λ (x : List ℕ). x ∷ ws) (sym word) ∙ ap (λ (xs : List (List ℕ)). signed_decimal a.0 ∷ xs) more)

-- and their spellings are read again
pub numbers_again : (rs : List Limits) (zs : List ℤ) (tail : List (List ℕ)) → list_all is_small rs ≡ true → AreWithin rs zs → numbers_at rs (map signed_decimal zs ++ tail) ≡ Ok zs
unfolding numbers_at
numbers_again [] [] tail s w = refl
numbers_again [] (z ∷ zs) tail s w = absurd w
numbers_again (r ∷ rs) [] tail s w = absurd w
numbers_again (r ∷ rs) (z ∷ zs) tail s w =
    let b = both (is_small r) (list_all is_small rs) s in
    rw (number_again r z b.0 w.0, numbers_again rs zs tail b.1 w.1) refl
