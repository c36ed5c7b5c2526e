-- Cutting a text at the first byte of a kind.
use Rattle.std.proofs.Common.{◌≡◌, ℕ, ◌+◌, ◌-◌, ◌<◌, ◌≤◌, ◌==◌, arith, refl, sym, true, false, cond, Bool, List, [], ◌∷◌, Option, Some, None, length, take, drop, ltb}
use Rattle.std.specs.List.{slice_split, position, position_or_len}
use Rattle.std.proofs.lemmas.List.{take_all, length-drop}
use Rattle.std.proofs.lemmas.Bool.{ltb-false, ltb-true, le-ltb, lt-ltb, false_from_ne_true}
use Rattle.std.proofs.lemmas.List.Sums.{fails_before_first, position_or_len_is}
use Rattle.memchr.specs.Find.{IsFirstByte, is_byte}
use Rattle.std.proofs.lemmas.List.Splits.{slice_split_none, slice_split_first}

is_none_of : (b : Bool) (i : ℕ) → cond b (Some i) None ≡ None → b ≡ false
is_none_of true i e = absurd cc
is_none_of false i e = refl

is_some_of : (b : Bool) (i j : ℕ) → cond b (Some i) None ≡ Some j → (b ≡ true) × (i ≡ j)
is_some_of true i j e = (refl, cc)
is_some_of false i j e = absurd cc

-- where no byte passes, the list is the one piece
pub cut_none : (p : ℕ → Bool) (xs : List ℕ) → position p xs ≡ None → slice_split p xs ≡ xs ∷ []
cut_none p xs e =
    let past : length xs ≤ position_or_len p xs = ltb-false _ _ (is_none_of (ltb (position_or_len p xs) (length xs)) (position_or_len p xs) e) in
    slice_split_none p xs (λ k d lt. fails_before_first p xs k d (omega arith))

-- the first piece ends at the first byte that passes
pub cut_some : (p : ℕ → Bool) (xs : List ℕ) (i : ℕ) → position p xs ≡ Some i → slice_split p xs ≡ take i xs ∷ slice_split p (drop (i + 1) xs)
cut_some p xs i e =
    let h = is_some_of (ltb (position_or_len p xs) (length xs)) (position_or_len p xs) i e in
    rw (← h.1) (slice_split_first p xs 0 (ltb-true _ _ h.0))

-- the first byte that passes is one of the text
pub cut_inside : (p : ℕ → Bool) (xs : List ℕ) (i : ℕ) → position p xs ≡ Some i → i < length xs
cut_inside p xs i e =
    let h = is_some_of (ltb (position_or_len p xs) (length xs)) (position_or_len p xs) i e in
    omega (arith, ltb-true _ _ h.0, h.1)

-- all that stands behind a place
pub rest_is : (xs : List ℕ) (i : ℕ) → take (length xs - i) (drop i xs) ≡ drop i xs
rest_is xs i = take_all (length xs - i) (drop i xs) (omega (arith, length-drop i xs))

-- the first byte of a kind
pub first_place : (byte : ℕ) (text : List ℕ) (r : Option ℕ) → IsFirstByte (is_byte byte) text r → r ≡ position (λ b. b == byte) text
first_place byte text None h =
    let past : position_or_len (λ b. b == byte) text ≡ length text = position_or_len_is (λ b. b == byte) text (length text) 0 (omega arith) (λ k lt. false_from_ne_true _ (h k (omega arith) lt)) (λ lt. absurd (omega (arith, lt))) in
    sym (rw (past, le-ltb (length text) (length text) (omega arith)) refl)
first_place byte text (Some k) h =
    let is : position_or_len (λ b. b == byte) text ≡ k = position_or_len_is (λ b. b == byte) text k 0 (omega (arith, h.0.high)) (λ i lt. false_from_ne_true _ (h.0.before i (omega arith) lt)) (λ _. h.1) in
    sym (rw (is, lt-ltb k (length text) h.0.high) refl)
