-- Entries of a list that are replaced or appended.
use Rattle.std.proofs.Common.{◌≡◌, ℕ, zero, suc, ◌<◌, ◌≤◌, true, false, cond, ◌==◌, List, [], ◌∷◌, length, get_or, slice_set, Some, None, refl, sym, ◌∙◌, ap, arith}
use Rattle.std.specs.List.{insert, remove, position, position_or_len}
use Rattle.std.proofs.lemmas.List.Quantifiers.{position-Some}
use Rattle.std.proofs.lemmas.List.Sums.{fails_before_first}
use Rattle.pf_model.specs.Kinds.{put_at}
use Rattle.pf_model.specs.Children.{replace_first, drop_first}
use Rattle.pf_model.proofs.Places.{place_end}

pub put_within : (xs : List ℕ) (i x : ℕ) → i < length xs → put_at xs i x ≡ slice_set xs i x
put_within [] i x l = absurd (omega arith)
put_within (y ∷ ys) zero x l = refl
put_within (y ∷ ys) (suc i) x l = ap (λ zs. y ∷ zs) (put_within ys i x (omega arith))

pub put_past : (xs : List ℕ) (i x : ℕ) → length xs ≤ i → put_at xs i x ≡ insert xs (length xs) x
put_past [] i x l = refl
put_past (y ∷ ys) zero x l = absurd (omega arith)
put_past (y ∷ ys) (suc i) x l = ap (λ zs. y ∷ zs) (put_past ys i x (omega arith))

-- the first entry that is this number

pub replace_found : (x y : ℕ) (xs : List ℕ) (i : ℕ) → Some i ≡ position (λ c. c == x) xs → replace_first x y xs ≡ slice_set xs i y
replace_found x y xs i at =
    let s = position-Some (λ c. c == x) xs i 0 (sym at) in
    by xs i s.0 s.1 s.2
  where
    by : (xs : List ℕ) (i : ℕ) → i < length xs → (get_or xs i 0 == x) ≡ true → ((k : ℕ) → k < i → (get_or xs k 0 == x) ≡ false) → replace_first x y xs ≡ slice_set xs i y
    by [] i l here before = absurd (omega arith)
    by (z ∷ zs) zero l here before = ap (λ t. cond t (y ∷ zs) (z ∷ replace_first x y zs)) here
    by (z ∷ zs) (suc i) l here before =
        ap (λ t. cond t (y ∷ zs) (z ∷ replace_first x y zs)) (before 0 (omega arith))
        ∙ ap (λ ys. z ∷ ys) (by zs i (omega arith) here (λ k k_lt. before (suc k) (omega arith)))

pub drop_found : (x : ℕ) (xs : List ℕ) (i : ℕ) → Some i ≡ position (λ c. c == x) xs → drop_first x xs ≡ remove xs i
drop_found x xs i at =
    let s = position-Some (λ c. c == x) xs i 0 (sym at) in
    by xs i s.0 s.1 s.2
  where
    by : (xs : List ℕ) (i : ℕ) → i < length xs → (get_or xs i 0 == x) ≡ true → ((k : ℕ) → k < i → (get_or xs k 0 == x) ≡ false) → drop_first x xs ≡ remove xs i
    by [] i l here before = absurd (omega arith)
    by (z ∷ zs) zero l here before = ap (λ t. cond t zs (z ∷ drop_first x zs)) here
    by (z ∷ zs) (suc i) l here before =
        ap (λ t. cond t zs (z ∷ drop_first x zs)) (before 0 (omega arith))
        ∙ ap (λ ys. z ∷ ys) (by zs i (omega arith) here (λ k k_lt. before (suc k) (omega arith)))

nowhere : (x : ℕ) (xs : List ℕ) → None ≡ position (λ c. c == x) xs → (k : ℕ) → k < length xs → (get_or xs k 0 == x) ≡ false
nowhere x xs none k l = fails_before_first (λ c. c == x) xs k 0 (let e : length xs ≡ position_or_len (λ c. c == x) xs = place_end (λ c. c == x) xs none in omega arith)

pub replace_none : (x y : ℕ) (xs : List ℕ) → None ≡ position (λ c. c == x) xs → replace_first x y xs ≡ xs
replace_none x y xs none = by xs (nowhere x xs none)
  where
    by : (xs : List ℕ) → ((k : ℕ) → k < length xs → (get_or xs k 0 == x) ≡ false) → replace_first x y xs ≡ xs
    by [] h = refl
    by (z ∷ zs) h = ap (λ t. cond t (y ∷ zs) (z ∷ replace_first x y zs)) (h 0 (omega arith)) ∙ ap (λ ys. z ∷ ys) (by zs (λ k l. h (suc k) (omega arith)))

pub drop_none : (x : ℕ) (xs : List ℕ) → None ≡ position (λ c. c == x) xs → drop_first x xs ≡ xs
drop_none x xs none = by xs (nowhere x xs none)
  where
    by : (xs : List ℕ) → ((k : ℕ) → k < length xs → (get_or xs k 0 == x) ≡ false) → drop_first x xs ≡ xs
    by [] h = refl
    by (z ∷ zs) h = ap (λ t. cond t zs (z ∷ drop_first x zs)) (h 0 (omega arith)) ∙ ap (λ ys. z ∷ ys) (by zs (λ k l. h (suc k) (omega arith)))
