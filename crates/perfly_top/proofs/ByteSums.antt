-- Sums of bytes modulo 2^64.
use Rattle.std.proofs.Common.{◌≡◌, ◌<◌, ◌+◌, ◌/◌, ◌%◌, ◌^◌, ◌∙◌, ℕ, suc, List, [], ◌∷◌, ◌++◌, length, take, drop, get_or, Some, None, Option, IsSome, refl, sym, ap, subst, arith, length-append}
use Rattle.std.specs.List.{sum_by}
use Rattle.std.specs.Io.KnownBytes.{append_known}
use Rattle.std.proofs.Math.Nat.{mod-add-div, add-mul-mod_self_left}
use Rattle.std.proofs.Math.Seq.{take-suc, drop-append_seam}
use Rattle.std.proofs.lemmas.List.{drop-append-le}
use Rattle.std.proofs.lemmas.List.Sums.{sum_by-append}
use Rattle.std.proofs.lemmas.Option.{same_Some}
use Rattle.perfly_top.specs.Sums.{sum_of_bytes, IsSumSince}

mod_left : (a b m : ℕ) → (a % m + b) % m ≡ (a + b) % m
mod_left a b m =
    sym (add-mul-mod_self_left (a % m + b) m (a / m))
    ∙ ap (λ t. t % m) (omega (arith, mod-add-div a m))

mod_both : (a b m : ℕ) → (a % m + b % m) % m ≡ (a + b) % m
mod_both a b m =
    mod_left a (b % m) m
    ∙ ap (λ t. t % m) (omega arith)
    ∙ mod_left b a m
    ∙ ap (λ t. t % m) (omega arith)

-- the sum of two pieces
pub sum_append : (xs ys : List ℕ) → sum_of_bytes (xs ++ ys) ≡ (sum_of_bytes xs + sum_of_bytes ys) % 2 ^ 64
sum_append xs ys =
    ap (λ t. t % 2 ^ 64) (sum_by-append (λ byte. byte) xs ys)
    ∙ sym (mod_both (sum_by (λ byte. byte) xs) (sum_by (λ byte. byte) ys) (2 ^ 64))

-- one byte more
pub sum_more : (bytes : List ℕ) (i : ℕ) → i < length bytes →
    (sum_of_bytes (take i bytes) + get_or bytes i 0) % 2 ^ 64 ≡ sum_of_bytes (take (i + 1) bytes)
sum_more bytes i l =
    let one : sum_by (λ byte. byte) (take (suc i) bytes) ≡ sum_by (λ byte. byte) (take i bytes) + get_or bytes i 0 =
    ap (sum_by (λ byte. byte)) (take-suc bytes i 0 l)
    ∙ sum_by-append (λ byte. byte) (take i bytes) (get_or bytes i 0 ∷ [])
    ∙ omega arith in
    mod_left (sum_by (λ byte. byte) (take i bytes)) (get_or bytes i 0) (2 ^ 64)
    ∙ ap (λ t. t % 2 ^ 64) (sym one)
    ∙ ap (λ n. sum_of_bytes (take n bytes)) (let e : suc i ≡ i + 1 = omega arith in e)

-- a piece more since a start
pub since_more : (start old new : Option (List ℕ)) (n m : ℕ) (piece : List ℕ) → IsSumSince start old n → new ≡ append_known old piece →
    m ≡ (n + sum_of_bytes piece) % 2 ^ 64 → IsSumSince start new m
since_more start None new n m piece is added sum before bytes started written = absurd (cc)
since_more start (Some had) new n m piece is added sum before bytes started written =
    let all : bytes ≡ had ++ piece = same_Some bytes (had ++ piece) (sym written ∙ added) in
    let was = is before had started refl in
    let left : drop (length before) bytes ≡ drop (length before) had ++ piece = ap (drop (length before)) all ∙ drop-append-le (length before) had piece was.0 in (
      omega (arith, was.0, ap length all, length-append had piece),
      sum ∙ ap (λ t. (t + sum_of_bytes piece) % 2 ^ 64) was.1 ∙ sym (sum_append (drop (length before) had) piece) ∙ ap sum_of_bytes (sym left),
    )

-- nothing more
pub since_same : (start old new : Option (List ℕ)) (n : ℕ) → IsSumSince start old n → new ≡ old → IsSumSince start new n
since_same start old new n is same = subst (λ x. IsSumSince start x n) (sym same) is

-- the sum of all that came since the start
pub sum_of_all : (start old new : Option (List ℕ)) (n : ℕ) (all : List ℕ) → start ≡ old → IsSumSince start new n →
    new ≡ append_known old all → IsSome old → n ≡ sum_of_bytes all
sum_of_all start None new n all e is added some = absurd (cc)
sum_of_all start (Some had) new n all e is added some =
    (is had (had ++ all) e added).1 ∙ ap sum_of_bytes (drop-append_seam had all)
