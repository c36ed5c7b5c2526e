-- Tables of which the entries past the written ones count as unset.
use Rattle.std.proofs.Common.{◌≡◌, ℕ, zero, suc, ◌+◌, ◌-◌, ◌<◌, ◌≤◌, Bool, false, cond, List, [], ◌∷◌, ◌++◌, length, length-append, get_or, replicate, append_assoc, refl, ◌∙◌, ap, arith}
use Rattle.std.specs.Prelude.{count_by}
use Rattle.std.proofs.lemmas.List.{length-replicate, replicate-append-replicate}
use Rattle.std.proofs.lemmas.List.Sums.{sum_by-cons, sum_by-append}

-- what is read of unset entries, and past their end
unset_at : {X : Type 0} (unset : X) (n k : ℕ) → get_or (replicate n unset) k unset ≡ unset
unset_at unset zero k = refl
unset_at unset (suc n) zero = refl
unset_at unset (suc n) (suc k) = unset_at unset n k

-- unset entries that are written behind the others tell nothing
pub read_longer : {X : Type 0} (unset : X) (entries : List X) (n k : ℕ) → get_or (entries ++ replicate n unset) k unset ≡ get_or entries k unset
read_longer unset [] n k = unset_at unset n k
read_longer unset (x ∷ xs) n zero = refl
read_longer unset (x ∷ xs) n (suc k) = read_longer unset xs n k

pub length_longer : {X : Type 0} (unset : X) (entries : List X) (n : ℕ) → length (entries ++ replicate n unset) ≡ length entries + n
length_longer unset entries n = omega (arith, length-append entries (replicate n unset), length-replicate n unset)

-- one more is written
pub written_more : {X : Type 0} (unset : X) (entries : List X) (n : ℕ) → (entries ++ replicate n unset) ++ unset ∷ [] ≡ entries ++ replicate (n + 1) unset
written_more unset entries n = append_assoc entries (replicate n unset) (unset ∷ []) ∙ ap (λ xs. entries ++ xs) (replicate-append-replicate n 1 unset)

-- a whole table of this width stays the same
pub whole_longer : {X : Type 0} (unset : X) (entries : List X) (n width : ℕ) → length entries + n ≤ width →
    (entries ++ replicate n unset) ++ replicate (width - length (entries ++ replicate n unset)) unset ≡ entries ++ replicate (width - length entries) unset
whole_longer {X} unset entries n width l =
    append_assoc entries (replicate n unset) (replicate (width - length (entries ++ replicate n unset)) unset)
    ∙ ap (λ (xs : List X). entries ++ xs)
    (replicate-append-replicate n (width - length (entries ++ replicate n unset)) unset ∙ ap (λ (m : ℕ). replicate m unset) left)
  where
    left : n + (width - length (entries ++ replicate n unset)) ≡ width - length entries
    left = omega (arith, l, length_longer unset entries n)

-- none of them counts as set
count_unset : {X : Type 0} (is_set : X → Bool) (unset : X) (n : ℕ) → is_set unset ≡ false → count_by is_set (replicate n unset) ≡ 0
count_unset is_set unset zero off = refl
count_unset is_set unset (suc n) off =
    sum_by-cons (λ y. cond (is_set y) 1 0) unset (replicate n unset)
    ∙ ap (λ (b : Bool). cond b 1 0 + count_by is_set (replicate n unset)) off
    ∙ omega (arith, count_unset is_set unset n off)

pub count_longer : {X : Type 0} (is_set : X → Bool) (unset : X) (entries : List X) (n : ℕ) → is_set unset ≡ false → count_by is_set (entries ++ replicate n unset) ≡ count_by is_set entries
count_longer is_set unset entries n off = omega (arith, sum_by-append (λ y. cond (is_set y) 1 0) entries (replicate n unset), count_unset is_set unset n off)

-- entries to which unset ones were added, up to a place

module _ {X : Type 0} (unset : X) (entries longer : List X) (place : ℕ) (written : longer ≡ entries ++ replicate (place + 1 - length entries) unset) where
  pub length_written : length longer ≡ length entries + (place + 1 - length entries)
  length_written = ap length written ∙ length_longer unset entries (place + 1 - length entries)

  pub has_place : place < length longer
  has_place = omega (arith, length_written)

  pub same_read : (k : ℕ) → get_or longer k unset ≡ get_or entries k unset
  same_read k = ap (λ (xs : List X). get_or xs k unset) written ∙ read_longer unset entries (place + 1 - length entries) k
