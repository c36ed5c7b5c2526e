-- The nearest of marks: it is the same in whatever order they are looked at.
use Rattle.std.proofs.Common.{◌≡◌, ℕ, ◌<◌, Bool, true, false, cond, List, [], ◌∷◌, Option, Some, None, refl, ap, sym, ◌∙◌, subst, arith, inl, inr, ◌⊎◌, ⊎_elim}
use Rattle.std.specs.Prelude.{fold}
use Rattle.std.specs.List.Sorted.{IsPermutation}
use Rattle.std.proofs.lemmas.Bool.Decides.{nat_tests}
use Rattle.std.proofs.lemmas.List.Sorted.{IsPermutation-sym}
use Rattle.tri_cover.proofs.Members.{In, in_permutation}
use Rattle.depth_raster.specs.Marks.{goes_before, lesser, mark_with}
use Rattle.depth_raster.specs.declared.marks.Mark.{Mark}

-- ---- the order of marks
pub before_itself : (a : Mark) → goes_before a a ≡ false
before_itself a = grind (arith, nat_tests)

-- what is not after b is before what b is before
pub before_chain : (a b c : Mark) → goes_before b a ≡ false → goes_before c b ≡ false → goes_before c a ≡ false
before_chain a b c h g = grind (arith, nat_tests)

pub before_one_way : (a b : Mark) → goes_before a b ≡ true → goes_before b a ≡ false
before_one_way a b h = grind (arith, nat_tests)

same_number : (m n : ℕ) → (m < n → ⊥) → (n < m → ⊥) → m ≡ n
same_number m n h g = omega (arith, h, g)

abbrev mark : (depth place number rank : ℕ) → Mark
mark d p n r = record { depth = d; place = p; number = n; rank = r }

marks_same : (a b : Mark) → a.depth ≡ b.depth → a.place ≡ b.place → a.number ≡ b.number → a.rank ≡ b.rank → a ≡ b
marks_same a b d p n r =
    ap (λ (x : ℕ). mark x a.place a.number a.rank) d
    ∙ ap (λ (x : ℕ). mark b.depth x a.number a.rank) p
    ∙ ap (λ (x : ℕ). mark b.depth b.place x a.rank) n
    ∙ ap (λ (x : ℕ). mark b.depth b.place b.number x) r

depth_same : (a b : Mark) → goes_before a b ≡ false → goes_before b a ≡ false → a.depth ≡ b.depth
depth_same a b h g = grind (arith, nat_tests)

place_same : (a b : Mark) → goes_before a b ≡ false → goes_before b a ≡ false → a.place ≡ b.place
place_same a b h g = grind (arith, nat_tests)

number_same : (a b : Mark) → goes_before a b ≡ false → goes_before b a ≡ false → a.number ≡ b.number
number_same a b h g = grind (arith, nat_tests)

rank_same : (a b : Mark) → goes_before a b ≡ false → goes_before b a ≡ false → a.rank ≡ b.rank
rank_same a b h g = grind (arith, nat_tests)

neither_before : (a b : Mark) → goes_before a b ≡ false → goes_before b a ≡ false → a ≡ b
neither_before a b h g = marks_same a b (depth_same a b h g) (place_same a b h g) (number_same a b h g) (rank_same a b h g)

-- ---- the lesser of two
lesser_first : (m n : Mark) → goes_before m (lesser m n) ≡ false
lesser_first m n = by (goes_before n m) refl
  where
    by : (t : Bool) → t ≡ goes_before n m → goes_before m (cond t n m) ≡ false
    by true e = before_one_way n m (sym e)
    by false e = before_itself m

lesser_second : (m n : Mark) → goes_before n (lesser m n) ≡ false
lesser_second m n = by (goes_before n m) refl
  where
    by : (t : Bool) → t ≡ goes_before n m → goes_before n (cond t n m) ≡ false
    by true e = before_itself n
    by false e = sym e

lesser_either : (m n : Mark) → (lesser m n ≡ m) ⊎ (lesser m n ≡ n)
lesser_either m n = by (goes_before n m)
  where
    by : (t : Bool) → (cond t n m ≡ m) ⊎ (cond t n m ≡ n)
    by true = inr refl
    by false = inl refl

-- ---- the nearest of many, each of which may have a mark
abbrev pub nearest_mark : {X : Type 0} → (X → Option Mark) → Mark → List X → Mark
nearest_mark cand m xs = fold (λ n x. mark_with n (cand x)) m xs

with_first : (m : Mark) (o : Option Mark) → goes_before m (mark_with m o) ≡ false
with_first m None = before_itself m
with_first m (Some n) = lesser_first m n

with_second : (m n : Mark) (o : Option Mark) → o ≡ Some n → goes_before n (mark_with m o) ≡ false
with_second m n o is = ap (λ (p : Option Mark). goes_before n (mark_with m p)) is ∙ lesser_second m n

nearest_first : {X : Type 0} (cand : X → Option Mark) (m : Mark) (xs : List X) → goes_before m (nearest_mark cand m xs) ≡ false
nearest_first cand m [] = before_itself m
nearest_first cand m (x ∷ xs) =
    let n : Mark = mark_with m (cand x) in
    before_chain (nearest_mark cand n xs) n m (nearest_first cand n xs) (with_first m (cand x))

nearest_all : {X : Type 0} (cand : X → Option Mark) (m n : Mark) (x : X) (xs : List X) → In x xs → cand x ≡ Some n → goes_before n (nearest_mark cand m xs) ≡ false
nearest_all cand m n x [] i is = absurd i
nearest_all {X} cand m n x (y ∷ ys) (inl same) is =
    let o : cand y ≡ Some n = ap cand same ∙ is in
    let k : Mark = mark_with m (cand y) in
    before_chain (nearest_mark cand k ys) k n (nearest_first cand k ys) (with_second m n (cand y) o)
nearest_all cand m n x (y ∷ ys) (inr i) is = nearest_all cand (mark_with m (cand y)) n x ys i is

-- the nearest is the first mark, or that of one of the list
pub data IsOneOf {X : Type 0} (cand : X → Option Mark) (m n : Mark) (xs : List X) : Type 0 where
  the_first : n ≡ m → IsOneOf cand m n xs
  one_of : (x : X) → In x xs → cand x ≡ Some n → IsOneOf cand m n xs

one_later : {X : Type 0} (cand : X → Option Mark) (m k n : Mark) (x : X) (xs : List X) → ((k ≡ m) ⊎ (cand x ≡ Some k)) → IsOneOf cand k n xs → IsOneOf cand m n (x ∷ xs)
one_later cand m k n x xs (inl same) (the_first e) = the_first (e ∙ same)
one_later cand m k n x xs (inr is) (the_first e) = one_of x (inl refl) (is ∙ ap (λ (p : Mark). Some p) (sym e))
one_later cand m k n x xs which (one_of y i e) = one_of y (inr i) e

with_either : (m : Mark) (o : Option Mark) → (mark_with m o ≡ m) ⊎ (o ≡ Some (mark_with m o))
with_either m None = inl refl
with_either m (Some n) = ⊎_elim (λ e. inl e) (λ e. inr (ap (λ (p : Mark). Some p) (sym e))) (lesser_either m n)

nearest_one : {X : Type 0} (cand : X → Option Mark) (m : Mark) (xs : List X) → IsOneOf cand m (nearest_mark cand m xs) xs
nearest_one cand m [] = the_first refl
nearest_one cand m (x ∷ xs) =
    let k : Mark = mark_with m (cand x) in
    one_later cand m k (nearest_mark cand k xs) x xs (with_either m (cand x)) (nearest_one cand k xs)

nearest_bound : {X : Type 0} (cand : X → Option Mark) (m n : Mark) (xs ys : List X) → ((x : X) → In x xs → In x ys) → IsOneOf cand m n xs → goes_before n (nearest_mark cand m ys) ≡ false
nearest_bound cand m n xs ys f (the_first e) = subst (λ (p : Mark). goes_before p (nearest_mark cand m ys) ≡ false) (sym e) (nearest_first cand m ys)
nearest_bound cand m n xs ys f (one_of x i e) = nearest_all cand m n x ys (f x i) e

pub nearest_permuted : {X : Type 0} (cand : X → Option Mark) (m : Mark) (xs ys : List X) → IsPermutation xs ys → nearest_mark cand m ys ≡ nearest_mark cand m xs
nearest_permuted cand m xs ys p =
    neither_before (nearest_mark cand m ys) (nearest_mark cand m xs)
    (nearest_bound cand m (nearest_mark cand m ys) ys xs (λ x. in_permutation x ys xs (IsPermutation-sym xs ys p)) (nearest_one cand m ys))
    (nearest_bound cand m (nearest_mark cand m xs) xs ys (λ x. in_permutation x xs ys p) (nearest_one cand m xs))
