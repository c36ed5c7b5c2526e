-- The turns of a sequence: sums of the times of its children, and the place that they pass.
use Rattle.std.proofs.Common.{◌≡◌, ℕ, suc, ◌+◌, ◌-◌, ◌<◌, ◌≤◌, Bool, true, false, cond, List, ◌∷◌, drop, length, slice_index_or, sum, nat_lt, refl, ◌∙◌, ap, arith, add-one, drop-cons, zero-add}
use Rattle.std.proofs.lemmas.Bool.Decides.{nat_tests}
use Rattle.std.proofs.lemmas.List.FromFn.{get_or-map-range_with_len, length-map-range_with_len, sum_by-map-range_with_len_more}
use Rattle.std.proofs.lemmas.List.{drop_all}
use Rattle.pf_model.specs.Kinds.{child_times, place_passing}

pub total_more : (times : List ℕ) (p : ℕ) → sum (child_times times (p + 1)) ≡ sum (child_times times p) + slice_index_or times p 1
total_more times p = sum_by-map-range_with_len_more (λ (n : ℕ). n) (λ j. slice_index_or times j 1) 0 p p (zero-add p)

-- the times from a place on begin with that of the place
times_from : (times : List ℕ) (n p : ℕ) → p < n → drop p (child_times times n) ≡ slice_index_or times p 1 ∷ drop (p + 1) (child_times times n)
times_from times n p l =
    let len : p < length (child_times times n) = rw (length-map-range_with_len (λ j. slice_index_or times j 1) 0 n) l in
    rw (add-one p) (drop-cons (child_times times n) p 0 len ∙ ap (λ t. t ∷ drop (suc p) (child_times times n)) (get_or-map-range_with_len (λ j. slice_index_or times j 1) 0 n p p 0 l (zero-add p)))

passing : (t q : ℕ) (ts : List ℕ) (b : Bool) → nat_lt q t ≡ b → place_passing (t ∷ ts) q ≡ cond b 0 (1 + place_passing ts (q - t))
passing t q ts b e = rw e refl

pub passing_here : (times : List ℕ) (n p q : ℕ) → p < n → q < slice_index_or times p 1 → place_passing (drop p (child_times times n)) q ≡ 0
passing_here times n p q l h = rw (times_from times n p l) (passing (slice_index_or times p 1) q (drop (p + 1) (child_times times n)) true (below q (slice_index_or times p 1) h))
  where
    below : (a b : ℕ) → a < b → nat_lt a b ≡ true
    below a b h = grind (arith, nat_tests)

pub passing_next : (times : List ℕ) (n p q : ℕ) → p < n → slice_index_or times p 1 ≤ q → place_passing (drop p (child_times times n)) q ≡ 1 + place_passing (drop (p + 1) (child_times times n)) (q - slice_index_or times p 1)
passing_next times n p q l h = rw (times_from times n p l) (passing (slice_index_or times p 1) q (drop (p + 1) (child_times times n)) false (above q (slice_index_or times p 1) h))
  where
    above : (a b : ℕ) → b ≤ a → nat_lt a b ≡ false
    above a b h = grind (arith, nat_tests)

pub passing_end : (times : List ℕ) (n p q : ℕ) → n ≤ p → place_passing (drop p (child_times times n)) q ≡ 0
passing_end times n p q l =
    let len : length (child_times times n) ≤ p = rw (length-map-range_with_len (λ j. slice_index_or times j 1) 0 n) l in
    ap (λ ts. place_passing ts q) (drop_all p (child_times times n) len)
