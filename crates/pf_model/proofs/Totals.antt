-- Sums over all ids, node by node.
use Rattle.std.proofs.Common.{◌≡◌, ℕ, zero, suc, ◌+◌, ◌<◌, ◌≤◌, Bool, true, false, cond, ◌==◌, List, [], ◌∷◌, map, sum, Option, Some, None, refl, sym, ◌∙◌, ap, arith}
use Rattle.std.specs.List.{AllByRecursion, range_with_len}
use Rattle.std.specs.Option.{option_map_or}
use Rattle.std.proofs.lemmas.Bool.{eqb-true}
use Rattle.std.proofs.lemmas.Bool.Decides.{nat_tests}
use Rattle.std.proofs.lemmas.List.Sums.{sum_by-cons}
use Rattle.pf_model.specs.declared.nodes.Node.{Node}
use Rattle.pf_model.specs.Graphs.{Nodes, node_at}
use Rattle.pf_model.specs.Limits.{IsRising}
use Rattle.pf_model.proofs.Places.{node_at_step}
use Rattle.pf_model.proofs.Finds.{none_above}
use Rattle.pf_model.specs.Totals.{all_ids, triangles_of, triangle_count}

-- all ids of nodes stand in a range
abbrev AreFrom : ℕ → ℕ → Nodes → Type 0
AreFrom a n xs = AllByRecursion (λ e. (a ≤ e.0) × (e.0 < a + n)) xs

sum_more : (x : ℕ) (xs : List ℕ) → sum (x ∷ xs) ≡ x + sum xs
sum_more x xs = sum_by-cons (λ (n : ℕ). n) x xs

-- ids from the next one on, where the least is above the first
above_first : (a n : ℕ) (x : ℕ × Node) (xs : Nodes) → a < x.0 → IsRising (map (λ e. e.0) (x ∷ xs)) → AreFrom a (suc n) (x ∷ xs) → AreFrom (a + 1) n (x ∷ xs)
above_first a n x xs l rising h = ((omega arith, let u : x.0 < a + suc n = h.0.1 in omega arith), later x.0 xs rising.0 (omega arith) h.1)
  where
    later : (m : ℕ) (ys : Nodes) → AllByRecursion (λ y. m < y) (map (λ e. e.0) ys) → a ≤ m → AllByRecursion (λ e. (a ≤ e.0) × (e.0 < a + suc n)) ys → AllByRecursion (λ e. (a + 1 ≤ e.0) × (e.0 < a + 1 + n)) ys
    later m [] above l h = tt
    later m (y ∷ ys) above l h = ((let k : m < y.0 = above.0 in omega arith, let u : y.0 < a + suc n = h.0.1 in omega arith), later m ys above.1 l h.1)

rest_above : (a n : ℕ) (x : ℕ × Node) (xs : Nodes) → x.0 ≡ a → IsRising (map (λ e. e.0) (x ∷ xs)) → AreFrom a (suc n) (x ∷ xs) → AreFrom (a + 1) n xs
rest_above a n x xs is rising h = later xs rising.0 h.1
  where
    later : (ys : Nodes) → AllByRecursion (λ y. x.0 < y) (map (λ e. e.0) ys) → AllByRecursion (λ e. (a ≤ e.0) × (e.0 < a + suc n)) ys → AllByRecursion (λ e. (a + 1 ≤ e.0) × (e.0 < a + 1 + n)) ys
    later [] above h = tt
    later (y ∷ ys) above h = ((let k : x.0 < y.0 = above.0 in omega arith, let u : y.0 < a + suc n = h.0.1 in omega arith), later ys above.1 h.1)

-- past its first node a list finds what its rest finds
found_past : (f : Option Node → ℕ) (x : ℕ × Node) (xs : Nodes) (a n : ℕ) → x.0 < a → map (λ id. f (node_at (x ∷ xs) id)) (range_with_len a n) ≡ map (λ id. f (node_at xs id)) (range_with_len a n)
found_past f x xs a zero l = refl
found_past f x xs a (suc n) l =
    λ i. f ((node_at_step a x xs ∙ ap (λ t. cond t (Some x.1) (node_at xs a)) (other x.0 a l)) i) ∷ found_past f x xs (a + 1) n (omega arith) i
  where
    other : (p q : ℕ) → p < q → (p == q) ≡ false
    other p q l = grind (arith, nat_tests)

-- the sum over a range of ids that has all nodes
pub sum_over : (f : Option Node → ℕ) → f None ≡ 0 → (a n : ℕ) (xs : Nodes) → IsRising (map (λ e. e.0) xs) → AreFrom a n xs
    → sum (map (λ id. f (node_at xs id)) (range_with_len a n)) ≡ sum (map (λ e. f (Some e.1)) xs)
sum_over f none a zero [] rising h = refl
sum_over f none a zero (x ∷ xs) rising h = absurd (let l : a ≤ x.0 = h.0.0 in let u : x.0 < a + 0 = h.0.1 in omega arith)
sum_over f none a (suc n) [] rising h =
    sum_more (f None) (map (λ id. f (node_at [] id)) (range_with_len (a + 1) n))
    ∙ (let rest : sum (map (λ id. f (node_at [] id)) (range_with_len (a + 1) n)) ≡ 0 = sum_over f none (a + 1) n [] tt tt in omega arith)
sum_over f none a (suc n) (x ∷ xs) rising h = by (x.0 == a) refl (λ is. sum_over f none (a + 1) n xs rising.1 (rest_above a n x xs is rising h)) (λ l. sum_over f none (a + 1) n (x ∷ xs) rising (above_first a n x xs l rising h))
  where
    above : (p q : ℕ) → q ≤ p → (p == q) ≡ false → q < p
    above p q l e = grind (arith, nat_tests)

    by : (t : Bool) → (x.0 == a) ≡ t
        → (x.0 ≡ a → sum (map (λ id. f (node_at xs id)) (range_with_len (a + 1) n)) ≡ sum (map (λ e. f (Some e.1)) xs))
        → (a < x.0 → sum (map (λ id. f (node_at (x ∷ xs) id)) (range_with_len (a + 1) n)) ≡ sum (map (λ e. f (Some e.1)) (x ∷ xs)))
        → sum (map (λ id. f (node_at (x ∷ xs) id)) (range_with_len a (suc n))) ≡ sum (map (λ e. f (Some e.1)) (x ∷ xs))
    by true e rest none_here =
        let is : x.0 ≡ a = eqb-true x.0 a e in
        sum_more (f (node_at (x ∷ xs) a)) (map (λ id. f (node_at (x ∷ xs) id)) (range_with_len (a + 1) n))
        ∙ (λ i. f ((node_at_step a x xs ∙ ap (λ t. cond t (Some x.1) (node_at xs a)) e) i) + sum (found_past f x xs (a + 1) n (omega arith) i))
        ∙ ap (λ m. f (Some x.1) + m) (rest is)
        ∙ sym (sum_more (f (Some x.1)) (map (λ e. f (Some e.1)) xs))
    by false e rest none_here =
        let l : a < x.0 = above x.0 a h.0.0 e in
        sum_more (f (node_at (x ∷ xs) a)) (map (λ id. f (node_at (x ∷ xs) id)) (range_with_len (a + 1) n))
        ∙ (let zero : f (node_at (x ∷ xs) a) ≡ 0 = ap f (none_above a (x ∷ xs) (l, later x.0 xs l rising.0)) ∙ none in
        let rest = none_here l in omega (arith, rest))
      where
        later : (m : ℕ) (ys : Nodes) → a < m → AllByRecursion (λ y. m < y) (map (λ e. e.0) ys) → AllByRecursion (λ y. a < y) (map (λ e. e.0) ys)
        later m [] l h = tt
        later m (y ∷ ys) l h = (let k : m < y.0 = h.0 in omega arith, later m ys l h.1)

all_from_zero : (m : ℕ) (xs : Nodes) → AllByRecursion (λ e. e.0 < m) xs → AreFrom 0 m xs
all_from_zero m [] h = tt
all_from_zero m (x ∷ xs) h = ((omega arith, let l : x.0 < m = h.0 in omega arith), all_from_zero m xs h.1)

abbrev counted : Option Node → ℕ
counted o = option_map_or (λ n. triangles_of n.kind) o 0

sum_below : (ids : List ℕ) (m : ℕ) (xs : Nodes) → ids ≡ range_with_len 0 m → IsRising (map (λ e. e.0) xs) → AllByRecursion (λ e. e.0 < m) xs
    → sum (map (λ id. counted (node_at xs id)) ids) ≡ sum (map (λ e. triangles_of e.1.kind) xs)
sum_below ids m xs are rising below =
    ap (λ (is : List ℕ). sum (map (λ id. counted (node_at xs id)) is)) are ∙ sum_over counted refl 0 m xs rising (all_from_zero m xs below)

ids_are : all_ids ≡ range_with_len 0 65536
unfolding all_ids
ids_are = refl

pub triangles_counted : (xs : Nodes) → IsRising (map (λ e. e.0) xs) → AllByRecursion (λ e. e.0 < 65536) xs → triangle_count (node_at xs) ≡ sum (map (λ e. triangles_of e.1.kind) xs)
triangles_counted xs rising below = sum_below all_ids 65536 xs ids_are rising below
