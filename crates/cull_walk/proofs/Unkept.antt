-- The triangles of geodes that are not kept yet.
use Rattle.std.proofs.Common.{◌≡◌, ℕ, zero, suc, ◌+◌, ◌≤◌, ◌<◌, List, ◌∷◌, Bool, true, false, cond, Option, None, ap, sym, refl, subst, arith, eq-eqb}
use Rattle.std.specs.Prelude.{map, sum, is_some, ◌==◌}
use Rattle.std.specs.List.{range_with_len}
use Rattle.std.specs.Option.{option_map_or}
use Rattle.std.proofs.lemmas.Bool.{eqb-true}
use Rattle.std.proofs.lemmas.Bool.Decides.{nat_tests}
use Rattle.std.proofs.lemmas.List.Sums.{sum_by-cons}
use Rattle.pf_model.specs.Graphs.{Look}
use Rattle.pf_model.specs.Totals.{all_ids, triangles_of, triangle_count}
use Rattle.draw_list.specs.declared.items.Span.{Span}
use Rattle.draw_list.specs.Kept.{KeptTris, span_at}

-- the triangles of an id that are not kept
abbrev pub unkept_at : Look → KeptTris → ℕ → ℕ
unkept_at look k id = cond (is_some (span_at k id)) 0 (option_map_or (λ n. triangles_of n.kind) (look id) 0)

abbrev pub unkept : Look → KeptTris → ℕ
unkept look k = sum (map (unkept_at look k) all_ids)

sum_more : (x : ℕ) (xs : List ℕ) → sum (x ∷ xs) ≡ x + sum xs
sum_more x xs = sum_by-cons (λ (n : ℕ). n) x xs

-- functions that agree but at one number
same_past : (f g : ℕ → ℕ) (id : ℕ) → ((x : ℕ) → (x == id) ≡ false → g x ≡ f x) → (b m : ℕ) → id < b → map g (range_with_len b m) ≡ map f (range_with_len b m)
same_past f g id agree b zero l = refl
same_past f g id agree b (suc m) l = λ i. agree b (other b id l) i ∷ same_past f g id agree (b + 1) m (omega (arith, l)) i
  where
    other : (p q : ℕ) → q < p → (p == q) ≡ false
    other p q l = grind (arith, nat_tests)

sum_but : (f g : ℕ → ℕ) (id : ℕ) → ((x : ℕ) → (x == id) ≡ false → g x ≡ f x) → g id ≡ 0 → (a m : ℕ) → a ≤ id → id < a + m → sum (map g (range_with_len a m)) + f id ≡ sum (map f (range_with_len a m))
sum_but f g id agree none a zero l u = absurd (omega (arith, l, u))
sum_but f g id agree none a (suc m) l u = by (a == id) refl (λ ne. sum_but f g id agree none (a + 1) m (omega (arith, l, ne)) (omega (arith, u)))
  where
    apart : (p q : ℕ) → (p == q) ≡ false → p ≤ q → p < q
    apart p q e l = grind (arith, nat_tests)

    by : (t : Bool) → (a == id) ≡ t → (a < id → sum (map g (range_with_len (a + 1) m)) + f id ≡ sum (map f (range_with_len (a + 1) m))) → sum (map g (range_with_len a (suc m))) + f id ≡ sum (map f (range_with_len a (suc m)))
    by true e later =
        let same : a ≡ id = eqb-true a id e in
        omega (
          arith,
          sum_more (g a) (map g (range_with_len (a + 1) m)),
          sum_more (f a) (map f (range_with_len (a + 1) m)),
          ap sum (same_past f g id agree (a + 1) m (omega (arith, same))),
          ap g same,
          ap f same,
          none,
        )
    by false e later =
        omega (
          arith,
          sum_more (g a) (map g (range_with_len (a + 1) m)),
          sum_more (f a) (map f (range_with_len (a + 1) m)),
          agree a e,
          later (apart a id e l),
        )

sum_but_in : (ids : List ℕ) (n : ℕ) (f g : ℕ → ℕ) (id : ℕ) → ids ≡ range_with_len 0 n → ((x : ℕ) → (x == id) ≡ false → g x ≡ f x) → g id ≡ 0 → id < n → sum (map g ids) + f id ≡ sum (map f ids)
sum_but_in ids n f g id are agree none l =
    subst (λ (is : List ℕ). sum (map g is) + f id ≡ sum (map f is)) (sym are) (sum_but f g id agree none 0 n (omega arith) (omega (arith, l)))

ids_are : all_ids ≡ range_with_len 0 65536
unfolding all_ids
ids_are = refl

-- once an id is kept its triangles are not among those left
pub kept_less : (look : Look) (k l : KeptTris) (id : ℕ) → id < 65536 → ((x : ℕ) → (x == id) ≡ false → span_at l x ≡ span_at k x) → is_some (span_at l id) ≡ true → unkept look l + unkept_at look k id ≡ unkept look k
kept_less look k l id small others there =
    sum_but_in all_ids 65536 (unkept_at look k) (unkept_at look l) id ids_are
    (λ x e. ap (λ (s : Option Span). cond (is_some s) 0 (option_map_or (λ n. triangles_of n.kind) (look x) 0)) (others x e))
    (ap (λ (t : Bool). cond t 0 (option_map_or (λ n. triangles_of n.kind) (look id) 0)) there)
    small

-- with nothing kept all triangles are left
pub all_unkept : (look : Look) (k : KeptTris) → ((id : ℕ) → span_at k id ≡ None) → unkept look k ≡ triangle_count look
all_unkept look k none = ap (λ (f : ℕ → ℕ). sum (map f all_ids)) (λ i id. cond (is_some (none id i)) 0 (option_map_or (λ n. triangles_of n.kind) (look id) 0))

-- each id's triangles are among those left
pub one_unkept : (look : Look) (k : KeptTris) (id : ℕ) → id < 65536 → unkept_at look k id ≤ unkept look k
one_unkept look k id small =
    omega (
      arith,
      sum_but_in all_ids 65536 (unkept_at look k) (λ x. cond (x == id) 0 (unkept_at look k x)) id ids_are
          (λ x e. ap (λ (t : Bool). cond t 0 (unkept_at look k x)) e)
          (ap (λ (t : Bool). cond t 0 (unkept_at look k id)) (eq-eqb id id refl)) small,
    )
