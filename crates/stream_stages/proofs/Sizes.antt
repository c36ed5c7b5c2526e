-- No more nodes are visited than the scene has, each as often as it stands in it.
use Rattle.std.proofs.Common.{◌≡◌, ◌∙◌, ℕ, zero, suc, ◌+◌, ◌≤◌, List, [], ◌∷◌, Bool, true, false, cond, Option, Some, None, ap, sym, refl, arith}
use Rattle.std.specs.Prelude.{map, count_by, flat_map, sum, option_map}
use Rattle.std.specs.List.{enumerate_from, slice_get}
use Rattle.std.specs.Option.{option_map_or, option_to_list}
use Rattle.std.proofs.lemmas.List.Sums.{sum_by-append, sum_by-cons}
use Rattle.pf_model.specs.declared.nodes.Chosen.{Chosen}
use Rattle.pf_model.specs.declared.nodes.Chosen.TheVariants as chosen
use Rattle.pf_model.specs.declared.nodes.Node.{Node}
use Rattle.pf_model.specs.Graphs.{Look, size_in}
use Rattle.pf_model.specs.Walks.{Occurrence, shown_children, chosen_in, child_of, children_in, under, walk_in}

sum_more : (x : ℕ) (xs : List ℕ) → sum (x ∷ xs) ≡ x + sum xs
sum_more x xs = sum_by-cons (λ (n : ℕ). n) x xs

abbrev sizes : ℕ → Look → List (ℕ × ℕ) → ℕ
sizes n look cs = sum (map (λ c. size_in n look c.1) cs)

sizes_all : (n : ℕ) (look : Look) (k : ℕ) (cs : List ℕ) → sizes n look (enumerate_from k cs) ≡ sum (map (size_in n look) cs)
sizes_all n look k [] = refl
sizes_all n look k (c ∷ cs) =
    sum_more (size_in n look c) (map (λ d. size_in n look d.1) (enumerate_from (k + 1) cs))
    ∙ ap (λ (m : ℕ). size_in n look c + m) (sizes_all n look (k + 1) cs)
    ∙ sym (sum_more (size_in n look c) (map (size_in n look) cs))

sizes_one : (n : ℕ) (look : Look) (i place : ℕ) (cs : List ℕ) → sizes n look (option_to_list (option_map (λ c. (place, c)) (slice_get cs i))) ≤ sum (map (size_in n look) cs)
sizes_one n look i place [] = omega arith
sizes_one n look zero place (c ∷ cs) =
    omega (arith, sum_more (size_in n look c) [], sum_more (size_in n look c) (map (size_in n look) cs))
sizes_one n look (suc i) place (c ∷ cs) =
    omega (arith, sizes_one n look i place cs, sum_more (size_in n look c) (map (size_in n look) cs))

sizes_shown : (n : ℕ) (look : Look) (ch : Chosen) (cs : List ℕ) → sizes n look (shown_children ch cs) ≤ sum (map (size_in n look) cs)
sizes_shown n look chosen.All cs = omega (arith, sizes_all n look 0 cs)
sizes_shown n look chosen.Nothing cs = omega arith
sizes_shown n look (chosen.One i) cs = sizes_one n look i i cs

size_more : (n : ℕ) (look : Look) (id : ℕ) (m : Node) → look id ≡ Some m → size_in (suc n) look id ≡ 1 + sum (map (size_in n look) m.children)
unfolding size_in
size_more n look id m found = ap (λ (l : Option Node). 1 + sum (map (size_in n look) (option_map_or (λ (p : Node). p.children) l []))) found

visits_next : (q : Occurrence → Bool) (n : ℕ) (look : Look) (time : ℕ) (o : Occurrence) →
    count_by q (walk_in (suc n) look time o) ≡ cond (q o) 1 0 + count_by q (flat_map (walk_in n look time) (under look time o))
unfolding walk_in
visits_next q n look time o = sum_by-cons (λ p. cond (q p) 1 0) o (flat_map (walk_in n look time) (under look time o))

at_most_one : (t : Bool) → cond t 1 0 ≤ 1
at_most_one true = omega arith
at_most_one false = omega arith

visits_below : (n : ℕ) (look : Look) (q : Occurrence → Bool) (f : Occurrence → List Occurrence) → ((p : Occurrence) → count_by q (f p) ≤ size_in n look p.id) → (m : Node) (o : Occurrence) (cs : List (ℕ × ℕ)) →
    count_by q (flat_map f (map (child_of m o) cs)) ≤ sizes n look cs
visits_below n look q f each m o [] = omega arith
visits_below n look q f each m o (c ∷ cs) =
    omega (
      arith,
      sum_by-append (λ p. cond (q p) 1 0) (f (child_of m o c)) (flat_map f (map (child_of m o) cs)),
      each (child_of m o c),
      visits_below n look q f each m o cs,
      sum_by-cons (λ (k : ℕ). k) (size_in n look c.1) (map (λ d. size_in n look d.1) cs),
    )

size_zero : (q : Occurrence → Bool) (look : Look) (time : ℕ) (o : Occurrence) → count_by q (walk_in 0 look time o) ≤ size_in 0 look o.id
unfolding walk_in size_in
size_zero q look time o = omega arith

size_none : (n : ℕ) (look : Look) (id : ℕ) → 1 ≤ size_in (suc n) look id
unfolding size_in
size_none n look id = omega arith

pub visits_within : (n : ℕ) (q : Occurrence → Bool) (look : Look) (time : ℕ) (o : Occurrence) → count_by q (walk_in n look time o) ≤ size_in n look o.id
visits_within zero q look time o = size_zero q look time o
visits_within (suc n) q look time o = by (look o.id) refl (λ p. visits_within n q look time p)
  where
    by : (l : Option Node) → look o.id ≡ l → ((p : Occurrence) → count_by q (walk_in n look time p) ≤ size_in n look p.id) → count_by q (walk_in (suc n) look time o) ≤ size_in (suc n) look o.id
    by None e each =
        let none : count_by q (flat_map (walk_in n look time) (under look time o)) ≡ 0 = ap (λ (l : Option Node). count_by q (flat_map (walk_in n look time) (option_map_or (children_in time o) l []))) e in
        omega (arith, visits_next q n look time o, none, at_most_one (q o), size_none n look o.id)
    by (Some m) e each =
        let some : count_by q (flat_map (walk_in n look time) (under look time o)) ≡ count_by q (flat_map (walk_in n look time) (children_in time o m)) =
        ap (λ (l : Option Node). count_by q (flat_map (walk_in n look time) (option_map_or (children_in time o) l []))) e in
        omega (
          arith,
          visits_next q n look time o,
          some,
          at_most_one (q o),
          size_more n look o.id m e,
          visits_below n look q (walk_in n look time) each m o (shown_children (chosen_in time m o.steps) m.children),
          sizes_shown n look (chosen_in time m o.steps) m.children,
        )
