-- A walk has at most as many occurrences as the scene's unfolded size.
use Rattle.std.proofs.Common.{◌≡◌, ℕ, zero, suc, ◌+◌, ◌≤◌, List, [], ◌∷◌, map, length, slice_get, Option, Some, None, refl, subst, sym, arith, length-append}
use Rattle.std.specs.Prelude.{sum}
use Rattle.std.specs.List.{flat_map, enumerate_from}
use Rattle.std.specs.Option.{option_map, option_map_or, option_to_list}
use Rattle.std.proofs.lemmas.List.Sums.{sum_by-cons}
use Rattle.pf_model.specs.declared.nodes.Node.{Node}
use Rattle.pf_model.specs.declared.nodes.Chosen.{Chosen}
use Rattle.pf_model.specs.declared.nodes.Chosen.TheVariants as chosen
use Rattle.pf_model.specs.Graphs.{Look, size_in}
use Rattle.pf_model.specs.Walks.{Occurrence, shown_children, chosen_in, child_of, children_in, under, walk_in}
use Rattle.pf_model.proofs.Levels.{size_step}
use Rattle.stage_parts.proofs.Places.{flat_mapped}

sum-cons : (n : ℕ) (ns : List ℕ) → sum (n ∷ ns) ≡ n + sum ns
sum-cons n ns = sum_by-cons (λ x. x) n ns

-- what children give is no more than their sizes

enumerated : (f : ℕ × ℕ → List Occurrence) (size : ℕ → ℕ) → ((c : ℕ × ℕ) → length (f c) ≤ size c.1) → (k : ℕ) (cs : List ℕ) →
    length (flat_map f (enumerate_from k cs)) ≤ sum (map size cs)
enumerated f size each k [] = omega arith
enumerated f size each k (c ∷ cs) =
    omega (
      arith,
      length-append (f (k, c)) (flat_map f (enumerate_from (k + 1) cs)),
      each (k, c),
      enumerated f size each (k + 1) cs,
      sum-cons (size c) (map size cs),
    )

one : (f : ℕ × ℕ → List Occurrence) (size : ℕ → ℕ) → ((c : ℕ × ℕ) → length (f c) ≤ size c.1) → (k i : ℕ) (cs : List ℕ) →
    length (flat_map f (option_to_list (option_map (λ c. (k, c)) (slice_get cs i)))) ≤ sum (map size cs)
one f size each k i [] = omega arith
one f size each k zero (c ∷ cs) = omega (arith, length-append (f (k, c)) [], each (k, c), sum-cons (size c) (map size cs))
one f size each k (suc i) (c ∷ cs) = omega (arith, one f size each k i cs, sum-cons (size c) (map size cs))

of_shown : (f : ℕ × ℕ → List Occurrence) (size : ℕ → ℕ) → ((c : ℕ × ℕ) → length (f c) ≤ size c.1) → (o : Chosen) (cs : List ℕ) →
    length (flat_map f (shown_children o cs)) ≤ sum (map size cs)
of_shown f size each chosen.All cs = enumerated f size each 0 cs
of_shown f size each chosen.Nothing cs = omega arith
of_shown f size each (chosen.One i) cs = one f size each i i cs

-- one level opened
walk_none : (look : Look) (time : ℕ) (o : Occurrence) → length (walk_in zero look time o) ≤ size_in zero look o.id
unfolding walk_in size_in
walk_none look time o = omega arith

walk_next : (n : ℕ) (look : Look) (time : ℕ) (o : Occurrence) →
    length (walk_in (suc n) look time o) ≡ suc (length (flat_map (walk_in n look time) (under look time o)))
unfolding walk_in
walk_next n look time o = refl

pub walk_length : (n : ℕ) (look : Look) (time : ℕ) (o : Occurrence) → length (walk_in n look time o) ≤ size_in n look o.id
walk_length zero look time o = walk_none look time o
walk_length (suc n) look time o =
    omega (arith, walk_next n look time o, size_step n look o.id, by (look o.id) (λ p. walk_length n look time p))
  where
    by : (l : Option Node) → ((p : Occurrence) → length (walk_in n look time p) ≤ size_in n look p.id) →
        length (flat_map (walk_in n look time) (option_map_or (children_in time o) l []))
        ≤ sum (map (size_in n look) (option_map_or (λ (m : Node). m.children) l []))
    by None each = omega arith
    by (Some m) each =
        let cs = shown_children (chosen_in time m o.steps) m.children in
        subst (λ (os : List Occurrence). length os ≤ sum (map (size_in n look) m.children))
        (sym (flat_mapped (child_of m o) (walk_in n look time) cs))
        (of_shown (λ c. walk_in n look time (child_of m o c)) (size_in n look) (λ c. each (child_of m o c))
        (chosen_in time m o.steps) m.children)
