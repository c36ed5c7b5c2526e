-- A walk draws at most as many instances as the scene's unfolded size, and numbers them.
use Rattle.std.proofs.Common.{◌≡◌, ℕ, zero, suc, ◌+◌, ◌*◌, ◌<◌, ◌≤◌, ◌^◌, List, [], ◌∷◌, ◌++◌, length, take, get_or, Option, Some, None, option_map, refl, ap, sym, ◌∙◌, subst, arith, length-append, zero-add}
use Rattle.std.specs.Prelude.{map, sum}
use Rattle.std.specs.List.{flat_map, enumerate_from, slice_get, filter_map}
use Rattle.std.proofs.lemmas.List.{length-map, map-append, take_more, take_all}
use Rattle.std.proofs.lemmas.List.FromFn.{length-enumerate_from, get_or-enumerate_from}
use Rattle.std.proofs.Math.ListN.{get_or-map}
use Rattle.pf_picture.specs.declared.leaves.Leaf.{Leaf}
use Rattle.std.specs.Option.{option_map_or, option_to_list}
use Rattle.std.proofs.lemmas.List.Sums.{sum_by-cons}
use Rattle.fx_math.specs.Plain.{Matrix}
use Rattle.pf_model.specs.declared.nodes.Chosen.{Chosen}
use Rattle.pf_model.specs.declared.nodes.Chosen.TheVariants.{All, Nothing, One}
use Rattle.pf_model.specs.declared.nodes.Node.{Node}
use Rattle.pf_model.specs.Angles.{Viewpoint}
use Rattle.pf_model.specs.Graphs.{Look, size_in}
use Rattle.pf_model.specs.Kinds.{Surface, surface_of, own_steps, decal}
use Rattle.pf_model.specs.Limits.{KeepsLimits}
use Rattle.pf_model.specs.Walks.{Instance, Occurrence, instance_of, instances, surface_in, shown_children, chosen_in, walk, scene_at, steps_of_view}
use Rattle.pf_model.proofs.Levels.{size_step, size_at_limit}
use Rattle.tri_cover.specs.Labels.{placed, renumbered}
use Rattle.pf_picture.specs.Walking.{instance_of_leaf, alone, own_drawn, drawn_at, drawn_in}
use Rattle.pf_picture.proofs.DrawnWalk.{drawn-walk, unplaced}

sum-cons : (n : ℕ) (ns : List ℕ) → sum (n ∷ ns) ≡ n + sum ns
sum-cons n ns = sum_by-cons (λ x. x) n ns

length-enumerated : (f : ℕ × ℕ → List Instance) (size : ℕ → ℕ) → ((c : ℕ × ℕ) → length (f c) ≤ size c.1) → (k : ℕ) (cs : List ℕ) → length (flat_map f (enumerate_from k cs)) ≤ sum (map size cs)
length-enumerated f size each k [] = omega arith
length-enumerated f size each k (c ∷ cs) =
    omega (arith, length-append (f (k, c)) (flat_map f (enumerate_from (k + 1) cs)), each (k, c), length-enumerated f size each (k + 1) cs, sum-cons (size c) (map size cs))

length-one : (f : ℕ × ℕ → List Instance) (size : ℕ → ℕ) → ((c : ℕ × ℕ) → length (f c) ≤ size c.1) → (k i : ℕ) (cs : List ℕ) → length (flat_map f (option_to_list (option_map (λ c. (k, c)) (slice_get cs i)))) ≤ sum (map size cs)
length-one f size each k i [] = omega arith
length-one f size each k zero (c ∷ cs) = omega (arith, length-append (f (k, c)) [], each (k, c), sum-cons (size c) (map size cs))
length-one f size each k (suc i) (c ∷ cs) = omega (arith, length-one f size each k i cs, sum-cons (size c) (map size cs))

length-shown : (f : ℕ × ℕ → List Instance) (size : ℕ → ℕ) → ((c : ℕ × ℕ) → length (f c) ≤ size c.1) → (o : Chosen) (cs : List ℕ) → length (flat_map f (shown_children o cs)) ≤ sum (map size cs)
length-shown f size each All cs = length-enumerated f size each 0 cs
length-shown f size each Nothing cs = omega arith
length-shown f size each (One i) cs = length-one f size each i i cs

length-own : (id : ℕ) (steps : List Matrix) (shift : ℕ) (n : Node) → length (own_drawn id steps shift n) ≤ 1
length-own id steps shift n = by (surface_of n.kind)
  where
    unplaced_surface : Surface → Instance
    unplaced_surface s = instance_of (alone id steps shift) s 0

    by : (s : Option Surface) → length (option_to_list (option_map (λ (t : Surface). unplaced_surface t) s)) ≤ 1
    by None = omega arith
    by (Some s) = omega arith

length-drawn_in : (n : ℕ) (look : Look) (time id : ℕ) (steps : List Matrix) (shift : ℕ) → length (drawn_in n look time id steps shift) ≤ size_in n look id
unfolding drawn_in
length-drawn_in zero look time id steps shift = omega arith
length-drawn_in (suc n) look time id steps shift =
    subst (λ (m : ℕ). length (option_map_or (drawn_at id time steps shift (drawn_in n look time)) (look id) []) ≤ m) (sym (size_step n look id))
    (by (look id) (λ i s k. length-drawn_in n look time i s k))
  where
    by : (l : Option Node) → ((i : ℕ) (s : List Matrix) (k : ℕ) → length (drawn_in n look time i s k) ≤ size_in n look i) → length (option_map_or (drawn_at id time steps shift (drawn_in n look time)) l []) ≤ 1 + sum (map (size_in n look) (option_map_or (λ m. m.children) l []))
    by None each = omega arith
    by (Some m) each =
        let f : ℕ × ℕ → List Instance = λ c. drawn_in n look time c.1 (own_steps m.kind ++ steps) (shift + decal m.kind * c.0) in
        let shown : List (ℕ × ℕ) = shown_children (chosen_in time m steps) m.children in
        omega (
          arith,
          length-append (own_drawn id steps shift m) (flat_map f shown),
          length-own id steps shift m,
          length-shown f (size_in n look) (λ c. each c.1 (own_steps m.kind ++ steps) (shift + decal m.kind * c.0)) (chosen_in time m steps) m.children,
        )

few_drawn : (look : Look) (time : ℕ) (steps : List Matrix) → KeepsLimits look → length (drawn_in 32 look time 0 steps 0) ≤ 131072
few_drawn look time steps limits = omega (arith, length-drawn_in 32 look time 0 steps 0, size_at_limit look 0 (limits.low 0), limits.small 0)

pub few_leaves : (look : Look) (time : ℕ) (steps : List Matrix) (leaves : List Leaf) → KeepsLimits look → map instance_of_leaf leaves ≡ drawn_in 32 look time 0 steps 0 → length leaves < 2 ^ 32
few_leaves look time steps leaves limits are = omega (arith, few_drawn look time steps limits, length-map leaves instance_of_leaf, ap (length {A = Instance}) are)

map-placed : (k : ℕ) (ps : List (Occurrence × Surface)) → map (λ e. instance_of e.1.0 e.1.1 e.0) (enumerate_from k ps) ≡ map placed (enumerate_from k (map unplaced ps))
map-placed k [] = refl
map-placed k (p ∷ ps) = ap (λ (xs : List Instance). instance_of p.0 p.1 k ∷ xs) (map-placed (k + 1) ps)

-- the instances of pf_model's walk
pub instances-numbered : (look : Look) (time : ℕ) (v : Viewpoint) → instances look time v ≡ renumbered (drawn_in 32 look time 0 (steps_of_view v) 0)
instances-numbered look time v = map-placed 0 (filter_map (surface_in look) (walk look time v)) ∙ ap renumbered (drawn-walk 32 look time (scene_at (steps_of_view v)))

-- a loop that numbers leaves
pub numbered_more : (leaves : List Leaf) (i : ℕ) (leaf : Leaf) → i < length leaves → leaf ≡ get_or leaves i leaf → map placed (take (i + 1) (enumerate_from 0 (map instance_of_leaf leaves))) ≡ map placed (take i (enumerate_from 0 (map instance_of_leaf leaves))) ++ placed (i, instance_of_leaf leaf) ∷ []
numbered_more leaves i leaf l is =
    ap (map placed) (take_more es i last within ∙ ap (λ (e : ℕ × Instance). take i es ++ e ∷ []) at) ∙ map-append placed (take i es) (last ∷ [])
  where
    es : List (ℕ × Instance)
    es = enumerate_from 0 (map instance_of_leaf leaves)

    last : ℕ × Instance
    last = (i, instance_of_leaf leaf)

    long : length (map instance_of_leaf leaves) ≡ length leaves
    long = length-map leaves instance_of_leaf

    within : i < length es
    within = omega (arith, l, long, length-enumerate_from 0 (map instance_of_leaf leaves))

    numbered_at : ℕ → Instance → ℕ × Instance
    numbered_at n x = (n, x)

    at : get_or es i last ≡ last
    at = get_or-enumerate_from 0 (map instance_of_leaf leaves) i last (omega (arith, l, long))
        ∙ ap (λ (n : ℕ). numbered_at n (get_or (map instance_of_leaf leaves) i (instance_of_leaf leaf))) (zero-add i)
        ∙ ap (numbered_at i) (get_or-map instance_of_leaf leaves i leaf ∙ ap instance_of_leaf (sym is))

pub numbered_all : (leaves : List Leaf) (n : ℕ) → length leaves ≤ n → map placed (take n (enumerate_from 0 (map instance_of_leaf leaves))) ≡ renumbered (map instance_of_leaf leaves)
numbered_all leaves n l = ap (map placed) (take_all n (enumerate_from 0 (map instance_of_leaf leaves)) (omega (arith, l, length-map leaves instance_of_leaf, length-enumerate_from 0 (map instance_of_leaf leaves))))
