-- Arrays that come home, one after the other.
use Rattle.std.proofs.Common.{◌≡◌, ◌≢◌, ◌⊎◌, inl, inr, ℕ, suc, zero, ◌+◌, ◌-◌, ◌≤◌, Bool, true, false, cond, ◌&&◌, ◌==◌, nat_lt, List, [], ◌∷◌, ◌++◌, map, length, drop, set, slice_get, is_some, Option, Some, None, refl, sym, ◌∙◌, ap, subst, arith, add-one}
use Rattle.std.proofs.lemmas.Bool.{cases_eq, eq-eqb, eqb-true, ne_eqb}
use Rattle.std.proofs.lemmas.List.{drop-set-lt, drop_all, length-map}
use Rattle.std.proofs.lemmas.Option.{same_Some}
use Rattle.std.proofs.lemmas.List.Sums.{sum_by_push, sum_by-cons}
use Rattle.std.specs.List.{sum_by}
use Rattle.std.specs.Option.{option_map, option_map_or}
use Rattle.pf_model.specs.declared.geometry.Tri.{Tri}
use Rattle.pf_model.specs.declared.nodes.Node.{Node}
use Rattle.pf_model.specs.Kinds.{geom_of, is_geode}
use Rattle.pf_model.specs.Copies.{UpdateList}
use Rattle.pf_history.specs.Away.{arrays_of, arrays_in, arrays_in_all}
use Rattle.cycle_buffer.specs.Cycles.{CycleState, CyclesState, cycle_at, written_at, out_at, out_of, most_of, after_home, came_home}
use Rattle.pf_scene.specs.Stock.{Written}
use Rattle.pf_scene.specs.Counts.{IsAsLong, AreAsMany, FitsHome, ListFits, ListsFit, as_many, fitting, fitting_in, fitting_in_all}
use Rattle.pf_scene.proofs.Trimmed.{none_out}

-- the nodes of an update list
abbrev pub nodes_in : UpdateList → List (Option Node)
nodes_in us = map (λ u. u.1) us

-- One array

-- a node that is no geode brings none
pub brought_none : (c d : CyclesState) (n : Node) → None ≡ geom_of n.kind → ((s : ℕ) → out_at d s ≡ out_at c s) → (s : ℕ) → out_at d s ≡ out_at c s - fitting (written_at c s) s (Some n)
brought_none c d n geom same s =
    kept (out_at d s) (out_at c s) (fitting (written_at c s) s (Some n)) (same s)
    (ap (λ (t : Bool). cond (t && n.serial == s && as_many (written_at c s) (geom_of n.kind)) 1 0) (ap is_some (sym geom)))
  where
    kept : (a b k : ℕ) → a ≡ b → k ≡ 0 → a ≡ b - k
    kept a b k h e = omega arith

-- What is still to come of all

-- Of things that come home, these are left: the cycles' triangles and the greatest number stay, and what is out, less
-- those that are left, is what was out less all.
pub record IsBringing {X : Type 0} (count : ℕ → X → ℕ) (c d : CyclesState) (all rest : List X) : Type 0 where
  pub written : (s : ℕ) → written_at d s ≡ written_at c s
  pub most : most_of d ≡ most_of c
  pub counts : AreAsMany c d
  pub out : (s : ℕ) → out_at d s - sum_by (count s) rest ≡ out_at c s - sum_by (count s) all

as_many_then : (c d e : CyclesState) → AreAsMany c d → AreAsMany d e → AreAsMany c e
as_many_then c d e h k = record { begins = k.begins ∙ h.begins; counts = λ s. k.counts s ∙ h.counts s }

pub bringing_all : {X : Type 0} (count : ℕ → X → ℕ) (c : CyclesState) (all : List X) → IsBringing count c c all all
bringing_all count c all = record { written = λ s. refl; most = refl; counts = record { begins = refl; counts = λ s. refl }; out = λ s. refl }

pub bringing_more : {X : Type 0} (count : ℕ → X → ℕ) (c d e : CyclesState) (all rest less : List X) (x : X) → IsBringing count c d all rest
    → ((s : ℕ) → sum_by (count s) rest ≡ sum_by (count s) less + count s x)
    → ((s : ℕ) → written_at e s ≡ written_at d s) → most_of e ≡ most_of d → AreAsMany d e
    → ((s : ℕ) → out_at e s ≡ out_at d s - count s x)
    → IsBringing count c e all less
bringing_more count c d e all rest less x b sums written most counts out = record {
  written = λ s. written s ∙ b.written s;
  most = most ∙ b.most;
  counts = as_many_then c d e b.counts counts;
  out = λ s. by (out_at c s) (out_at d s) (out_at e s) (sum_by (count s) all) (sum_by (count s) rest) (sum_by (count s) less) (count s x)
      (b.out s) (sums s) (out s);
}
  where
    by : (oc od oe na nr nl k : ℕ) → od - nr ≡ oc - na → nr ≡ nl + k → oe ≡ od - k → oe - nl ≡ oc - na
    by oc od oe na nr nl k h i j = omega arith

pub bringing_done : {X : Type 0} (count : ℕ → X → ℕ) (c d : CyclesState) (all rest : List X) → IsBringing count c d all rest → rest ≡ []
    → (s : ℕ) → out_at d s ≡ out_at c s - sum_by (count s) all
bringing_done count c d all rest b none s =
    by (out_at d s) (sum_by (count s) rest) (out_at c s - sum_by (count s) all) (ap (sum_by (count s)) none) (b.out s)
  where
    by : (o k r : ℕ) → k ≡ 0 → o - k ≡ r → o ≡ r
    by o k r e h = omega arith

-- An update list, from its front on

abbrev pub IsBringingNodes : CyclesState → CyclesState → UpdateList → List (Option Node) → Type 0
IsBringingNodes c d us rest = IsBringing (λ s o. fitting (written_at c s) s o) c d (nodes_in us) rest

count_nodes : (tris : Option (List Tri)) (s : ℕ) (us : UpdateList) → sum_by (fitting tris s) (nodes_in us) ≡ fitting_in tris s us
count_nodes tris s [] = refl
count_nodes tris s (u ∷ us) =
    let one = sum_by-cons (fitting tris s) u.1 (nodes_in us) in
    let two = sum_by-cons (λ (v : ℕ × Option Node). fitting tris s v.1) u us in
    let rest = count_nodes tris s us in
    omega (arith, one, two, rest)

split_suc : (us : UpdateList) (i : ℕ) (o : Option Node) → option_map (λ u. u.1) (slice_get us i) ≡ Some o → drop i (nodes_in us) ≡ o ∷ drop (suc i) (nodes_in us)
split_suc [] i o h = absurd (cc)
split_suc (u ∷ us) zero o h = ap (λ (p : Option Node). p ∷ nodes_in us) (same_Some u.1 o h)
split_suc (u ∷ us) (suc i) o h = split_suc us i o h

pub split_at : (us : UpdateList) (i : ℕ) (o : Option Node) → option_map (λ u. u.1) (slice_get us i) ≡ Some o → drop i (nodes_in us) ≡ o ∷ drop (i + 1) (nodes_in us)
split_at us i o h = split_suc us i o h ∙ ap (λ (n : ℕ). o ∷ drop n (nodes_in us)) (sym (add-one i))

pub swapped_long : (us vs : UpdateList) (n : ℕ) → map (λ u. u.0) vs ≡ map (λ u. u.0) us → length us ≡ n → length vs ≡ n
swapped_long us vs n ids long =
    let many = ap length ids in
    let one = length-map us (λ (u : ℕ × Option Node). u.0) in
    let two = length-map vs (λ (u : ℕ × Option Node). u.0) in
    omega (arith, many, one, two, long)

pub rest_none : (us : UpdateList) (i : ℕ) → length us ≤ i → drop i (nodes_in us) ≡ []
rest_none us i l = let many = length-map us (λ (u : ℕ × Option Node). u.1) in drop_all i (nodes_in us) (omega (arith, many, l))

pub none_left : (xs : List UpdateList) → length xs ≡ 0 → xs ≡ []
none_left [] h = refl
none_left (x ∷ xs) h = absurd (omega (arith, h))

-- the node at a place comes home, and the rest is still to come
pub node_brought : (c d e : CyclesState) (us : UpdateList) (olds news : List (Option Node)) (i : ℕ) (o none : Option Node) → IsBringingNodes c d us (drop i olds)
    → drop i olds ≡ o ∷ drop (i + 1) olds → news ≡ set olds i none
    → ((s : ℕ) → written_at e s ≡ written_at d s) → most_of e ≡ most_of d → AreAsMany d e
    → ((s : ℕ) → out_at e s ≡ out_at d s - fitting (written_at d s) s o)
    → IsBringingNodes c e us (drop (i + 1) news)
node_brought c d e us olds news i o none b split is written most counts out =
    bringing_more (λ s p. fitting (written_at c s) s p) c d e (nodes_in us) (drop i olds) (drop (i + 1) news) o b
    (λ s. sums s) written most counts
    (λ s. out s ∙ ap (λ (ts : Option (List Tri)). out_at d s - fitting ts s o) (b.written s))
  where
    rest_same : drop (i + 1) news ≡ drop (i + 1) olds
    rest_same = ap (drop (i + 1)) is ∙ drop-set-lt (i + 1) olds i none (omega arith)

    sums : (s : ℕ) → sum_by (fitting (written_at c s) s) (drop i olds) ≡ sum_by (fitting (written_at c s) s) (drop (i + 1) news) + fitting (written_at c s) s o
    sums s =
        let one = ap (sum_by (fitting (written_at c s) s)) split in
        let two = sum_by-cons (fitting (written_at c s) s) o (drop (i + 1) olds) in
        let same = ap (sum_by (fitting (written_at c s) s)) rest_same in
        omega (arith, one, two, same)

pub list_brought : (c d : CyclesState) (us : UpdateList) (rest : List (Option Node)) → IsBringingNodes c d us rest → rest ≡ []
    → (s : ℕ) → out_at d s ≡ out_at c s - fitting_in (written_at c s) s us
list_brought c d us rest b none s =
    bringing_done (λ n o. fitting (written_at c n) n o) c d (nodes_in us) rest b none s
    ∙ ap (λ n. out_at c s - n) (count_nodes (written_at c s) s us)

-- Update lists, from their end on

abbrev pub IsBringingLists : CyclesState → CyclesState → List UpdateList → List UpdateList → Type 0
IsBringingLists c d all rest = IsBringing (λ s us. fitting_in (written_at c s) s us) c d all rest

pub lists_brought_more : (c d e : CyclesState) (all rest less : List UpdateList) (us : UpdateList) → IsBringingLists c d all rest → rest ≡ less ++ us ∷ []
    → ((s : ℕ) → written_at e s ≡ written_at d s) → most_of e ≡ most_of d → AreAsMany d e
    → ((s : ℕ) → out_at e s ≡ out_at d s - fitting_in (written_at d s) s us)
    → IsBringingLists c e all less
lists_brought_more c d e all rest less us b split written most counts out =
    bringing_more (λ s vs. fitting_in (written_at c s) s vs) c d e all rest less us b
    (λ s. ap (sum_by (fitting_in (written_at c s) s)) split ∙ sum_by_push (fitting_in (written_at c s) s) less us) written most counts
    (λ s. out s ∙ ap (λ (ts : Option (List Tri)). out_at d s - fitting_in ts s us) (b.written s))

pub lists_brought : (c d : CyclesState) (all rest : List UpdateList) → IsBringingLists c d all rest → rest ≡ []
    → (s : ℕ) → out_at d s ≡ out_at c s - fitting_in_all (written_at c s) s all
lists_brought c d all rest b none s = bringing_done (λ n us. fitting_in (written_at c n) n us) c d all rest b none s

-- Where all that came home fits, each array counts

fits_count : (w : Written) (next s : ℕ) (ws : List Tri) (o : Option Node) → w s ≡ Some ws → FitsHome w next o → fitting (Some ws) s o ≡ arrays_of s o
fits_count w next s ws None is fits = refl
fits_count w next s ws (Some n) is fits = by (is_geode n.kind) (n.serial == s) refl refl
  where
    long : (t : Option (List Tri)) → option_map length t ≡ Some (length ws) → as_many (Some ws) t ≡ true
    long None h = absurd (cc)
    long (Some ts) h = eq-eqb (length ts) (length ws) (same_Some (length ts) (length ws) h)

    fit : is_geode n.kind ≡ true → (n.serial == s) ≡ true → as_many (Some ws) (geom_of n.kind) ≡ true
    fit geode e =
        long (geom_of n.kind)
        (subst (λ (o : Option (List Tri)). IsAsLong o (geom_of n.kind)) (ap w (eqb-true n.serial s e) ∙ is) (fits geode).1)

    by : (t u : Bool) → is_geode n.kind ≡ t → (n.serial == s) ≡ u → ◌≡◌ {A = ℕ} (cond (t && u && as_many (Some ws) (geom_of n.kind)) 1 0) (cond (t && u) 1 0)
    by true true p q = ap (λ (v : Bool). cond v 1 0) (fit p q)
    by true false p q = refl
    by false u p q = refl

list_counts : (w : Written) (next s : ℕ) (ws : List Tri) (us : UpdateList) → w s ≡ Some ws → ListFits w next us → fitting_in (Some ws) s us ≡ arrays_in s us
list_counts w next s ws [] is fits = refl
list_counts w next s ws (u ∷ us) is fits =
    let one = sum_by-cons (λ (v : ℕ × Option Node). fitting (Some ws) s v.1) u us in
    let two = sum_by-cons (λ (v : ℕ × Option Node). arrays_of s v.1) u us in
    let first = fits_count w next s ws u.1 is fits.0 in
    let rest = list_counts w next s ws us is fits.1 in
    omega (arith, one, two, first, rest)

lists_count : (w : Written) (next s : ℕ) (ws : List Tri) (lists : List UpdateList) → w s ≡ Some ws → ListsFit w next lists → fitting_in_all (Some ws) s lists ≡ arrays_in_all s lists
lists_count w next s ws [] is fits = refl
lists_count w next s ws (us ∷ lists) is fits =
    let one = sum_by-cons (fitting_in (Some ws) s) us lists in
    let two = sum_by-cons (arrays_in s) us lists in
    let first = list_counts w next s ws us is fits.0 in
    let rest = lists_count w next s ws lists is fits.1 in
    omega (arith, one, two, first, rest)

pub all_fit : (c d : CyclesState) (lists : List UpdateList) → ((s : ℕ) → out_at d s ≡ out_at c s - fitting_in_all (written_at c s) s lists)
    → (next : ℕ) → ListsFit (written_at c) next lists → (s : ℕ) → out_at d s ≡ out_at c s - arrays_in_all s lists
all_fit c d lists out next fits s = by (written_at c s) refl
  where
    none : (a b k j : ℕ) → a ≡ b - k → b ≡ 0 → a ≡ b - j
    none a b k j h e = omega arith

    by : (o : Option (List Tri)) → written_at c s ≡ o → out_at d s ≡ out_at c s - arrays_in_all s lists
    by None is = none (out_at d s) (out_at c s) (fitting_in_all (written_at c s) s lists) (arrays_in_all s lists) (out s) (none_out c s is)
    by (Some ws) is =
        out s ∙ ap (λ (ts : Option (List Tri)). out_at c s - fitting_in_all ts s lists) is
        ∙ ap (λ n. out_at c s - n) (lists_count (written_at c) next s ws lists is fits)
