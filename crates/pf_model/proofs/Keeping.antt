-- What keeps a graph within the limits.
use Rattle.std.proofs.Common.{◌≡◌, ℕ, zero, suc, ◌+◌, ◌<◌, ◌≤◌, Bool, true, false, cond, ◌||◌, ◌==◌, nat_lt, List, [], ◌∷◌, map, sum, length, Option, Some, None, is_some, refl, sym, ◌∙◌, ap, subst, arith}
use Rattle.std.specs.Prelude.{nat_eq}
use Rattle.std.specs.List.{AllByRecursion, IsDistinct, list_any, list_all}
use Rattle.std.specs.Option.{option_map, option_map_or}
use Rattle.std.proofs.lemmas.Bool.{eqb-true}
use Rattle.std.proofs.lemmas.Bool.Decides.{nat_tests}
use Rattle.std.proofs.lemmas.List.Sums.{sum_by-cons}
use Rattle.pf_model.specs.declared.geometry.Tri.{Tri}
use Rattle.pf_model.specs.declared.nodes.Kind.{Kind}
use Rattle.pf_model.specs.declared.nodes.Node.{Node}
use Rattle.pf_model.specs.Kinds.{geom_of, is_geode}
use Rattle.pf_model.specs.Graphs.{Look, Nodes, SceneGraph, node_at, has_id, children_of, greatest, height_in, size_in, height_of, size_of, change, levels}
use Rattle.pf_model.specs.Edits.{greatest_height, with_nodes}
use Rattle.pf_model.specs.Limits.{IsRising, is_there, KeepsLimits, HasBegun, IsGraphWithinLimits}
use Rattle.pf_model.proofs.Places.{node_at_step, funext, AreFound, all_found}
use Rattle.std.proofs.lemmas.List.{length-map}
use Rattle.pf_model.proofs.Levels.{levels_are, height_step, size_step, none_below_itself}
use Rattle.pf_model.proofs.Finds.{node_at_change, few_found, ids_change, length_change}

-- What the limits ask of one node.
pub record IsFine (look : Look) (n : Node) : Type 0 where
  pub linked : (c : ℕ) → list_any (λ d. d == c) n.children ≡ true → is_there look c ≡ true
  pub short : length n.children ≤ 256
  pub root : list_any (λ d. d == 0) n.children ≡ false
  pub leaf : is_geode n.kind ≡ true → n.children ≡ []
  pub light : (ts : List Tri) → geom_of n.kind ≡ Some ts → length ts ≤ 4096

pub fine_more : (f g : Look) (n : Node) → ((c : ℕ) → is_there f c ≡ true → is_there g c ≡ true) → IsFine f n → IsFine g n
fine_more f g n more fine = record { linked = λ c h. more c (fine.linked c h); short = fine.short; root = fine.root; leaf = fine.leaf; light = fine.light }

children_found : (look : Look) (id : ℕ) (n : Node) → look id ≡ Some n → children_of look id ≡ n.children
children_found look id n found = ap (λ o. option_map_or (λ (m : Node). m.children) o []) found

pub fine_of : (look : Look) → KeepsLimits look → (id : ℕ) (n : Node) → look id ≡ Some n → IsFine look n
fine_of look keeps id n found = record {
  linked = λ c h. keeps.linked id c (ap (λ cs. list_any (λ d. d == c) cs) (children_found look id n found) ∙ h);
  short = subst (λ (cs : List ℕ). length cs ≤ 256) (children_found look id n found) (keeps.short id);
  root = sym (ap (λ cs. list_any (λ d. d == 0) cs) (children_found look id n found)) ∙ keeps.root id;
  leaf = λ h. keeps.leaves id n found h;
  light = λ ts h. keeps.light id n ts found h;
}

pub keeps_of : (look : Look) → ((id : ℕ) → 65536 ≤ id → look id ≡ None) → ((ids : List ℕ) → IsRising ids → list_all (is_there look) ids ≡ true → length ids ≤ 4097)
    → ((id : ℕ) (n : Node) → look id ≡ Some n → IsFine look n) → ((id : ℕ) → height_of look id ≤ 32) → ((id : ℕ) → size_of look id ≤ 131072) → KeepsLimits look
keeps_of look narrow few fine low small = record {
  narrow = narrow;
  few = few;
  linked = λ id child h. linked child (look id) (λ n e. (fine id n e).linked child) h;
  short = λ id. short (look id) (λ n e. (fine id n e).short);
  acyclic = none_below_itself look low;
  root = λ id. root (look id) (λ n e. (fine id n e).root);
  leaves = λ id n found h. (fine id n found).leaf h;
  low = low;
  small = small;
  light = λ id n ts found h. (fine id n found).light ts h;
}
  where
    linked : (child : ℕ) (o : Option Node) → ((n : Node) → o ≡ Some n → list_any (λ d. d == child) n.children ≡ true → is_there look child ≡ true) → list_any (λ d. d == child) (option_map_or (λ n. n.children) o []) ≡ true → is_there look child ≡ true
    linked child None each h = absurd (cc)
    linked child (Some n) each h = each n refl h

    short : (o : Option Node) → ((n : Node) → o ≡ Some n → length n.children ≤ 256) → length (option_map_or (λ n. n.children) o []) ≤ 256
    short None each = omega arith
    short (Some n) each = each n refl

    root : (o : Option Node) → ((n : Node) → o ≡ Some n → list_any (λ d. d == 0) n.children ≡ false) → list_any (λ d. d == 0) (option_map_or (λ n. n.children) o []) ≡ false
    root None each = refl
    root (Some n) each = each n refl

-- Heights and sizes depend on children alone

pub heights_same : (f g : Look) → ((id : ℕ) → children_of f id ≡ children_of g id) → (n id : ℕ) → height_in n f id ≡ height_in n g id
unfolding height_in
heights_same f g same zero id = refl
heights_same f g same (suc n) id = ap (λ cs. 1 + greatest (map (height_in n f) cs)) (same id) ∙ ap (λ h. 1 + greatest (map h (children_of g id))) (funext (height_in n f) (height_in n g) (heights_same f g same n))

pub sizes_same : (f g : Look) → ((id : ℕ) → children_of f id ≡ children_of g id) → (n id : ℕ) → size_in n f id ≡ size_in n g id
unfolding size_in
sizes_same f g same zero id = refl
sizes_same f g same (suc n) id = ap (λ cs. 1 + sum (map (size_in n f) cs)) (same id) ∙ ap (λ h. 1 + sum (map h (children_of g id))) (funext (size_in n f) (size_in n g) (sizes_same f g same n))

-- fewer children make nothing higher or larger
pub record FewerChildren (cs ds : List ℕ) : Type 0 where
  pub heights : (h : ℕ → ℕ) → greatest (map h cs) ≤ greatest (map h ds)
  pub sizes : (s : ℕ → ℕ) → sum (map s cs) ≤ sum (map s ds)

greatest_less : (h k : ℕ → ℕ) → ((c : ℕ) → h c ≤ k c) → (cs : List ℕ) → greatest (map h cs) ≤ greatest (map k cs)
greatest_less h k l [] = omega arith
greatest_less h k l (c ∷ cs) = let a : h c ≤ k c = l c in let b : greatest (map h cs) ≤ greatest (map k cs) = greatest_less h k l cs in omega arith

sum_less : (h k : ℕ → ℕ) → ((c : ℕ) → h c ≤ k c) → (cs : List ℕ) → sum (map h cs) ≤ sum (map k cs)
sum_less h k l [] = omega arith
sum_less h k l (c ∷ cs) =
    let a : h c ≤ k c = l c in
    let b : sum (map h cs) ≤ sum (map k cs) = sum_less h k l cs in
    omega (arith, sum_by-cons (λ (n : ℕ). n) (h c) (map h cs), sum_by-cons (λ (n : ℕ). n) (k c) (map k cs))

pub heights_less : (f g : Look) → ((id : ℕ) → FewerChildren (children_of f id) (children_of g id)) → (n id : ℕ) → height_in n f id ≤ height_in n g id
unfolding height_in
heights_less f g fewer zero id = omega arith
heights_less f g fewer (suc n) id =
    let a : greatest (map (height_in n f) (children_of f id)) ≤ greatest (map (height_in n f) (children_of g id)) = (fewer id).heights (height_in n f) in
    let b : greatest (map (height_in n f) (children_of g id)) ≤ greatest (map (height_in n g) (children_of g id)) = greatest_less (height_in n f) (height_in n g) (heights_less f g fewer n) (children_of g id) in
    omega arith

pub sizes_less : (f g : Look) → ((id : ℕ) → FewerChildren (children_of f id) (children_of g id)) → (n id : ℕ) → size_in n f id ≤ size_in n g id
unfolding size_in
sizes_less f g fewer zero id = omega arith
sizes_less f g fewer (suc n) id =
    let a : sum (map (size_in n f) (children_of f id)) ≤ sum (map (size_in n f) (children_of g id)) = (fewer id).sizes (size_in n f) in
    let b : sum (map (size_in n f) (children_of g id)) ≤ sum (map (size_in n g) (children_of g id)) = sum_less (size_in n f) (size_in n g) (sizes_less f g fewer n) (children_of g id) in
    omega arith

-- What a look-up finds has what all entries have

pub all_found_have : (P : ℕ × Node → Type 0) (xs : Nodes) → AllByRecursion P xs → (id : ℕ) (n : Node) → node_at xs id ≡ Some n → P (id, n)
all_found_have P [] h id n found = absurd (cc)
all_found_have P (x ∷ xs) h id n found = by (λ r. all_found_have P xs h.1 id n r) (has_id id x) refl
  where
    by : (node_at xs id ≡ Some n → P (id, n)) → (t : Bool) → has_id id x ≡ t → P (id, n)
    by rest true e =
        let is : Some x.1 ≡ Some n = sym (node_at_step id x xs ∙ ap (λ t. cond t (Some x.1) (node_at xs id)) e) ∙ found in
        let node : x.1 ≡ n = cc in
        subst (λ (m : Node). P (id, m)) node (subst (λ (i : ℕ). P (i, x.1)) (eqb-true x.0 id e) h.0)
    by rest false e = rest (sym (node_at_step id x xs ∙ ap (λ t. cond t (Some x.1) (node_at xs id)) e) ∙ found)

-- Rules that are passed bound heights and sizes

height_of_absent : (look : Look) (id : ℕ) → look id ≡ None → height_of look id ≡ 1
height_of_absent look id none =
    ap (λ (n : ℕ). height_in n look id) levels_are ∙ height_step 4096 look id
    ∙ ap (λ o. 1 + greatest (map (height_in 4096 look) (option_map_or (λ (m : Node). m.children) o []))) none

size_of_absent : (look : Look) (id : ℕ) → look id ≡ None → size_of look id ≡ 1
size_of_absent look id none =
    ap (λ (n : ℕ). size_in n look id) levels_are ∙ size_step 4096 look id
    ∙ ap (λ o. 1 + sum (map (size_in 4096 look) (option_map_or (λ (m : Node). m.children) o []))) none

at_most_greatest : (f : ℕ × Node → ℕ) (xs : Nodes) (m : ℕ) → greatest (map f xs) ≤ m → AllByRecursion (λ x. f x ≤ m) xs
at_most_greatest f [] m l = tt
at_most_greatest f (x ∷ xs) m l = (omega arith, at_most_greatest f xs m (omega arith))

pub low_of_rule : (xs : Nodes) → nat_lt 32 (greatest_height xs) ≡ false → (id : ℕ) → height_of (node_at xs) id ≤ 32
low_of_rule xs passed id = by (node_at xs id) refl
  where
    bound : (n : ℕ) → nat_lt 32 n ≡ false → n ≤ 32
    bound n h = grind (arith, nat_tests)

    by : (o : Option Node) → node_at xs id ≡ o → height_of (node_at xs) id ≤ 32
    by None e = let h : height_of (node_at xs) id ≡ 1 = height_of_absent (node_at xs) id e in omega arith
    by (Some n) e = all_found_have (λ x. height_of (node_at xs) x.0 ≤ 32) xs (at_most_greatest (λ x. height_of (node_at xs) x.0) xs 32 (bound (greatest_height xs) passed)) id n e

none_large : (f : ℕ × Node → ℕ) (xs : Nodes) → list_any (λ x. nat_lt 131072 (f x)) xs ≡ false → AllByRecursion (λ x. f x ≤ 131072) xs
none_large f [] h = tt
none_large f (x ∷ xs) h = by (nat_lt 131072 (f x)) refl h (none_large f xs)
  where
    bound : (n : ℕ) → nat_lt 131072 n ≡ false → n ≤ 131072
    bound n h = grind (arith, nat_tests)

    by : (t : Bool) → nat_lt 131072 (f x) ≡ t → (t || list_any (λ x. nat_lt 131072 (f x)) xs) ≡ false → (list_any (λ x. nat_lt 131072 (f x)) xs ≡ false → AllByRecursion (λ x. f x ≤ 131072) xs) → (f x ≤ 131072) × AllByRecursion (λ x. f x ≤ 131072) xs
    by true e h rest = absurd (cc)
    by false e h rest = (bound (f x) e, rest h)

pub small_of_rule : (xs : Nodes) → list_any (λ x. nat_lt 131072 (size_of (node_at xs) x.0)) xs ≡ false → (id : ℕ) → size_of (node_at xs) id ≤ 131072
small_of_rule xs passed id = by (node_at xs id) refl
  where
    by : (o : Option Node) → node_at xs id ≡ o → size_of (node_at xs) id ≤ 131072
    by None e = let h : size_of (node_at xs) id ≡ 1 = size_of_absent (node_at xs) id e in omega arith
    by (Some n) e = all_found_have (λ x. size_of (node_at xs) x.0 ≤ 131072) xs (none_large (λ x. size_of (node_at xs) x.0) xs passed) id n e

-- A graph with one node changed

pub all_change : (P : ℕ × Node → Type 0) (f : Node → Node) → ((x : ℕ × Node) → P x → P (x.0, f x.1)) → (id : ℕ) (xs : Nodes) → AllByRecursion P xs → AllByRecursion P (change id f xs)
all_change P f keep id [] h = tt
all_change P f keep id (x ∷ xs) h = by (all_change P f keep id xs h.1) (x.0 == id)
  where
    by : AllByRecursion P (change id f xs) → (t : Bool) → AllByRecursion P (cond t ((x.0, f x.1) ∷ xs) (x ∷ change id f xs))
    by rest true = (keep x h.0, h.1)
    by rest false = (h.0, rest)

pub map_change : {Y : Type 0} (h : ℕ × Node → Y) (f : Node → Node) → ((x : ℕ × Node) → h (x.0, f x.1) ≡ h x) → (id : ℕ) (xs : Nodes) → map h (change id f xs) ≡ map h xs
map_change h f keep id [] = refl
map_change h f keep id (x ∷ xs) = by (map_change h f keep id xs) (x.0 == id)
  where
    by : map h (change id f xs) ≡ map h xs → (t : Bool) → map h (cond t ((x.0, f x.1) ∷ xs) (x ∷ change id f xs)) ≡ h x ∷ map h xs
    by rest true = ap (λ y. y ∷ map h xs) (keep x)
    by rest false = ap (λ ys. h x ∷ ys) rest

there_change : (f : Node → Node) (id : ℕ) (xs : Nodes) (b : ℕ) → is_there (node_at (change id f xs)) b ≡ is_there (node_at xs) b
there_change f id xs b = ap (λ o. is_some o) (node_at_change f id xs b) ∙ by (b == id) (node_at xs b)
  where
    by : (t : Bool) (o : Option Node) → is_some (cond t (option_map f o) o) ≡ is_some o
    by true None = refl
    by true (Some n) = refl
    by false o = refl

-- a fact of the nodes found, where it holds of the others before and of the changed one
pub found_changed : (P : Node → Type 0) (f : Node → Node) (id : ℕ) (xs : Nodes) → ((b : ℕ) (n : Node) → node_at xs b ≡ Some n → P n) → ((n : Node) → node_at xs id ≡ Some n → P (f n)) → (b : ℕ) (m : Node) → node_at (change id f xs) b ≡ Some m → P m
found_changed P f id xs others this b m found = by (b == id) refl (node_at xs b) refl (sym (node_at_change f id xs b) ∙ found)
  where
    by : (t : Bool) → (b == id) ≡ t → (o : Option Node) → node_at xs b ≡ o → cond (b == id) (option_map f (node_at xs b)) (node_at xs b) ≡ Some m → P m
    by true e None eo h = absurd (let g : cond true (option_map f None) None ≡ Some m = sym (ap (λ t. cond t (option_map f (node_at xs b)) (node_at xs b)) e ∙ ap (λ o. option_map f o) eo) ∙ h in cc)
    by true e (Some n) eo h =
        let g : Some (f n) ≡ Some m = sym (ap (λ t. cond t (option_map f (node_at xs b)) (node_at xs b)) e ∙ ap (λ o. option_map f o) eo) ∙ h in
        let is : f n ≡ m = cc in
        subst P is (this n (subst (λ (i : ℕ). node_at xs i ≡ Some n) (eqb-true b id e) eo))
    by false e o eo h = others b m (sym (ap (λ t. cond t (option_map f (node_at xs b)) (node_at xs b)) e) ∙ h)

pub length_within : (g : SceneGraph) → IsGraphWithinLimits g → length g.nodes ≤ 4097
length_within g w =
    let l : length (map (λ (e : ℕ × Node). e.0) g.nodes) ≤ 4097 = w.within.limits.few (map (λ e. e.0) g.nodes) w.rising (all_there g.nodes w.rising) in
    omega (arith, length-map g.nodes (λ (e : ℕ × Node). e.0))
  where
    each_there : (nodes es : Nodes) → AreFound nodes es → list_all (is_there (node_at nodes)) (map (λ e. e.0) es) ≡ true
    each_there nodes [] h = refl
    each_there nodes (e ∷ es) h = rw h.0 (each_there nodes es h.1)

    all_there : (nodes : Nodes) → IsRising (map (λ e. e.0) nodes) → list_all (is_there (node_at nodes)) (map (λ e. e.0) nodes) ≡ true
    all_there nodes rising = each_there nodes nodes (all_found nodes rising)

pub few_of : (xs : Nodes) → IsRising (map (λ e. e.0) xs) → length xs ≤ 4097 → (ids : List ℕ) → IsRising ids → list_all (is_there (node_at xs)) ids ≡ true → length ids ≤ 4097
few_of xs rising l ids up all = let k : length ids ≤ length xs = few_found xs ids rising up all in omega arith

-- A change that keeps serial and birth.
pub record KeepsIdentity (f : Node → Node) : Type 0 where
  pub serial : (n : Node) → (f n).serial ≡ n.serial
  pub born : (n : Node) → (f n).born ≡ n.born

pub limits_change : (g : SceneGraph) (id : ℕ) (f : Node → Node) → IsGraphWithinLimits g → KeepsIdentity f
    → ((n : Node) → node_at g.nodes id ≡ Some n → IsFine (node_at g.nodes) (f n))
    → ((n : Node) → node_at g.nodes id ≡ Some n → HasBegun g.time (f n).kind)
    → ((b : ℕ) → height_of (node_at (change id f g.nodes)) b ≤ 32) → ((b : ℕ) → size_of (node_at (change id f g.nodes)) b ≤ 131072)
    → IsGraphWithinLimits (with_nodes (change id f) g)
limits_change g id f w keep fine begun low small = record {
  within = record {
    limits = keeps_of (node_at (change id f g.nodes))
        (λ b l. narrow b (w.within.limits.narrow b l))
        (few_of (change id f g.nodes) rising (let l : length g.nodes ≤ 4097 = length_within g w in omega (arith, length_change f id g.nodes)))
        (λ b m found. fine_more (node_at g.nodes) (node_at (change id f g.nodes)) m (λ c h. there_change f id g.nodes c ∙ h)
        (found_changed (IsFine (node_at g.nodes)) f id g.nodes (fine_of (node_at g.nodes) w.within.limits) fine b m found))
        low small;
    begun = found_changed (λ n. HasBegun g.time n.kind) f id g.nodes w.within.begun begun;
  };
  rising = rising;
  scene = there_change f id g.nodes 0 ∙ w.scene;
  serials_differ = subst (λ (ss : List ℕ). IsDistinct nat_eq ss) (sym (map_change (λ e. e.1.serial) f (λ x. keep.serial x.1) id g.nodes)) w.serials_differ;
  serials_given = all_change (λ e. e.1.serial < g.next_serial) f (λ x h. subst (λ (s : ℕ). s < g.next_serial) (sym (keep.serial x.1)) h) id g.nodes w.serials_given;
  born_before = all_change (λ e. e.1.born ≤ g.time) f (λ x h. subst (λ (s : ℕ). s ≤ g.time) (sym (keep.born x.1)) h) id g.nodes w.born_before;
}
  where
    rising : IsRising (map (λ e. e.0) (change id f g.nodes))
    rising = subst (λ (is : List ℕ). IsRising is) (sym (ids_change f id g.nodes)) w.rising

    narrow : (b : ℕ) → node_at g.nodes b ≡ None → node_at (change id f g.nodes) b ≡ None
    narrow b none = node_at_change f id g.nodes b ∙ by (b == id) (node_at g.nodes b) none
      where
        by : (t : Bool) (o : Option Node) → o ≡ None → cond t (option_map f o) o ≡ None
        by true None e = refl
        by true (Some n) e = absurd (cc)
        by false o e = e

-- children that stay make the same heights and sizes

pub same_children : (f : Node → Node) (id : ℕ) (xs : Nodes) → ((n : Node) → (f n).children ≡ n.children) → (b : ℕ) → children_of (node_at (change id f xs)) b ≡ children_of (node_at xs) b
same_children f id xs keep b = ap (λ o. option_map_or (λ (m : Node). m.children) o []) (node_at_change f id xs b) ∙ by (b == id) (node_at xs b)
  where
    by : (t : Bool) (o : Option Node) → option_map_or (λ (m : Node). m.children) (cond t (option_map f o) o) [] ≡ option_map_or (λ (m : Node). m.children) o []
    by true None = refl
    by true (Some n) = keep n
    by false o = refl

-- a change of a node's kind to one that is as good
pub record IsAsGood (time : ℕ) (k j : Kind) : Type 0 where
  pub geode : is_geode j ≡ is_geode k
  pub light : ((ts : List Tri) → geom_of k ≡ Some ts → length ts ≤ 4096) → (ts : List Tri) → geom_of j ≡ Some ts → length ts ≤ 4096
  pub begun : HasBegun time k → HasBegun time j

pub limits_rekind : (g : SceneGraph) (id : ℕ) (k : Node → Kind) → IsGraphWithinLimits g → ((n : Node) → node_at g.nodes id ≡ Some n → IsAsGood g.time n.kind (k n)) → IsGraphWithinLimits (with_nodes (change id (λ n. record n { kind = k n })) g)
limits_rekind g id k w good =
    limits_change g id (λ n. record n { kind = k n }) w (record { serial = λ n. refl; born = λ n. refl })
    (λ n found. let fine = fine_of (node_at g.nodes) w.within.limits id n found in record {
      linked = fine.linked;
      short = fine.short;
      root = fine.root;
      leaf = λ h. fine.leaf (sym (good n found).geode ∙ h);
      light = (good n found).light fine.light;
    })
    (λ n found. (good n found).begun (w.within.begun id n found))
    (λ b. subst (λ (h : ℕ). h ≤ 32) (sym (heights_same (node_at (change id (λ n. record n { kind = k n }) g.nodes)) (node_at g.nodes) (same_children (λ n. record n { kind = k n }) id g.nodes (λ n. refl)) levels b)) (w.within.limits.low b))
    (λ b. subst (λ (s : ℕ). s ≤ 131072) (sym (sizes_same (node_at (change id (λ n. record n { kind = k n }) g.nodes)) (node_at g.nodes) (same_children (λ n. record n { kind = k n }) id g.nodes (λ n. refl)) levels b)) (w.within.limits.small b))
