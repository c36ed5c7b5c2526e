-- Making and deleting a node keep a graph within the limits.
use Rattle.std.proofs.Common.{◌≡◌, ℕ, suc, ◌+◌, ◌<◌, ◌≤◌, Bool, true, false, cond, ◌||◌, ◌==◌, nat_lt, List, [], ◌∷◌, map, length, Option, Some, None, is_some, refl, sym, ◌∙◌, ap, subst, arith}
use Rattle.std.specs.Prelude.{nat_eq}
use Rattle.std.specs.List.{AllByRecursion, IsDistinct, list_any}
use Rattle.std.specs.Option.{option_map_or}
use Rattle.std.proofs.lemmas.Bool.{eqb-true}
use Rattle.std.proofs.lemmas.Bool.Decides.{nat_tests}
use Rattle.pf_model.specs.declared.nodes.Kind.{Kind}
use Rattle.pf_model.specs.declared.nodes.Node.{Node}
use Rattle.pf_model.specs.declared.edits.Edit.TheVariants as edit
use Rattle.pf_model.specs.declared.edits.Fault.TheVariants as fault
use Rattle.pf_model.specs.Fits.{kind_fits}
use Rattle.pf_model.specs.Graphs.{Nodes, SceneGraph, node_at, children_of, put, without, height_of, size_of, levels}
use Rattle.pf_model.specs.Limits.{IsRising, is_there, HasBegun, IsGraphWithinLimits}
use Rattle.pf_model.specs.Edits.{rules, fault_of, effect}
use Rattle.pf_model.proofs.Places.{put_rising}
use Rattle.pf_model.proofs.Changes.{without_rising}
use Rattle.pf_model.proofs.Finds.{node_at_put, node_at_without, length_put, length_without}
use Rattle.pf_model.proofs.Keeping.{IsFine, fine_more, fine_of, keeps_of, few_of, length_within, heights_same, sizes_same, heights_less, sizes_less, FewerChildren, all_found_have}
use Rattle.pf_model.proofs.Members.{holds, same_fewer, none_fewer}
use Rattle.pf_model.proofs.Goods.{kind_light, kind_begun}
use Rattle.pf_model.proofs.Rules.{all_passed, when_not}

-- Lists with a node put

all_put : (P : ℕ × Node → Type 0) (id : ℕ) (n : Node) (xs : Nodes) → P (id, n) → AllByRecursion P xs → AllByRecursion P (put id n xs)
all_put P id n [] p h = (p, tt)
all_put P id n (x ∷ xs) p h = by (all_put P id n xs p h.1) (nat_lt id x.0) (x.0 == id)
  where
    by : AllByRecursion P (put id n xs) → (l t : Bool) → AllByRecursion P (cond l ((id, n) ∷ x ∷ xs) (cond t ((id, n) ∷ xs) (x ∷ put id n xs)))
    by rest true t = (p, h)
    by rest false true = (p, h.1)
    by rest false false = (h.0, rest)

-- serials that are all below s, seen from s
apart_from : (s : ℕ) (xs : Nodes) → AllByRecursion (λ e. e.1.serial < s) xs → AllByRecursion (λ y. nat_eq s y ≡ false) (map (λ e. e.1.serial) xs)
apart_from s [] h = tt
apart_from s (x ∷ xs) h = (above s x.1.serial h.0, apart_from s xs h.1)
  where
    above : (a b : ℕ) → b < a → nat_eq a b ≡ false
    above a b l = grind (arith, nat_tests)

apart_put : (q s id : ℕ) (n : Node) (xs : Nodes) → n.serial ≡ s → nat_eq q s ≡ false → AllByRecursion (λ y. nat_eq q y ≡ false) (map (λ e. e.1.serial) xs) → AllByRecursion (λ y. nat_eq q y ≡ false) (map (λ e. e.1.serial) (put id n xs))
apart_put q s id n [] is other h = (ap (λ m. nat_eq q m) is ∙ other, tt)
apart_put q s id n (x ∷ xs) is other h = by (apart_put q s id n xs is other h.1) (nat_lt id x.0) (x.0 == id)
  where
    by : AllByRecursion (λ y. nat_eq q y ≡ false) (map (λ e. e.1.serial) (put id n xs)) → (l t : Bool) → AllByRecursion (λ y. nat_eq q y ≡ false) (map (λ e. e.1.serial) (cond l ((id, n) ∷ x ∷ xs) (cond t ((id, n) ∷ xs) (x ∷ put id n xs))))
    by rest true t = (ap (λ m. nat_eq q m) is ∙ other, h)
    by rest false true = (ap (λ m. nat_eq q m) is ∙ other, h.1)
    by rest false false = (h.0, rest)

distinct_put : (s id : ℕ) (n : Node) (xs : Nodes) → n.serial ≡ s → AllByRecursion (λ e. e.1.serial < s) xs → IsDistinct nat_eq (map (λ e. e.1.serial) xs) → IsDistinct nat_eq (map (λ e. e.1.serial) (put id n xs))
unfolding IsDistinct
distinct_put s id n [] is below h = (tt, tt)
distinct_put s id n (x ∷ xs) is below h = by (distinct_put s id n xs is below.1 h.1) (nat_lt id x.0) (x.0 == id)
  where
    under : (a b : ℕ) → a < b → nat_eq a b ≡ false
    under a b l = grind (arith, nat_tests)

    by : IsDistinct nat_eq (map (λ e. e.1.serial) (put id n xs)) → (l t : Bool) → IsDistinct nat_eq (map (λ e. e.1.serial) (cond l ((id, n) ∷ x ∷ xs) (cond t ((id, n) ∷ xs) (x ∷ put id n xs))))
    by rest true t = (subst (λ (m : ℕ). AllByRecursion (λ y. nat_eq m y ≡ false) (map (λ (e : ℕ × Node). e.1.serial) (x ∷ xs))) (sym is) (apart_from s (x ∷ xs) below), h)
    by rest false true = (subst (λ (m : ℕ). AllByRecursion (λ y. nat_eq m y ≡ false) (map (λ (e : ℕ × Node). e.1.serial) xs)) (sym is) (apart_from s xs below.1), h.1)
    by rest false false = (apart_put x.1.serial s id n xs is (under x.1.serial s below.0) h.0, rest)

all_later : (s : ℕ) (xs : Nodes) → AllByRecursion (λ e. e.1.serial < s) xs → AllByRecursion (λ e. e.1.serial < s + 1) xs
all_later s [] h = tt
all_later s (x ∷ xs) h = (let l : x.1.serial < s = h.0 in omega arith, all_later s xs h.1)

is_none_of : (o : Option Node) → is_some o ≡ false → o ≡ None
is_none_of None h = refl
is_none_of (Some n) h = absurd (cc)

-- Making a node

abbrev pub new_node : SceneGraph → Kind → Node
new_node g kind = record { serial = g.next_serial; born = g.time; kind = kind; children = [] }

put_there : (n : Node) (id : ℕ) (xs : Nodes) → node_at xs id ≡ None → (c : ℕ) → is_there (node_at xs) c ≡ true → is_there (node_at (put id n xs)) c ≡ true
put_there n id xs none c there = ap (λ o. is_some o) (node_at_put n id xs c none) ∙ by (c == id)
  where
    by : (t : Bool) → is_some (cond t (Some n) (node_at xs c)) ≡ true
    by true = refl
    by false = there

found_put : (P : Node → Type 0) (n : Node) (id : ℕ) (xs : Nodes) → node_at xs id ≡ None → P n → ((b : ℕ) (m : Node) → node_at xs b ≡ Some m → P m) → (b : ℕ) (m : Node) → node_at (put id n xs) b ≡ Some m → P m
found_put P n id xs none this others b m found = by (b == id) (sym (node_at_put n id xs b none) ∙ found)
  where
    by : (t : Bool) → cond t (Some n) (node_at xs b) ≡ Some m → P m
    by true h = let is : n ≡ m = cc in subst P is this
    by false h = others b m h

pub limits_make : (g : SceneGraph) (id : ℕ) (kind : Kind) → IsGraphWithinLimits g → nat_lt id 65536 ≡ true → kind_fits kind ≡ true → None ≡ fault_of g (edit.Make id kind) → IsGraphWithinLimits (effect g (edit.Make id kind))
limits_make g id kind w small_id fits none = record {
  within = record {
    limits = keeps_of (node_at (put id (new_node g kind) g.nodes)) narrow
        (few_of (put id (new_node g kind) g.nodes) rising (let l : length (put id (new_node g kind) g.nodes) ≤ suc (length g.nodes) = length_put (new_node g kind) id g.nodes in omega (arith, room)))
        (found_put (IsFine (node_at (put id (new_node g kind) g.nodes))) (new_node g kind) id g.nodes absent_id
        (record { linked = λ c h. absurd (cc); short = omega arith; root = refl; leaf = λ h. refl; light = kind_light kind fits })
        (λ b m found. fine_more (node_at g.nodes) (node_at (put id (new_node g kind) g.nodes)) m (put_there (new_node g kind) id g.nodes absent_id) (fine_of (node_at g.nodes) w.within.limits b m found)))
        (λ b. subst (λ (h : ℕ). h ≤ 32) (sym (heights_same (node_at (put id (new_node g kind) g.nodes)) (node_at g.nodes) children levels b)) (w.within.limits.low b))
        (λ b. subst (λ (s : ℕ). s ≤ 131072) (sym (sizes_same (node_at (put id (new_node g kind) g.nodes)) (node_at g.nodes) children levels b)) (w.within.limits.small b));
    begun = found_put (λ n. HasBegun g.time n.kind) (new_node g kind) id g.nodes absent_id (kind_begun g.time kind fits) w.within.begun;
  };
  rising = rising;
  scene = put_there (new_node g kind) id g.nodes absent_id 0 w.scene;
  serials_differ = distinct_put g.next_serial id (new_node g kind) g.nodes refl w.serials_given w.serials_differ;
  serials_given = all_put (λ e. e.1.serial < g.next_serial + 1) id (new_node g kind) g.nodes (omega arith) (all_later g.next_serial g.nodes w.serials_given);
  born_before = all_put (λ e. e.1.born ≤ g.time) id (new_node g kind) g.nodes (omega arith) w.born_before;
}
  where
    passed : AllByRecursion (λ f. None ≡ f) (rules g (edit.Make id kind))
    passed = all_passed (rules g (edit.Make id kind)) none

    absent_id : node_at g.nodes id ≡ None
    absent_id = is_none_of (node_at g.nodes id) (when_not (is_some (node_at g.nodes id)) (fault.Taken id) passed.0)

    room : length g.nodes ≤ 4096
    room = bound (length g.nodes) (when_not (nat_lt 4096 (length g.nodes)) (fault.Many 4097) passed.1.0)
      where
        bound : (n : ℕ) → nat_lt 4096 n ≡ false → n ≤ 4096
        bound n h = grind (arith, nat_tests)

    rising : IsRising (map (λ e. e.0) (put id (new_node g kind) g.nodes))
    rising = put_rising id (new_node g kind) g.nodes w.rising

    narrow : (b : ℕ) → 65536 ≤ b → node_at (put id (new_node g kind) g.nodes) b ≡ None
    narrow b l = node_at_put (new_node g kind) id g.nodes b absent_id ∙ ap (λ t. cond t (Some (new_node g kind)) (node_at g.nodes b)) (far b id l small_id) ∙ w.within.limits.narrow b l
      where
        far : (b i : ℕ) → 65536 ≤ b → nat_lt i 65536 ≡ true → (b == i) ≡ false
        far b i l h = grind (arith, nat_tests)

    children : (b : ℕ) → children_of (node_at (put id (new_node g kind) g.nodes)) b ≡ children_of (node_at g.nodes) b
    children b = ap (λ o. option_map_or (λ (m : Node). m.children) o []) (node_at_put (new_node g kind) id g.nodes b absent_id) ∙ by (b == id) refl
      where
        by : (t : Bool) → (b == id) ≡ t → option_map_or (λ (m : Node). m.children) (cond t (Some (new_node g kind)) (node_at g.nodes b)) [] ≡ children_of (node_at g.nodes) b
        by true e = ap (λ o. option_map_or (λ (m : Node). m.children) o []) (sym absent_id ∙ ap (node_at g.nodes) (sym (eqb-true b id e)))
        by false e = refl

-- Deleting a node

all_without : (P : ℕ × Node → Type 0) (id : ℕ) (xs : Nodes) → AllByRecursion P xs → AllByRecursion P (without id xs)
all_without P id [] h = tt
all_without P id (x ∷ xs) h = by (all_without P id xs h.1) (x.0 == id)
  where
    by : AllByRecursion P (without id xs) → (t : Bool) → AllByRecursion P (cond t xs (x ∷ without id xs))
    by rest true = h.1
    by rest false = (h.0, rest)

apart_without : (s id : ℕ) (xs : Nodes) → AllByRecursion (λ y. nat_eq s y ≡ false) (map (λ e. e.1.serial) xs) → AllByRecursion (λ y. nat_eq s y ≡ false) (map (λ e. e.1.serial) (without id xs))
apart_without s id [] h = tt
apart_without s id (x ∷ xs) h = by (apart_without s id xs h.1) (x.0 == id)
  where
    by : AllByRecursion (λ y. nat_eq s y ≡ false) (map (λ e. e.1.serial) (without id xs)) → (t : Bool) → AllByRecursion (λ y. nat_eq s y ≡ false) (map (λ e. e.1.serial) (cond t xs (x ∷ without id xs)))
    by rest true = h.1
    by rest false = (h.0, rest)

distinct_without : (id : ℕ) (xs : Nodes) → IsDistinct nat_eq (map (λ e. e.1.serial) xs) → IsDistinct nat_eq (map (λ e. e.1.serial) (without id xs))
unfolding IsDistinct
distinct_without id [] h = tt
distinct_without id (x ∷ xs) h = by (distinct_without id xs h.1) (x.0 == id)
  where
    by : IsDistinct nat_eq (map (λ e. e.1.serial) (without id xs)) → (t : Bool) → IsDistinct nat_eq (map (λ e. e.1.serial) (cond t xs (x ∷ without id xs)))
    by rest true = h.1
    by rest false = (apart_without x.1.serial id xs h.0, rest)

-- what is found after is another node that was found before
found_without : (id : ℕ) (xs : Nodes) → IsRising (map (λ e. e.0) xs) → (b : ℕ) (m : Node) → node_at (without id xs) b ≡ Some m → node_at xs b ≡ Some m
found_without id xs rising b m found = by (b == id) (sym (node_at_without id xs b rising) ∙ found)
  where
    by : (t : Bool) → cond t None (node_at xs b) ≡ Some m → node_at xs b ≡ Some m
    by true h = absurd (cc)
    by false h = h

there_without : (id : ℕ) (xs : Nodes) → IsRising (map (λ e. e.0) xs) → (c : ℕ) → (c == id) ≡ false → is_there (node_at xs) c ≡ true → is_there (node_at (without id xs)) c ≡ true
there_without id xs rising c other there = ap (λ o. is_some o) (node_at_without id xs c rising ∙ ap (λ t. cond t None (node_at xs c)) other) ∙ there

no_parents : (id : ℕ) (xs : Nodes) → list_any (λ e. list_any (λ c. c == id) e.1.children) xs ≡ false → AllByRecursion (λ e. holds id e.1.children ≡ false) xs
no_parents id [] h = tt
no_parents id (x ∷ xs) h = by (holds id x.1.children) refl h (no_parents id xs)
  where
    by : (t : Bool) → holds id x.1.children ≡ t → (t || list_any (λ e. list_any (λ c. c == id) e.1.children) xs) ≡ false → (list_any (λ e. list_any (λ c. c == id) e.1.children) xs ≡ false → AllByRecursion (λ e. holds id e.1.children ≡ false) xs) → (holds id x.1.children ≡ false) × AllByRecursion (λ e. holds id e.1.children ≡ false) xs
    by true e h rest = absurd (cc)
    by false e h rest = (e, rest h)

fewer_without : (id : ℕ) (xs : Nodes) → IsRising (map (λ e. e.0) xs) → (b : ℕ) → FewerChildren (children_of (node_at (without id xs)) b) (children_of (node_at xs) b)
fewer_without id xs rising b =
    subst (λ (cs : List ℕ). FewerChildren cs (children_of (node_at xs) b)) (sym (ap (λ o. option_map_or (λ (m : Node). m.children) o []) (node_at_without id xs b rising))) (by (b == id))
  where
    by : (t : Bool) → FewerChildren (option_map_or (λ (m : Node). m.children) (cond t None (node_at xs b)) []) (children_of (node_at xs) b)
    by true = none_fewer (children_of (node_at xs) b)
    by false = same_fewer (children_of (node_at xs) b)

pub limits_delete : (g : SceneGraph) (id : ℕ) → IsGraphWithinLimits g → None ≡ fault_of g (edit.Delete id) → IsGraphWithinLimits (effect g (edit.Delete id))
limits_delete g id w none = record {
  within = record {
    limits = keeps_of (node_at (without id g.nodes)) narrow
        (few_of (without id g.nodes) rising (let l : length (without id g.nodes) ≤ length g.nodes = length_without id g.nodes in let k : length g.nodes ≤ 4097 = length_within g w in omega arith))
        (λ b m found. fine b m (found_without id g.nodes w.rising b m found))
        (λ b. let l : height_of (node_at (without id g.nodes)) b ≤ height_of (node_at g.nodes) b = heights_less (node_at (without id g.nodes)) (node_at g.nodes) (fewer_without id g.nodes w.rising) levels b in let k : height_of (node_at g.nodes) b ≤ 32 = w.within.limits.low b in omega arith)
        (λ b. let l : size_of (node_at (without id g.nodes)) b ≤ size_of (node_at g.nodes) b = sizes_less (node_at (without id g.nodes)) (node_at g.nodes) (fewer_without id g.nodes w.rising) levels b in let k : size_of (node_at g.nodes) b ≤ 131072 = w.within.limits.small b in omega arith);
    begun = λ b m found. w.within.begun b m (found_without id g.nodes w.rising b m found);
  };
  rising = rising;
  scene = there_without id g.nodes w.rising 0 (turned id (when_not (id == 0) (fault.Kind 0) passed.1.0)) w.scene;
  serials_differ = distinct_without id g.nodes w.serials_differ;
  serials_given = all_without (λ e. e.1.serial < g.next_serial) id g.nodes w.serials_given;
  born_before = all_without (λ e. e.1.born ≤ g.time) id g.nodes w.born_before;
}
  where
    passed : AllByRecursion (λ f. None ≡ f) (rules g (edit.Delete id))
    passed = all_passed (rules g (edit.Delete id)) none

    turned : (i : ℕ) → (i == 0) ≡ false → (0 == i) ≡ false
    turned i h = grind (arith, nat_tests)

    rising : IsRising (map (λ e. e.0) (without id g.nodes))
    rising = without_rising id g.nodes w.rising

    narrow : (b : ℕ) → 65536 ≤ b → node_at (without id g.nodes) b ≡ None
    narrow b l = node_at_without id g.nodes b w.rising ∙ by (b == id)
      where
        by : (t : Bool) → cond t None (node_at g.nodes b) ≡ None
        by true = refl
        by false = w.within.limits.narrow b l

    unused : AllByRecursion (λ e. holds id e.1.children ≡ false) g.nodes
    unused = no_parents id g.nodes (when_not (list_any (λ e. list_any (λ c. c == id) e.1.children) g.nodes) (fault.InUse id) passed.1.1.0)

    fine : (b : ℕ) (m : Node) → node_at g.nodes b ≡ Some m → IsFine (node_at (without id g.nodes)) m
    fine b m found = let old_fine = fine_of (node_at g.nodes) w.within.limits b m found in record {
      linked = λ c h. there_without id g.nodes w.rising c (other m c (all_found_have (λ e. holds id e.1.children ≡ false) g.nodes unused b m found) h (c == id) refl) (old_fine.linked c h);
      short = old_fine.short;
      root = old_fine.root;
      leaf = old_fine.leaf;
      light = old_fine.light;
    }
      where
        other : (m : Node) (c : ℕ) → holds id m.children ≡ false → holds c m.children ≡ true → (t : Bool) → (c == id) ≡ t → t ≡ false
        other m c none h true e = absurd (let k : true ≡ false = sym (subst (λ (d : ℕ). holds d m.children ≡ true) (eqb-true c id e) h) ∙ none in cc)
        other m c none h false e = refl
