-- An edit changes the node that it names and no other, and lists with the same nodes are equal.
use Rattle.std.proofs.Common.{◌≡◌, ℕ, ◌<◌, Bool, true, false, cond, ◌==◌, nat_lt, List, [], ◌∷◌, ◌++◌, map, Option, Some, None, refl, sym, ◌∙◌, ap, subst, arith}
use Rattle.std.specs.List.{AllByRecursion}
use Rattle.std.specs.Option.{option_map}
use Rattle.std.proofs.lemmas.Bool.{eqb-true, eq-eqb}
use Rattle.std.proofs.lemmas.Bool.Decides.{nat_tests}
use Rattle.pf_model.specs.declared.nodes.Node.{Node}
use Rattle.pf_model.specs.declared.edits.Edit.{Edit}
use Rattle.pf_model.specs.declared.edits.Edit.TheVariants as edit
use Rattle.pf_model.specs.Graphs.{Nodes, SceneGraph, node_at, change, put}
use Rattle.pf_model.specs.Limits.{IsRising}
use Rattle.pf_model.specs.Edits.{effect}
use Rattle.pf_model.specs.NodeEdits.{node_after}
use Rattle.pf_model.specs.Copies.{named_by, updated, updated_by, UpdateList}
use Rattle.pf_model.proofs.Places.{node_at_step, put_rising}
use Rattle.pf_model.proofs.Changes.{without_rising}
use Rattle.pf_model.proofs.Finds.{apart_true, apart_other, turned_eq, node_at_change, node_at_without, none_above, ids_change}

-- what a look-up finds after a node was put, in place of another or not
pub node_at_put_any : (n : Node) (id : ℕ) (xs : Nodes) (b : ℕ) → node_at (put id n xs) b ≡ cond (b == id) (Some n) (node_at xs b)
node_at_put_any n id [] b = node_at_step b (id, n) [] ∙ ap (λ t. cond t (Some n) None) (turned_eq id b)
node_at_put_any n id (x ∷ xs) b = by (node_at_put_any n id xs b) (nat_lt id x.0) (x.0 == id) (x.0 == b) (b == id) refl refl refl
  where
    by : node_at (put id n xs) b ≡ cond (b == id) (Some n) (node_at xs b) → (l t s r : Bool) → (x.0 == id) ≡ t → (x.0 == b) ≡ s → (b == id) ≡ r
        → node_at (cond l ((id, n) ∷ x ∷ xs) (cond t ((id, n) ∷ xs) (x ∷ put id n xs))) b ≡ cond r (Some n) (node_at (x ∷ xs) b)
    by rest true t s r et es er = node_at_step b (id, n) (x ∷ xs) ∙ ap (λ u. cond u (Some n) (node_at (x ∷ xs) b)) (turned_eq id b ∙ er)
    by rest false true s true et es er = node_at_step b (id, n) xs ∙ ap (λ u. cond u (Some n) (node_at xs b)) (turned_eq id b ∙ er)
    by rest false true true false et es er = absurd (apart_true x.0 b id et es er)
    by rest false true false false et es er =
        node_at_step b (id, n) xs ∙ ap (λ u. cond u (Some n) (node_at xs b)) (turned_eq id b ∙ er)
        ∙ sym (node_at_step b x xs ∙ ap (λ u. cond u (Some x.1) (node_at xs b)) es)
    by rest false false true true et es er = absurd (apart_other x.0 b id et es er)
    by rest false false true false et es er = rw (node_at_step b x (put id n xs), node_at_step b x xs, es) refl
    by rest false false false true et es er = rw (node_at_step b x (put id n xs), es) (rest ∙ ap (λ t. cond t (Some n) (node_at xs b)) er)
    by rest false false false false et es er = rw (node_at_step b x (put id n xs), node_at_step b x xs, es) (rest ∙ ap (λ t. cond t (Some n) (node_at xs b)) er)

-- Lists in rising order with the same nodes are equal

head_found : (x : ℕ × Node) (xs : Nodes) → node_at (x ∷ xs) x.0 ≡ Some x.1
head_found x xs = rw (node_at_step x.0 x xs, eq-eqb x.0 x.0 refl) refl

not_found_before : (x y : ℕ × Node) (ys : Nodes) → IsRising (map (λ e. e.0) (y ∷ ys)) → x.0 < y.0 → node_at (y ∷ ys) x.0 ≡ None
not_found_before x y ys rising l = none_above x.0 (y ∷ ys) (l, later x.0 y.0 (map (λ e. e.0) ys) l rising.0)
  where
    later : (a b : ℕ) (is : List ℕ) → a < b → AllByRecursion (λ i. b < i) is → AllByRecursion (λ i. a < i) is
    later a b [] l h = tt
    later a b (i ∷ is) l h = (let k : b < i = h.0 in omega arith, later a b is l h.1)

pub nodes_same : (xs ys : Nodes) → IsRising (map (λ e. e.0) xs) → IsRising (map (λ e. e.0) ys) → ((b : ℕ) → node_at xs b ≡ node_at ys b) → xs ≡ ys
nodes_same [] [] rx ry same = refl
nodes_same [] (y ∷ ys) rx ry same = absurd (let e : None ≡ Some y.1 = same y.0 ∙ head_found y ys in cc)
nodes_same (x ∷ xs) [] rx ry same = absurd (let e : Some x.1 ≡ None = sym (head_found x xs) ∙ same x.0 in cc)
nodes_same (x ∷ xs) (y ∷ ys) rx ry same = by (nat_lt x.0 y.0) (nat_lt y.0 x.0) refl refl (nodes_same xs ys rx.1 ry.1)
  where
    below : (a b : ℕ) → nat_lt a b ≡ true → a < b
    below a b h = grind (arith, nat_tests)

    equal : (a b : ℕ) → nat_lt a b ≡ false → nat_lt b a ≡ false → a ≡ b
    equal a b h k = grind (arith, nat_tests)

    tails : x.0 ≡ y.0 → (b : ℕ) → node_at xs b ≡ node_at ys b
    tails e b = at (x.0 == b) (y.0 == b) refl refl
      where
        at : (s t : Bool) → (x.0 == b) ≡ s → (y.0 == b) ≡ t → node_at xs b ≡ node_at ys b
        at true t es et =
            let is : x.0 ≡ b = eqb-true x.0 b es in
            subst (λ (m : ℕ). node_at xs m ≡ None) is (none_above x.0 xs rx.0) ∙ sym (subst (λ (m : ℕ). node_at ys m ≡ None) (sym e ∙ is) (none_above y.0 ys ry.0))
        at false true es et = absurd (let k : (x.0 == b) ≡ true = ap (λ m. m == b) e ∙ et in let l : true ≡ false = sym k ∙ es in cc)
        at false false es et =
            sym (node_at_step b x xs ∙ ap (λ u. cond u (Some x.1) (node_at xs b)) es) ∙ same b ∙ node_at_step b y ys ∙ ap (λ u. cond u (Some y.1) (node_at ys b)) et

    heads : x.0 ≡ y.0 → x.1 ≡ y.1
    heads e = let h : Some x.1 ≡ Some y.1 = sym (head_found x xs) ∙ same x.0 ∙ ap (node_at (y ∷ ys)) e ∙ head_found y ys in cc

    by : (s t : Bool) → nat_lt x.0 y.0 ≡ s → nat_lt y.0 x.0 ≡ t → (((b : ℕ) → node_at xs b ≡ node_at ys b) → xs ≡ ys) → x ∷ xs ≡ y ∷ ys
    by true t es et rest = absurd (let e : Some x.1 ≡ None = sym (head_found x xs) ∙ same x.0 ∙ not_found_before x y ys ry (below x.0 y.0 es) in cc)
    by false true es et rest = absurd (let e : None ≡ Some y.1 = sym (not_found_before y x xs rx (below y.0 x.0 et)) ∙ same y.0 ∙ head_found y ys in cc)
    by false false es et rest = let e : x.0 ≡ y.0 = equal x.0 y.0 es et in λ i. (e i, heads e i) ∷ rest (tails e) i

-- The order of the ids stays

kept : (g : SceneGraph) (f : Node → Node) (id : ℕ) → IsRising (map (λ x. x.0) g.nodes) → IsRising (map (λ x. x.0) (change id f g.nodes))
kept g f id rising = subst (λ (is : List ℕ). IsRising is) (sym (ids_change f id g.nodes)) rising

pub effect_rising : (g : SceneGraph) (e : Edit) → IsRising (map (λ x. x.0) g.nodes) → IsRising (map (λ x. x.0) (effect g e).nodes)
effect_rising g (edit.Make id kind) rising = put_rising id (record { serial = g.next_serial; born = g.time; kind = kind; children = [] }) g.nodes rising
effect_rising g (edit.Delete id) rising = without_rising id g.nodes rising
effect_rising g e rising = kept g (node_after g.time e) (named_by e) rising

-- Other nodes stay

stays : (g : SceneGraph) (f : Node → Node) (id b : ℕ) → (b == id) ≡ false → node_at (change id f g.nodes) b ≡ node_at g.nodes b
stays g f id b other = node_at_change f id g.nodes b ∙ ap (λ t. cond t (option_map f (node_at g.nodes b)) (node_at g.nodes b)) other

pub only_named : (g : SceneGraph) (e : Edit) (b : ℕ) → IsRising (map (λ x. x.0) g.nodes) → (b == named_by e) ≡ false → node_at (effect g e).nodes b ≡ node_at g.nodes b
only_named g (edit.Make id kind) b rising other =
    node_at_put_any (record { serial = g.next_serial; born = g.time; kind = kind; children = [] }) id g.nodes b
    ∙ ap (λ t. cond t (Some (record { serial = g.next_serial; born = g.time; kind = kind; children = [] })) (node_at g.nodes b)) other
only_named g (edit.Delete id) b rising other = node_at_without id g.nodes b rising ∙ ap (λ t. cond t None (node_at g.nodes b)) other
only_named g e b rising other = stays g (node_after g.time e) (named_by e) b other

-- Update lists

pub updated_rising : (xs : Nodes) (u : ℕ × Option Node) → IsRising (map (λ e. e.0) xs) → IsRising (map (λ e. e.0) (updated xs u))
updated_rising xs (id, None) rising = without_rising id xs rising
updated_rising xs (id, Some n) rising = put_rising id n xs rising

-- an update sets or clears its id
pub node_at_updated : (xs : Nodes) (u : ℕ × Option Node) (b : ℕ) → IsRising (map (λ e. e.0) xs) → node_at (updated xs u) b ≡ cond (b == u.0) u.1 (node_at xs b)
node_at_updated xs (id, None) b rising = node_at_without id xs b rising
node_at_updated xs (id, Some n) b rising = node_at_put_any n id xs b

pub updated_by_rising : (xs : Nodes) (us : UpdateList) → IsRising (map (λ e. e.0) xs) → IsRising (map (λ e. e.0) (updated_by xs us))
updated_by_rising xs [] rising = rising
updated_by_rising xs (u ∷ us) rising = updated_by_rising (updated xs u) us (updated_rising xs u rising)
