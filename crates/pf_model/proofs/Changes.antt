-- Changes of one node under its id.
use Rattle.std.proofs.Common.{◌≡◌, ℕ, ◌<◌, Bool, true, false, cond, List, [], ◌∷◌, map, Option, Some, None, is_some, refl, sym, ◌∙◌, ap, ◌==◌}
use Rattle.std.specs.Option.{option_map_or, option_map}
use Rattle.std.specs.List.{AllByRecursion}
use Rattle.pf_model.specs.declared.nodes.Kind.{Kind}
use Rattle.pf_model.specs.declared.nodes.Node.{Node}
use Rattle.pf_model.specs.declared.edits.Edit.{Edit}
use Rattle.pf_model.specs.declared.edits.Edit.TheVariants as edit
use Rattle.pf_model.specs.Graphs.{Nodes, node_at, has_id, change, children_of, without}
use Rattle.pf_model.specs.Copies.{named_by}
use Rattle.pf_model.specs.NodeEdits.{with_children, with_kind, node_after, kind_after, is_attribute}
use Rattle.pf_model.specs.Limits.{IsRising}
use Rattle.pf_model.proofs.Places.{node_at_step}

-- a change that makes the same of the node of the id
pub change_same : (f g : Node → Node) (id : ℕ) (n : Node) (xs : Nodes) → node_at xs id ≡ Some n → f n ≡ g n → change id f xs ≡ change id g xs
change_same f g id n [] found same = refl
change_same f g id n (x ∷ xs) found same = by (change_same f g id n xs) (has_id id x) refl
  where
    by : (node_at xs id ≡ Some n → f n ≡ g n → change id f xs ≡ change id g xs) → (t : Bool) → has_id id x ≡ t → cond (has_id id x) ((x.0, f x.1) ∷ xs) (x ∷ change id f xs) ≡ cond (has_id id x) ((x.0, g x.1) ∷ xs) (x ∷ change id g xs)
    by rest true e =
        let is : Some x.1 ≡ Some n = sym (node_at_step id x xs ∙ ap (λ t. cond t (Some x.1) (node_at xs id)) e) ∙ found in
        let this : x.1 ≡ n = cc in
        rw e (ap (λ m. (x.0, m) ∷ xs) (ap f this ∙ same ∙ ap g (sym this)))
    by rest false e = rw e (ap (λ ys. x ∷ ys) (rest (sym (node_at_step id x xs ∙ ap (λ t. cond t (Some x.1) (node_at xs id)) e) ∙ found) same))

-- a node given children that are made of its own
pub change_children : (f : List ℕ → List ℕ) (id : ℕ) (xs : Nodes) → is_some (node_at xs id) ≡ true
    → change id (with_children (f (children_of (node_at xs) id))) xs ≡ change id (λ n. with_children (f n.children) n) xs
change_children f id xs there = by (node_at xs id) refl there
  where
    by : (o : Option Node) → node_at xs id ≡ o → is_some o ≡ true
        → change id (with_children (f (children_of (node_at xs) id))) xs ≡ change id (λ n. with_children (f n.children) n) xs
    by None e h = absurd (cc)
    by (Some n) e h =
        change_same (with_children (f (children_of (node_at xs) id))) (λ n. with_children (f n.children) n) id n xs e
        (ap (λ o. with_children (f (option_map_or (λ (m : Node). m.children) o [])) n) e)

-- an edit of the kind alone gives the node that kind
attribute_node : (time : ℕ) (e : Edit) (n : Node) → is_attribute e ≡ true → with_kind (kind_after time e n) n ≡ node_after time e n
attribute_node time (edit.Make id kind) n is = absurd (cc)
attribute_node time (edit.Add parent child) n is = absurd (cc)
attribute_node time (edit.Insert parent place child) n is = absurd (cc)
attribute_node time (edit.Replace parent child by) n is = absurd (cc)
attribute_node time (edit.Remove parent child) n is = absurd (cc)
attribute_node time (edit.Delete id) n is = absurd (cc)
attribute_node time e n is = refl

pub change_kind : (time : ℕ) (e : Edit) (k : Kind) (xs : Nodes) → is_attribute e ≡ true
    → option_map (kind_after time e) (node_at xs (named_by e)) ≡ Some k
    → change (named_by e) (with_kind k) xs ≡ change (named_by e) (node_after time e) xs
change_kind time e k xs is made = by (node_at xs (named_by e)) refl made
  where
    by : (o : Option Node) → node_at xs (named_by e) ≡ o → option_map (kind_after time e) o ≡ Some k
        → change (named_by e) (with_kind k) xs ≡ change (named_by e) (node_after time e) xs
    by None found h = absurd (cc)
    by (Some n) found h =
        let same : kind_after time e n ≡ k = cc in
        change_same (with_kind k) (node_after time e) (named_by e) n xs found
        (ap (λ j. with_kind j n) (sym same) ∙ attribute_node time e n is)

-- The node of an id taken out

above_without : (m id : ℕ) (xs : Nodes) → AllByRecursion (λ y. m < y) (map (λ e. e.0) xs) → AllByRecursion (λ y. m < y) (map (λ e. e.0) (without id xs))
above_without m id [] h = tt
above_without m id (x ∷ xs) h = by (above_without m id xs h.1) (x.0 == id)
  where
    by : AllByRecursion (λ y. m < y) (map (λ e. e.0) (without id xs)) → (t : Bool) → AllByRecursion (λ y. m < y) (map (λ e. e.0) (cond t xs (x ∷ without id xs)))
    by rest true = h.1
    by rest false = (h.0, rest)

pub without_rising : (id : ℕ) (xs : Nodes) → IsRising (map (λ e. e.0) xs) → IsRising (map (λ e. e.0) (without id xs))
without_rising id [] rising = tt
without_rising id (x ∷ xs) rising = by (without_rising id xs rising.1) (x.0 == id)
  where
    by : IsRising (map (λ e. e.0) (without id xs)) → (t : Bool) → IsRising (map (λ e. e.0) (cond t xs (x ∷ without id xs)))
    by rest true = rising.1
    by rest false = (above_without x.0 id xs rising.0, rest)
