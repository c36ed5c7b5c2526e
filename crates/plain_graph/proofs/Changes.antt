-- Changes of one node at its place in the list.
use Rattle.std.proofs.Common.{◌≡◌, ℕ, zero, suc, ◌<◌, true, false, cond, List, [], ◌∷◌, map, length, get_or, Option, Some, None, refl, sym, ◌∙◌, ap, arith, slice_index_or, slice_set, ◌++◌, is_some}
use Rattle.std.specs.List.{position, insert, remove}
use Rattle.std.proofs.lemmas.List.Quantifiers.{position-Some}
use Rattle.pf_model.specs.declared.nodes.Kind.{Kind}
use Rattle.pf_model.specs.declared.nodes.Node.{Node}
use Rattle.pf_model.specs.Graphs.{Nodes, node_at, has_id, change, children_of, without}
use Rattle.pf_model.specs.NodeEdits.{with_children, with_kind}
use Rattle.pf_model.proofs.Places.{any_entry, absent_head}
use Rattle.pf_model.proofs.Changes.{change_children}
use Rattle.plain_graph.specs.Places.{change_at}

-- a write of the children of the entry at a place
pub set_children : (xs : Nodes) (p : ℕ) (e : ℕ × Node) (cs : List ℕ) → p < length xs → slice_set xs p ((slice_index_or xs p e).0, with_children cs (slice_index_or xs p e).1) ≡ change_at p (with_children cs) xs
set_children [] p e cs l = absurd (omega arith)
set_children (x ∷ xs) zero e cs l = refl
set_children (x ∷ xs) (suc p) e cs l = ap (λ ys. x ∷ ys) (set_children xs p e cs (omega arith))

-- the older children put back
pub children_back : (xs : Nodes) (p : ℕ) (e : ℕ × Node) (cs : List ℕ) → change_at p (with_children (slice_index_or xs p e).1.children) (change_at p (with_children cs) xs) ≡ xs
children_back [] p e cs = refl
children_back (x ∷ xs) zero e cs = refl
children_back (x ∷ xs) (suc p) e cs = ap (λ ys. x ∷ ys) (children_back xs p e cs)

-- a write of the kind of the entry at a place
pub set_kind : (xs : Nodes) (p : ℕ) (e : ℕ × Node) (k : Kind) → p < length xs → slice_set xs p ((slice_index_or xs p e).0, with_kind k (slice_index_or xs p e).1) ≡ change_at p (with_kind k) xs
set_kind [] p e k l = absurd (omega arith)
set_kind (x ∷ xs) zero e k l = refl
set_kind (x ∷ xs) (suc p) e k l = ap (λ ys. x ∷ ys) (set_kind xs p e k (omega arith))

-- Places and ids

pub change_here : (f : Node → Node) (id : ℕ) (xs : Nodes) (p : ℕ) → position (has_id id) xs ≡ Some p → change_at p f xs ≡ change id f xs
change_here f id xs p at =
    let s = position-Some (has_id id) xs p any_entry at in
    by xs p s.0 s.1 s.2
  where
    by : (xs : Nodes) (p : ℕ) → p < length xs → has_id id (get_or xs p any_entry) ≡ true → ((k : ℕ) → k < p → has_id id (get_or xs k any_entry) ≡ false) → change_at p f xs ≡ change id f xs
    by [] p l here before = absurd (omega arith)
    by (x ∷ xs) zero l here before = sym (ap (λ t. cond t ((x.0, f x.1) ∷ xs) (x ∷ change id f xs)) here)
    by (x ∷ xs) (suc p) l here before =
        ap (λ ys. x ∷ ys) (by xs p (omega arith) here (λ k k_lt. before (suc k) (omega arith)))
        ∙ sym (ap (λ t. cond t ((x.0, f x.1) ∷ xs) (x ∷ change id f xs)) (before 0 (omega arith)))

-- ids stay
pub ids_change_at : (f : Node → Node) (p : ℕ) (xs : Nodes) → map (λ e. e.0) (change_at p f xs) ≡ map (λ e. e.0) xs
ids_change_at f p [] = refl
ids_change_at f zero (x ∷ xs) = refl
ids_change_at f (suc p) (x ∷ xs) = ap (λ ys. x.0 ∷ ys) (ids_change_at f p xs)

-- The children of a parent that is there

appended : (cs : List ℕ) (c : ℕ) → insert cs (length cs) c ≡ cs ++ c ∷ []
appended [] c = refl
appended (x ∷ xs) c = ap (λ ys. x ∷ ys) (appended xs c)

pub add_change : (parent child : ℕ) (xs : Nodes) → is_some (node_at xs parent) ≡ true
    → change parent (with_children (insert (children_of (node_at xs) parent) (length (children_of (node_at xs) parent)) child)) xs
    ≡ change parent (λ n. with_children (n.children ++ child ∷ []) n) xs
add_change parent child xs there =
    ap (λ cs. change parent (with_children cs) xs) (appended (children_of (node_at xs) parent) child)
    ∙ change_children (λ cs. cs ++ child ∷ []) parent xs there

-- The node of an id taken out

pub without_here : (id : ℕ) (xs : Nodes) (p : ℕ) → position (has_id id) xs ≡ Some p → remove xs p ≡ without id xs
without_here id xs p at =
    let s = position-Some (has_id id) xs p any_entry at in
    by xs p s.0 s.1 s.2
  where
    by : (xs : Nodes) (p : ℕ) → p < length xs → has_id id (get_or xs p any_entry) ≡ true → ((k : ℕ) → k < p → has_id id (get_or xs k any_entry) ≡ false) → remove xs p ≡ without id xs
    by [] p l here before = absurd (omega arith)
    by (x ∷ xs) zero l here before = sym (ap (λ t. cond t xs (x ∷ without id xs)) here)
    by (x ∷ xs) (suc p) l here before =
        ap (λ ys. x ∷ ys) (by xs p (omega arith) here (λ k k_lt. before (suc k) (omega arith)))
        ∙ sym (ap (λ t. cond t xs (x ∷ without id xs)) (before 0 (omega arith)))

pub without_none : (id : ℕ) (xs : Nodes) → node_at xs id ≡ None → without id xs ≡ xs
without_none id [] none = refl
without_none id (x ∷ xs) none = let a = absent_head id x xs none in ap (λ t. cond t xs (x ∷ without id xs)) a.0 ∙ ap (λ ys. x ∷ ys) (without_none id xs a.1)
