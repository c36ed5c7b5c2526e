-- From a change of a node's children to the clauses of an edit of its links.
use Rattle.std.proofs.Common.{◌<◌, ◌≤◌, false, nat_le, nat_lt, arith, Some, ◌≡◌, ℕ, true, ◌||◌, ◌==◌, ◌⊎◌, inl, inr, List, [], ◌∷◌, ◌++◌, length, Option, None, Result, OnOk, refl, sym, ◌∙◌, ap, subst}
use Rattle.std.specs.List.{insert}
use Rattle.pf_model.specs.declared.edits.Fault.{Fault}
use Rattle.pf_model.specs.declared.edits.Edit.{Edit}
use Rattle.pf_model.specs.declared.edits.Edit.TheVariants as edit
use Rattle.pf_model.specs.Children.{replace_first, drop_first}
use Rattle.pf_model.specs.Graphs.{Nodes, SceneGraph, node_at, children_of, change}
use Rattle.pf_model.specs.Limits.{IsGraphWithinLimits}
use Rattle.pf_model.specs.NodeEdits.{with_children}
use Rattle.pf_model.specs.Edits.{first, when, size_rules, add_rules, insert_rules, replace_rules, remove_rules, with_nodes, fault_of, effect}
use Rattle.pf_model.specs.Fits.{fits}
use Rattle.pf_model.proofs.EditLimits.{limits_effect}
use Rattle.pf_model.proofs.Rules.{first_passes, all_passed, there_from, when_not}
use Rattle.std.proofs.lemmas.Bool.Decides.{nat_tests}
use Rattle.pf_model.proofs.Changes.{change_children}
use Rattle.pf_model.proofs.Members.{holds_inserted, holds_replaced, holds_dropped}
use Rattle.std.proofs.lemmas.Bool.{eq-eqb}
use Rattle.pf_edits.specs.Ways.{is_in}
use Rattle.pf_edits.proofs.Ups.{ahead, behind}

-- What an edit makes of a graph, where the children made are those of the edit

appended : (cs : List ℕ) (c : ℕ) → insert cs (length cs) c ≡ cs ++ c ∷ []
appended [] c = refl
appended (x ∷ xs) c = ap (λ ys. x ∷ ys) (appended xs c)

graph_with : SceneGraph → Nodes → SceneGraph
graph_with g nodes = record g { nodes = nodes }

pub add_is : (g : SceneGraph) (p c : ℕ) (cs : List ℕ) → None ≡ first (add_rules g.nodes p c) → cs ≡ insert (children_of (node_at g.nodes) p) (length (children_of (node_at g.nodes) p)) c
    → with_nodes (change p (with_children cs)) g ≡ effect g (edit.Add p c)
unfolding graph_with
add_is g p c cs none is =
    ap (λ xs. with_nodes (change p (with_children xs)) g) (is ∙ appended (children_of (node_at g.nodes) p) c)
    ∙ ap (graph_with g) (change_children (λ xs. xs ++ c ∷ []) p g.nodes (there_from g.nodes p (all_passed (add_rules g.nodes p c) none).0))

pub insert_is : (g : SceneGraph) (p i c : ℕ) (cs : List ℕ) → None ≡ first (insert_rules g.nodes p i c) → cs ≡ insert (children_of (node_at g.nodes) p) i c
    → with_nodes (change p (with_children cs)) g ≡ effect g (edit.Insert p i c)
unfolding graph_with
insert_is g p i c cs none is =
    ap (λ xs. with_nodes (change p (with_children xs)) g) is
    ∙ ap (graph_with g) (change_children (λ xs. insert xs i c) p g.nodes (there_from g.nodes p (all_passed (insert_rules g.nodes p i c) none).0))

pub replace_is : (g : SceneGraph) (p c b : ℕ) (cs : List ℕ) → None ≡ first (replace_rules g.nodes p c b) → cs ≡ replace_first c b (children_of (node_at g.nodes) p)
    → with_nodes (change p (with_children cs)) g ≡ effect g (edit.Replace p c b)
unfolding graph_with
replace_is g p c b cs none is =
    ap (λ xs. with_nodes (change p (with_children xs)) g) is
    ∙ ap (graph_with g) (change_children (replace_first c b) p g.nodes (there_from g.nodes p (all_passed (replace_rules g.nodes p c b) none).0))

pub remove_is : (g : SceneGraph) (p c : ℕ) (cs : List ℕ) → None ≡ first (remove_rules g.nodes p c) → cs ≡ drop_first c (children_of (node_at g.nodes) p)
    → with_nodes (change p (with_children cs)) g ≡ effect g (edit.Remove p c)
unfolding graph_with
remove_is g p c cs none is =
    ap (λ xs. with_nodes (change p (with_children xs)) g) is
    ∙ ap (graph_with g) (change_children (drop_first c) p g.nodes (there_from g.nodes p (all_passed (remove_rules g.nodes p c) none).0))

-- The rules of an edit of links, where it has no fault

passed_front : (xs ys : List (Option Fault)) → None ≡ first (xs ++ ys) → None ≡ first xs
passed_front [] ys h = refl
passed_front (None ∷ xs) ys h = passed_front xs ys h
passed_front (Some f ∷ xs) ys h = absurd (cc)

pub add_passed : (g : SceneGraph) (p c : ℕ) → None ≡ fault_of g (edit.Add p c) → None ≡ first (add_rules g.nodes p c)
add_passed g p c none = passed_front (add_rules g.nodes p c) (size_rules (effect g (edit.Add p c)).nodes) none

pub insert_passed : (g : SceneGraph) (p i c : ℕ) → None ≡ fault_of g (edit.Insert p i c) → None ≡ first (insert_rules g.nodes p i c)
insert_passed g p i c none = passed_front (insert_rules g.nodes p i c) (size_rules (effect g (edit.Insert p i c)).nodes) none

pub replace_passed : (g : SceneGraph) (p c b : ℕ) → None ≡ fault_of g (edit.Replace p c b) → None ≡ first (replace_rules g.nodes p c b)
replace_passed g p c b none = passed_front (replace_rules g.nodes p c b) (size_rules (effect g (edit.Replace p c b)).nodes) none

-- What such an edit can still fail on are the sizes of the graph after it

pub fault_is : (g : SceneGraph) (e : Edit) (rules : List (Option Fault)) (p : ℕ) (cs : List ℕ) → with_nodes (change p (with_children cs)) g ≡ effect g e → None ≡ first rules
    → fault_of g e ≡ first (rules ++ size_rules (effect g e).nodes) → fault_of g e ≡ first (size_rules (change p (with_children cs) g.nodes))
fault_is g e rules p cs is none shape = shape ∙ first_passes rules (size_rules (effect g e).nodes) none ∙ ap (λ (h : SceneGraph). first (size_rules h.nodes)) (sym is)

pub ends_within : (g : SceneGraph) (e : Edit) (p : ℕ) (cs : List ℕ) → with_nodes (change p (with_children cs)) g ≡ effect g e → IsGraphWithinLimits g → fits e ≡ true → None ≡ fault_of g e
    → IsGraphWithinLimits (with_nodes (change p (with_children cs)) g)
ends_within g e p cs is within fit none = subst IsGraphWithinLimits (sym is) (limits_effect g e within fit none)

pub ends_after : {T E : Type 0} (r : Result T E) (n g h : SceneGraph) → g ≡ h → OnOk r (n ≡ g) → OnOk r (n ≡ h)
ends_after r n g h same after = subst (λ (x : SceneGraph). OnOk r (n ≡ x)) same after

-- a parent that is not full
pub not_full : (n : ℕ) (f : Fault) → None ≡ when (nat_le 256 n) f → n < 256
not_full n f none = by n (when_not (nat_le 256 n) f none)
  where
    by : (n : ℕ) → nat_le 256 n ≡ false → n < 256
    by n h = grind (arith, nat_tests)

-- a place that is not too far
pub not_far : (n i : ℕ) (f : Fault) → None ≡ when (nat_lt n i) f → i ≤ n
not_far n i f none = by n i (when_not (nat_lt n i) f none)
  where
    by : (n i : ℕ) → nat_lt n i ≡ false → i ≤ n
    by n i h = grind (arith, nat_tests)

-- Members of the new children

one_of : (x c : ℕ) (cs : List ℕ) → (is_in x cs ≡ true) ⊎ (c ≡ x) → (is_in x cs || c == x) ≡ true
one_of x c cs (inl h) = ahead (is_in x cs) (c == x) h
one_of x c cs (inr e) = behind (is_in x cs) (c == x) (eq-eqb c x e)

pub inserted_members : (cs : List ℕ) (i c : ℕ) (ds : List ℕ) → ds ≡ insert cs i c → (x : ℕ) → is_in x ds ≡ true → (is_in x cs || c == x) ≡ true
inserted_members cs i c ds is x h = one_of x c cs (holds_inserted x c i cs (sym (ap (is_in x) is) ∙ h))

pub replaced_members : (cs : List ℕ) (c b : ℕ) (ds : List ℕ) → ds ≡ replace_first c b cs → (x : ℕ) → is_in x ds ≡ true → (is_in x cs || b == x) ≡ true
replaced_members cs c b ds is x h = one_of x b cs (holds_replaced x c b cs (sym (ap (is_in x) is) ∙ h))

pub dropped_members : (cs : List ℕ) (c : ℕ) (ds : List ℕ) → ds ≡ drop_first c cs → (x : ℕ) → is_in x ds ≡ true → is_in x cs ≡ true
dropped_members cs c ds is x h = holds_dropped x c cs (sym (ap (is_in x) is) ∙ h)
