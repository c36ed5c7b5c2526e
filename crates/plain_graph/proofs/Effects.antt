-- Edits that change the kind of one node: the graph after them.
use Rattle.std.proofs.Common.{◌≡◌, true, cond, Option, None, is_some, Result, Ok, Err, OnOk, IfErr, sym, subst, ◌∙◌, ap}
use Rattle.pf_model.specs.declared.edits.Edit.{Edit}
use Rattle.pf_model.specs.declared.edits.EditError.{EditError}
use Rattle.pf_model.specs.declared.edits.Fault.{Fault}
use Rattle.pf_model.specs.Graphs.{Nodes, SceneGraph, node_at, change}
use Rattle.pf_model.specs.Copies.{named_by}
use Rattle.pf_model.specs.NodeEdits.{is_attribute, node_after}
use Rattle.pf_model.specs.Edits.{first, attribute_rules, fault_of, effect, after, with_nodes, Refuses}
use Rattle.pf_model.proofs.Rules.{attribute_fault_is, attribute_effect}

pub attribute_done : {T E : Type 0} (r : Result T E) (g : SceneGraph) (e : Edit) → is_attribute e ≡ true
    → OnOk r (first (attribute_rules e (node_at g.nodes (named_by e))) ≡ None) → OnOk r (fault_of g e ≡ None)
attribute_done (Err x) g e is done = tt
attribute_done (Ok x) g e is done = attribute_fault_is g e is ∙ done

pub attribute_refused : {T : Type 0} (r : Result T EditError) (g : SceneGraph) (e : Edit) → is_attribute e ≡ true
    → IfErr r (λ x. Refuses x (first (attribute_rules e (node_at g.nodes (named_by e))))) → IfErr r (λ x. Refuses x (fault_of g e))
attribute_refused r g e is fault = subst (λ (f : Option Fault). IfErr r (λ x. Refuses x f)) (sym (attribute_fault_is g e is)) fault

-- the graph after such an edit that has no fault
pub attribute_after : {T E : Type 0} (r : Result T E) (g : SceneGraph) (e : Edit) (n : Nodes) → is_attribute e ≡ true
    → OnOk r (fault_of g e ≡ None) → OnOk r (n ≡ change (named_by e) (node_after g.time e) g.nodes)
    → OnOk r (record g { nodes = n } ≡ after g e)
attribute_after (Err x) g e n is done nodes = tt
attribute_after (Ok x) g e n is done nodes =
    ap (λ (m : Nodes). with_nodes (λ _. m) g) nodes
    ∙ sym (attribute_effect g e is)
    ∙ sym (ap (λ (f : Option Fault). cond (is_some f) g (effect g e)) done)
