-- From a change of a node's children to the clauses of an edit of its links.
use Rattle.std.proofs.Common.{◌≡◌, List, Option, None, Result, OnOk, IfErr, sym, subst}
use Rattle.pf_model.specs.declared.edits.EditError.{EditError}
use Rattle.pf_model.specs.declared.edits.Fault.{Fault}
use Rattle.pf_model.specs.Graphs.{Nodes}
use Rattle.pf_model.specs.Edits.{first, size_rules, Refuses}

pub ends_done : {T E : Type 0} (r : Result T E) (g h : Nodes) (f : Option Fault) → g ≡ h → f ≡ first (size_rules h)
    → OnOk r (first (size_rules g) ≡ None) → OnOk r (f ≡ None)
ends_done r g h f same ends done =
    subst (λ (o : Option Fault). OnOk r (o ≡ None)) (sym ends) (subst (λ (x : Nodes). OnOk r (first (size_rules x) ≡ None)) same done)

pub ends_after : {T E : Type 0} (r : Result T E) (n g h : Nodes) → g ≡ h → OnOk r (n ≡ g) → OnOk r (n ≡ h)
ends_after r n g h same after = subst (λ (x : Nodes). OnOk r (n ≡ x)) same after

pub ends_fault : {T : Type 0} (r : Result T EditError) (g h : Nodes) (f : Option Fault) → g ≡ h → f ≡ first (size_rules h)
    → IfErr r (λ e. Refuses e (first (size_rules g))) → IfErr r (λ e. Refuses e f)
ends_fault r g h f same ends fault =
    subst (λ (o : Option Fault). IfErr r (λ e. Refuses e o)) (sym ends) (subst (λ (x : Nodes). IfErr r (λ e. Refuses e (first (size_rules x)))) same fault)
