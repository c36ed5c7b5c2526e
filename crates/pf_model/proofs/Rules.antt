-- The first fault of a list of rules.
use Rattle.std.proofs.Common.{◌≡◌, ℕ, ◌<◌, Bool, true, false, nat_le, List, [], ◌∷◌, ◌++◌, Option, Some, None, is_some, is_none, refl, sym, arith}
use Rattle.std.specs.List.{AllByRecursion}
use Rattle.std.proofs.lemmas.Bool.Decides.{nat_tests}
use Rattle.pf_model.specs.declared.nodes.Node.{Node}
use Rattle.pf_model.specs.declared.edits.Edit.{Edit}
use Rattle.pf_model.specs.declared.edits.Edit.TheVariants as edit
use Rattle.pf_model.specs.declared.edits.Fault.{Fault}
use Rattle.pf_model.specs.declared.edits.Fault.TheVariants as fault
use Rattle.pf_model.specs.Graphs.{SceneGraph, Nodes, node_at, change}
use Rattle.pf_model.specs.Copies.{named_by}
use Rattle.pf_model.specs.NodeEdits.{is_attribute, node_after}
use Rattle.pf_model.specs.Edits.{first, when, missing, absent, attribute_rules, fault_of, with_nodes, effect}

-- rules that are not met are passed over
pub first_passes : (xs ys : List (Option Fault)) → None ≡ first xs → first (xs ++ ys) ≡ first ys
first_passes [] ys none = refl
first_passes (None ∷ xs) ys none = first_passes xs ys none
first_passes (Some f ∷ xs) ys none = absurd (cc)

-- the first rule that is met stays the first
pub first_stops : (xs ys : List (Option Fault)) (f : Fault) → Some f ≡ first xs → first (xs ++ ys) ≡ Some f
first_stops [] ys f some = absurd (cc)
first_stops (None ∷ xs) ys f some = first_stops xs ys f some
first_stops (Some g ∷ xs) ys f some = sym some

-- rules that are passed are each not met
pub all_passed : (fs : List (Option Fault)) → None ≡ first fs → AllByRecursion (λ f. None ≡ f) fs
all_passed [] none = tt
all_passed (None ∷ fs) none = (refl, all_passed fs none)
all_passed (Some f ∷ fs) none = absurd (cc)

pub when_not : (t : Bool) (f : Fault) → None ≡ when t f → t ≡ false
when_not true f none = absurd (cc)
when_not false f none = refl

-- an id that is not missing has a node
pub is_found : (id : ℕ) (found : Option Node) → None ≡ missing id found → is_some found ≡ true
is_found id None none = absurd (cc)
is_found id (Some n) none = refl

pub there_from : (g : Nodes) (id : ℕ) → None ≡ absent g id → is_some (node_at g id) ≡ true
there_from g id none = is_found id (node_at g id) none

-- Edits of a kind alone

pub attribute_fault_is : (g : SceneGraph) (e : Edit) → is_attribute e ≡ true → fault_of g e ≡ first (attribute_rules e (node_at g.nodes (named_by e)))
attribute_fault_is g (edit.Make id kind) is = absurd (cc)
attribute_fault_is g (edit.Add parent child) is = absurd (cc)
attribute_fault_is g (edit.Insert parent place child) is = absurd (cc)
attribute_fault_is g (edit.Replace parent child by) is = absurd (cc)
attribute_fault_is g (edit.Remove parent child) is = absurd (cc)
attribute_fault_is g (edit.Delete id) is = absurd (cc)
attribute_fault_is g e is = refl

pub attribute_effect : (g : SceneGraph) (e : Edit) → is_attribute e ≡ true → effect g e ≡ with_nodes (change (named_by e) (node_after g.time e)) g
attribute_effect g (edit.Make id kind) is = absurd (cc)
attribute_effect g (edit.Delete id) is = absurd (cc)
attribute_effect g e is = refl

-- such an edit that passes has its node
pub attribute_there : (e : Edit) (found : Option Node) → is_attribute e ≡ true → None ≡ first (attribute_rules e found) → is_some found ≡ true
attribute_there (edit.Make id kind) found is none = absurd (cc)
attribute_there (edit.Add parent child) found is none = absurd (cc)
attribute_there (edit.Insert parent place child) found is none = absurd (cc)
attribute_there (edit.Replace parent child by) found is none = absurd (cc)
attribute_there (edit.Remove parent child) found is none = absurd (cc)
attribute_there (edit.Delete id) found is none = absurd (cc)
attribute_there e found is none = is_found (named_by e) found (all_passed (attribute_rules e found) none).0
