-- Records without nodes, and what the public calls tell.
use Rattle.std.proofs.Common.{◌≡◌, ℕ, ◌≤◌, min, true, false, cond, ◌==◌, [], Option, None, is_some, Result, Ok, Err, OnOk, sym, ◌∙◌, ap, arith}
use Rattle.std.specs.List.{list_any}
use Rattle.std.specs.Option.{option_map, option_map_or}
use Rattle.pf_model.specs.declared.nodes.Node.{Node}
use Rattle.pf_model.specs.declared.edits.Edit.{Edit}
use Rattle.pf_model.specs.declared.edits.Fault.{Fault}
use Rattle.pf_model.specs.Graphs.{Look, SceneGraph, node_at, children_of, size_of}
use Rattle.pf_model.specs.Limits.{has_child}
use Rattle.pf_model.specs.Edits.{fault_of, effect, after}
use Rattle.pf_edits.specs.declared.records.Record.{Record}
use Rattle.pf_edits.specs.declared.work.Work.{Work}
use Rattle.pf_edits.specs.Tables.{Slots, record_at}
use Rattle.pf_edits.specs.Extents.{look_of, extent_at, leaf, reckoned, IsSound}
use Rattle.pf_edits.specs.Listed.{nodes_of}
use Rattle.pf_edits.specs.Working.{IsWorking}
use Rattle.pf_edits.proofs.Ups.{sizes_are}
use Rattle.pf_edits.proofs.Listed.{nodes_are, looks}
use Rattle.pf_edits.proofs.Works.{low_of, small_of}

no_children : (slots : Slots) → ((b : ℕ) → record_at slots b ≡ None) → (b : ℕ) → children_of (look_of slots) b ≡ []
no_children slots none b = ap (λ (o : Option Record). option_map_or (λ (n : Node). n.children) (option_map (λ r. r.node) o) []) (none b)

pub empty_sound : (slots : Slots) → ((b : ℕ) → record_at slots b ≡ None) → IsSound slots
empty_sound slots none = record {
  meets = λ b. ap (λ (o : Option Record). option_map_or (λ r. r.extent) o leaf) (none b) ∙ sym (ap (reckoned (extent_at slots)) (no_children slots none b));
  noted = λ y x h. absurd (let e : has_child (look_of slots) y x ≡ false = ap (λ cs. list_any (λ c. c == x) cs) (no_children slots none y) in let f : true ≡ false = sym h ∙ e in cc);
}

pub empty_unused : (slots : Slots) → ((b : ℕ) → record_at slots b ≡ None) → (id y : ℕ) → has_child (look_of slots) y id ≡ false
empty_unused slots none id y = ap (λ cs. list_any (λ c. c == id) cs) (no_children slots none y)

pub empty_nodes : (slots : Slots) → ((b : ℕ) → record_at slots b ≡ None) → nodes_of slots ≡ []
empty_nodes slots none = nodes_are slots [] tt (λ b. ap (option_map (λ (r : Record). r.node)) (none b))

-- the size noted is that of the definition
pub size_told : (w : Work) → IsWorking w → (id : ℕ) → (extent_at w.records.slots id).size ≡ size_of (node_at (nodes_of w.records.slots)) id
size_told w k id =
    let s : (extent_at w.records.slots id).size ≡ min 131073 (size_of (look_of w.records.slots) id) = sizes_are (look_of w.records.slots) (extent_at w.records.slots) k.sound.meets (low_of w k) id in
    let l : size_of (look_of w.records.slots) id ≤ 131072 = small_of w k id in
    let e : (extent_at w.records.slots id).size ≡ size_of (look_of w.records.slots) id = omega arith in
    e ∙ ap (λ (f : Look). size_of f id) (sym (looks w.records.slots))

-- the graph after an edit without fault
pub after_is : {T E : Type 0} (r : Result T E) (g h : SceneGraph) (e : Edit) → OnOk r (fault_of g e ≡ None) → OnOk r (h ≡ effect g e) → OnOk r (h ≡ after g e)
after_is (Err x) g h e done is = tt
after_is (Ok x) g h e done is = is ∙ sym (ap (λ (f : Option Fault). cond (is_some f) g (effect g e)) done)
