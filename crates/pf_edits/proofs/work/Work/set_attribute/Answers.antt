use Rattle.std.proofs.Common.{◌≡◌, Option, true, is_some, sym, ◌∙◌, ap}
use Rattle.pf_model.specs.declared.nodes.Node.{Node}
use Rattle.pf_model.specs.Graphs.{node_at, change}
use Rattle.pf_model.specs.Limits.{is_there}
use Rattle.pf_model.specs.Copies.{named_by}
use Rattle.pf_model.specs.NodeEdits.{with_kind}
use Rattle.pf_model.proofs.Rules.{attribute_effect, attribute_there, attribute_fault_is}
use Rattle.pf_model.proofs.Changes.{change_kind}
use Rattle.pf_edits.specs.Listed.{nodes_of}
use Rattle.pf_edits.specs.Working.{told}
use Rattle.pf_edits.proofs.Listed.{found, changed_nodes}
use Rattle.pf_edits.proofs.Works.{told_nodes, within_after, there_after, none_gone, changed_stays}
use Rattle.pf_edits.proofs.Undoes.{back_kind}
use Rattle.pf_edits.specs.Extents.{look_of}
use Rattle.pf_edits.specs.Ways.{is_in}
use Rattle.pf_edits.specs.Settling.{asked_link}
use Rattle.pf_edits.proofs.Tights.{same_grows}
use Rattle.pf_edits.proofs.work.Work.set_attribute.Goals as goal

pub swap_kind-older-requires-clause-there : goal.swap_kind-older-requires-clause-there
swap_kind-older-requires-clause-there c =
    let there : is_there (node_at (nodes_of c.args.self.now.records.slots)) (named_by c.args.edit.now) ≡ true =
    attribute_there c.args.edit.now (node_at (nodes_of c.args.self.now.records.slots) (named_by c.args.edit.now)) c.requires.attribute (c.requires.none ∙ attribute_fault_is (told c.args.self.now) c.args.edit.now c.requires.attribute) in
    ap (λ (o : Option Node). is_some o) (sym (found c.args.self.now.records.slots c.named-id.result) ∙ ap (node_at (nodes_of c.args.self.now.records.slots)) c.named-id.ensures) ∙ there

pub returns-clause-after : goal.returns-clause-after
returns-clause-after c =
    let w = c.args.self.now in
    let e = c.args.edit.now in
    told_nodes w.time w.next_serial w.gone.items _ _
    (changed_nodes w.records.slots c.swap_kind-older.new.records.slots c.named-id.result (with_kind c.in_ok-kind.kind) c.swap_kind-older.ensures.nodes
    ∙ ap (λ i. change i (with_kind c.in_ok-kind.kind) (nodes_of w.records.slots)) c.named-id.ensures
    ∙ change_kind w.time e c.in_ok-kind.kind (nodes_of w.records.slots) c.requires.attribute c.in_ok-kind.ensures)
    ∙ sym (attribute_effect (told w) e c.requires.attribute)

pub returns-clause-working : goal.returns-clause-working
returns-clause-working c =
    let w = c.args.self.now in
    let e = c.args.edit.now in
    record {
      sound = c.swap_kind-older.ensures.sound;
      free = c.requires.working.free;
      within = within_after (told w) _ e c.requires.working.within c.requires.fits c.requires.none
          (told_nodes w.time w.next_serial w.gone.items _ _
          (changed_nodes w.records.slots c.swap_kind-older.new.records.slots c.named-id.result (with_kind c.in_ok-kind.kind) c.swap_kind-older.ensures.nodes
          ∙ ap (λ i. change i (with_kind c.in_ok-kind.kind) (nodes_of w.records.slots)) c.named-id.ensures
          ∙ change_kind w.time e c.in_ok-kind.kind (nodes_of w.records.slots) c.requires.attribute c.in_ok-kind.ensures)
          ∙ sym (attribute_effect (told w) e c.requires.attribute));
    }

pub returns-clause-undo : goal.returns-clause-undo
returns-clause-undo c =
    let w = c.args.self.now in
    let at : is_there (node_at (nodes_of c.args.self.now.records.slots)) (named_by c.args.edit.now) ≡ true =
    attribute_there c.args.edit.now (node_at (nodes_of c.args.self.now.records.slots) (named_by c.args.edit.now)) c.requires.attribute (c.requires.none ∙ attribute_fault_is (told c.args.self.now) c.args.edit.now c.requires.attribute) in
    let there : is_some (look_of c.args.self.now.records.slots c.named-id.result) ≡ true =
    ap (λ (o : Option Node). is_some o) (sym (found c.args.self.now.records.slots c.named-id.result) ∙ ap (node_at (nodes_of c.args.self.now.records.slots)) c.named-id.ensures) ∙ at in
    record {
      can = there_after w.records.slots c.swap_kind-older.new.records.slots c.named-id.result (with_kind c.in_ok-kind.kind) c.swap_kind-older.ensures.nodes there;
      before = told_nodes w.time w.next_serial w.gone.items _ _
          (back_kind w.records.slots c.swap_kind-older.new.records.slots c.named-id.result c.in_ok-kind.kind c.swap_kind-older.result c.swap_kind-older.ensures.back c.swap_kind-older.ensures.nodes);
      parents = λ b p h. ap (is_in p) (c.swap_kind-older.ensures.parents b) ∙ h;
      back = λ y x h. absurd (cc);
      freed = none_gone w.records.slots c.swap_kind-older.new.records.slots
          (changed_stays w.records.slots c.swap_kind-older.new.records.slots c.named-id.result (with_kind c.in_ok-kind.kind) c.swap_kind-older.ensures.nodes);
    }

pub new_kind-requires-clause-there : goal.new_kind-requires-clause-there
new_kind-requires-clause-there c =
    attribute_there c.args.edit.now (node_at (nodes_of c.args.self.now.records.slots) (named_by c.args.edit.now)) c.requires.attribute (c.requires.none ∙ attribute_fault_is (told c.args.self.now) c.args.edit.now c.requires.attribute)

pub returns-clause-grown : goal.returns-clause-grown
returns-clause-grown c = same_grows (asked_link c.args.edit.now) c.args.self.now.records.slots c.swap_kind-older.new.records.slots c.swap_kind-older.ensures.parents
