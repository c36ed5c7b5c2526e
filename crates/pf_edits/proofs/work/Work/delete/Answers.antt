use Rattle.std.proofs.Common.{◌≡◌, ◌==◌, ◌++◌, ◌∷◌, [], ℕ, List, Option, Some, None, true, is_some, refl, sym, ◌∙◌, ap, subst}
use Rattle.std.specs.List.{list_any}
use Rattle.std.specs.Option.{option_map}
use Rattle.pf_model.specs.declared.nodes.Node.{Node}
use Rattle.pf_model.specs.declared.nodes.Gone.{Gone}
use Rattle.pf_model.specs.declared.edits.Edit.TheVariants as edit
use Rattle.pf_model.specs.declared.edits.Fault.TheVariants as fault
use Rattle.pf_model.specs.Graphs.{Look, Nodes, SceneGraph, node_at}
use Rattle.pf_model.specs.Limits.{has_child}
use Rattle.pf_model.specs.Edits.{first, delete_rules, remains}
use Rattle.pf_model.proofs.Rules.{all_passed, when_not, there_from}
use Rattle.pf_edits.specs.declared.records.Record.{Record}
use Rattle.pf_edits.specs.declared.work.Work.{Work}
use Rattle.pf_edits.specs.Tables.{record_at}
use Rattle.pf_edits.specs.Extents.{look_of}
use Rattle.pf_edits.specs.Listed.{nodes_of}
use Rattle.pf_edits.specs.Working.{told}
use Rattle.pf_edits.proofs.Listed.{found, looks, without_nodes}
use Rattle.pf_edits.proofs.Uses.{listed}
use Rattle.pf_edits.proofs.Ups.{no_true, not_true}
use Rattle.pf_edits.proofs.Works.{within_after, low_of, made_there, taken_noted, taken_parents, deleted_back, deleted_freed}
use Rattle.pf_edits.proofs.Undoes.{back_deleted, without_last}
use Rattle.pf_edits.proofs.Tights.{taken_grows}
use Rattle.pf_edits.proofs.work.Work.delete.Goals as goal

pub remove-requires-clause-unused : goal.remove-requires-clause-unused
remove-requires-clause-unused c =
    let w = c.args.self.now in
    let nodes : Nodes = nodes_of w.records.slots in
    let none : None ≡ first (delete_rules (nodes_of w.records.slots) c.args.id) = c.requires.none in
    λ y. no_true (has_child (look_of w.records.slots) y c.args.id) (λ h. not_true (listed nodes y c.args.id (subst (λ (f : Look). has_child f y c.args.id ≡ true) (sym (looks w.records.slots)) h))
    (when_not (list_any (λ e. list_any (λ d. d == c.args.id) e.1.children) nodes) (fault.InUse c.args.id) (all_passed (delete_rules nodes c.args.id) none).1.1.0))

pub unreachable-requires : goal.unreachable-requires
unreachable-requires c =
    let w = c.args.self.now in
    let none : None ≡ first (delete_rules (nodes_of w.records.slots) c.args.id) = c.requires.none in
    let e : is_some {T = Node} None ≡ true =
    ap (λ (o : Option Record). is_some (option_map (λ r. r.node) o)) c.in-None.ensures.record
    ∙ ap (λ (o : Option Node). is_some o) (sym (found w.records.slots c.args.id)) ∙ there_from (nodes_of w.records.slots) c.args.id (all_passed (delete_rules (nodes_of w.records.slots) c.args.id) none).0 in
    cc

gone_is : (gone old new : List Gone) (id : ℕ) (o : Option Node) (r : Gone) → new ≡ old ++ r ∷ [] → old ≡ gone → remains id o ≡ r ∷ [] → new ≡ gone ++ remains id o
gone_is gone old new id o r buried same left = buried ∙ ap (λ xs. xs ++ r ∷ []) same ∙ ap (λ xs. gone ++ xs) (sym left)

both : (w : Work) (ns ms : Nodes) (xs ys : List Gone) → ns ≡ ms → xs ≡ ys
    → (let g : SceneGraph = record { nodes = ns; time = w.time; next_serial = w.next_serial; gone = xs } in let h : SceneGraph = record { nodes = ms; time = w.time; next_serial = w.next_serial; gone = ys } in g ≡ h)
both w ns ms xs ys p q = λ i. record { nodes = p i; time = w.time; next_serial = w.next_serial; gone = q i }

pub returns-clause-after : goal.returns-clause-after
returns-clause-after c =
    let w = c.args.self.now in
    both w _ _ _ _ (without_nodes w.records.slots c.remove.new.records.slots c.args.id c.remove.ensures.nodes)
    (gone_is w.gone.items c.reserve.new.self.items c.bury.new.gone.items c.args.id (node_at (nodes_of w.records.slots) c.args.id) c.in_ok-remains.remains
    c.bury.ensures c.reserve.ensures.items c.in_ok-remains.ensures)

pub returns-clause-working : goal.returns-clause-working
returns-clause-working c =
    let w = c.args.self.now in
    let none : None ≡ first (delete_rules (nodes_of w.records.slots) c.args.id) = c.requires.none in
    record {
      sound = c.remove.ensures.sound;
      free = c.requires.working.free;
      within = within_after (told w) _ (edit.Delete c.args.id) c.requires.working.within refl none
          (both w _ _ _ _ (without_nodes w.records.slots c.remove.new.records.slots c.args.id c.remove.ensures.nodes)
          (gone_is w.gone.items c.reserve.new.self.items c.bury.new.gone.items c.args.id (node_at (nodes_of w.records.slots) c.args.id) c.in_ok-remains.remains
          c.bury.ensures c.reserve.ensures.items c.in_ok-remains.ensures));
    }

pub returns-clause-undo : goal.returns-clause-undo
returns-clause-undo c =
    let w = c.args.self.now in
    let some : record_at w.records.slots c.args.id ≡ Some c.in-Some.record = sym c.in-Some.ensures.record in
    let nodes = back_deleted w.records.slots c.remove.new.records.slots c.args.id c.in-Some.record.node (ap (option_map (λ (r : Record). r.node)) some) c.remove.ensures.nodes in
    let gone = without_last w.gone.items c.bury.new.gone.items c.in_ok-remains.remains (c.bury.ensures ∙ ap (λ xs. xs ++ c.in_ok-remains.remains ∷ []) c.reserve.ensures.items) in
    record {
      can = (
        made_there w.records.slots c.remove.new.records.slots c.args.id None c.remove.ensures.nodes,
        taken_noted w.records.slots c.remove.new.records.slots c.requires.working.sound (low_of w c.requires.working) c.args.id c.in-Some.record some c.remove.ensures.parents,
      );
      before = both w _ _ _ _ nodes gone;
      parents = taken_parents w.records.slots c.remove.new.records.slots c.args.id c.in-Some.record some c.remove.ensures.parents;
      back = deleted_back w.records.slots c.args.id c.in-Some.record some;
      freed = deleted_freed w.records.slots c.remove.new.records.slots c.args.id c.in-Some.record some c.remove.ensures.nodes;
    }

pub remains_of-requires : goal.remains_of-requires
remains_of-requires c =
    there_from (nodes_of c.args.self.now.records.slots) c.args.id (all_passed (delete_rules (nodes_of c.args.self.now.records.slots) c.args.id) c.requires.none).0

pub returns-clause-grown : goal.returns-clause-grown
returns-clause-grown c = taken_grows c.args.self.now.records.slots c.remove.new.records.slots c.args.id c.remove.ensures.nodes c.remove.ensures.parents
