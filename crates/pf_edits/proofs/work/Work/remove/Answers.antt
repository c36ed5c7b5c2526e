use Rattle.std.proofs.Common.{◌≡◌, ℕ, List, Bool, Option, None, true, false, not, is_some, refl, sym, ◌∙◌, ap, subst}
use Rattle.pf_model.specs.declared.nodes.Node.{Node}
use Rattle.pf_model.specs.declared.edits.Edit.TheVariants as edit
use Rattle.pf_model.specs.declared.edits.Fault.TheVariants as fault
use Rattle.pf_model.specs.Graphs.{Look, SceneGraph, node_at, children_of}
use Rattle.pf_model.specs.NodeEdits.{with_children}
use Rattle.pf_model.specs.Edits.{first, is_child, remove_rules}
use Rattle.pf_model.proofs.Rules.{all_passed, when_not, there_from}
use Rattle.pf_edits.specs.Ways.{is_in}
use Rattle.pf_edits.specs.Extents.{look_of, extent_at, reckoned}
use Rattle.pf_edits.specs.Listed.{nodes_of}
use Rattle.pf_edits.specs.Working.{told}
use Rattle.pf_edits.proofs.Listed.{found, looks, changed_nodes}
use Rattle.pf_edits.proofs.Relinks.{all_within, no_cycle}
use Rattle.pf_edits.proofs.Ends.{remove_is, dropped_members}
use Rattle.pf_edits.proofs.Works.{low_of, small_of, told_nodes, within_after, old_noted, there_after, none_gone, changed_stays}
use Rattle.pf_edits.proofs.Trials.{reckoned_dropped}
use Rattle.pf_edits.proofs.Undoes.{back_children}
use Rattle.pf_edits.proofs.Tights.{same_grows}
use Rattle.pf_edits.proofs.work.Work.remove.Goals as goal

pub relink_freely-older-requires-clause-low : goal.relink_freely-older-requires-clause-low
relink_freely-older-requires-clause-low c = low_of c.args.self.now c.requires.working

pub relink_freely-older-requires-clause-there : goal.relink_freely-older-requires-clause-there
relink_freely-older-requires-clause-there c =
    let none : None ≡ first (remove_rules (nodes_of c.args.self.now.records.slots) c.args.parent c.args.child) = c.requires.none in
    ap (λ (o : Option Node). is_some o) (sym (found c.args.self.now.records.slots c.args.parent))
    ∙ there_from (nodes_of c.args.self.now.records.slots) c.args.parent (all_passed (remove_rules (nodes_of c.args.self.now.records.slots) c.args.parent c.args.child) none).0

pub relink_freely-older-requires-clause-noted : goal.relink_freely-older-requires-clause-noted
relink_freely-older-requires-clause-noted c = λ x h.
    c.requires.working.sound.noted c.args.parent x
    (subst (λ (f : Look). is_in x (children_of f c.args.parent) ≡ true) (looks c.args.self.now.records.slots)
    (dropped_members (children_of (node_at (nodes_of c.args.self.now.records.slots)) c.args.parent) c.args.child c.in_ok-children.children c.in_ok-children.ensures x h))

pub relink_freely-older-requires-clause-apart : goal.relink_freely-older-requires-clause-apart
relink_freely-older-requires-clause-apart c = λ x h.
    no_cycle (look_of c.args.self.now.records.slots) (low_of c.args.self.now c.requires.working) c.args.parent x
    (subst (λ (f : Look). is_in x (children_of f c.args.parent) ≡ true) (looks c.args.self.now.records.slots)
    (dropped_members (children_of (node_at (nodes_of c.args.self.now.records.slots)) c.args.parent) c.args.child c.in_ok-children.children c.in_ok-children.ensures x h))

pub returns-clause-after : goal.returns-clause-after
returns-clause-after c =
    let w = c.args.self.now in
    let g : SceneGraph = told w in
    let none : None ≡ first (remove_rules g.nodes c.args.parent c.args.child) = c.requires.none in
    told_nodes w.time w.next_serial w.gone.items _ _ (changed_nodes w.records.slots c.relink_freely-older.new.records.slots c.args.parent (with_children c.in_ok-children.children) c.relink_freely-older.ensures.nodes)
    ∙ remove_is g c.args.parent c.args.child c.in_ok-children.children none c.in_ok-children.ensures

pub returns-clause-working : goal.returns-clause-working
returns-clause-working c =
    let w = c.args.self.now in
    let g : SceneGraph = told w in
    let none : None ≡ first (remove_rules g.nodes c.args.parent c.args.child) = c.requires.none in
    record {
      sound = c.relink_freely-older.ensures.sound;
      free = c.relink_freely-older.ensures.way;
      within = within_after g _ (edit.Remove c.args.parent c.args.child) c.requires.working.within refl none
          (told_nodes w.time w.next_serial w.gone.items _ _ (changed_nodes w.records.slots c.relink_freely-older.new.records.slots c.args.parent (with_children c.in_ok-children.children) c.relink_freely-older.ensures.nodes)
          ∙ remove_is g c.args.parent c.args.child c.in_ok-children.children none c.in_ok-children.ensures);
    }

pub returns-clause-undo : goal.returns-clause-undo
returns-clause-undo c =
    let w = c.args.self.now in
    let none : None ≡ first (remove_rules (nodes_of c.args.self.now.records.slots) c.args.parent c.args.child) = c.requires.none in
    let there : is_some (look_of c.args.self.now.records.slots c.args.parent) ≡ true =
    ap (λ (o : Option Node). is_some o) (sym (found c.args.self.now.records.slots c.args.parent))
    ∙ there_from (nodes_of c.args.self.now.records.slots) c.args.parent (all_passed (remove_rules (nodes_of c.args.self.now.records.slots) c.args.parent c.args.child) none).0 in
    record {
      can = (
        there_after w.records.slots c.relink_freely-older.new.records.slots c.args.parent (with_children c.in_ok-children.children) c.relink_freely-older.ensures.nodes there,
        λ x h. ap (is_in c.args.parent) (c.relink_freely-older.ensures.parents x) ∙ old_noted w.records.slots c.requires.working.sound c.args.parent c.relink_freely-older.result c.relink_freely-older.ensures.back x h,
      );
      before = told_nodes w.time w.next_serial w.gone.items _ _
          (back_children w.records.slots c.relink_freely-older.new.records.slots c.args.parent c.in_ok-children.children c.relink_freely-older.result c.relink_freely-older.ensures.back c.relink_freely-older.ensures.nodes);
      parents = λ b p h. ap (is_in p) (c.relink_freely-older.ensures.parents b) ∙ h;
      back = λ y x h. absurd (cc);
      freed = none_gone w.records.slots c.relink_freely-older.new.records.slots
          (changed_stays w.records.slots c.relink_freely-older.new.records.slots c.args.parent (with_children c.in_ok-children.children) c.relink_freely-older.ensures.nodes);
    }

pub shortened-requires : goal.shortened-requires
shortened-requires c =
    there_from (nodes_of c.args.self.now.records.slots) c.args.parent (all_passed (remove_rules (nodes_of c.args.self.now.records.slots) c.args.parent c.args.child) c.requires.none).0

pub returns-clause-grown : goal.returns-clause-grown
returns-clause-grown c = same_grows None c.args.self.now.records.slots c.relink_freely-older.new.records.slots c.relink_freely-older.ensures.parents

kept_child : (t : Bool) → not t ≡ false → t ≡ true
kept_child true h = refl
kept_child false h = absurd (cc)

pub shortened_extent-extent-requires-clause-before : goal.shortened_extent-extent-requires-clause-before
shortened_extent-extent-requires-clause-before c =
    let s = c.args.self.now.records.slots in
    let none : None ≡ first (remove_rules (nodes_of s) c.args.parent c.args.child) = c.requires.none in
    reckoned_dropped s c.requires.working.sound c.args.parent c.args.child c.as_slice.result.now
    (kept_child (is_child (nodes_of s) c.args.parent c.args.child)
    (when_not (not (is_child (nodes_of s) c.args.parent c.args.child)) (fault.NotChild c.args.parent c.args.child) (all_passed (remove_rules (nodes_of s) c.args.parent c.args.child) none).1.1.1.0))
    (c.as_slice.ensures.value ∙ c.in_ok-children.ensures)

pub shortened_extent-extent-requires-clause-small : goal.shortened_extent-extent-requires-clause-small
shortened_extent-extent-requires-clause-small c =
    (all_within c.args.self.now.records.slots c.requires.working.sound.meets (low_of c.args.self.now c.requires.working) (small_of c.args.self.now c.requires.working) c.args.parent).small

pub relink_freely-older-requires-clause-extent : goal.relink_freely-older-requires-clause-extent
relink_freely-older-requires-clause-extent c = c.shortened_extent-extent.ensures ∙ ap (λ (cs : List ℕ). reckoned (extent_at c.args.self.now.records.slots) cs) c.as_slice.ensures.value
