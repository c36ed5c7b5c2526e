use Rattle.std.proofs.Common.{◌≡◌, ℕ, ◌≤◌, Option, true, is_some, sym, ◌∙◌, ap, subst}
use Rattle.pf_model.specs.declared.nodes.Node.{Node}
use Rattle.pf_model.specs.Graphs.{Look, height_of, change}
use Rattle.pf_model.specs.Limits.{IsGraphWithinLimits}
use Rattle.pf_model.specs.NodeEdits.{with_children}
use Rattle.pf_model.proofs.Places.{funext}
use Rattle.pf_edits.specs.declared.extents.Extent.{Extent}
use Rattle.pf_edits.specs.Extents.{look_of, extent_at, reckoned}
use Rattle.pf_edits.specs.Tables.{Slots}
use Rattle.pf_edits.specs.Ways.{is_in}
use Rattle.pf_edits.proofs.Listed.{found, same_nodes, changed_nodes}
use Rattle.pf_edits.proofs.Works.{on_err, low_of, told_nodes, all_noted, none_above_parent, old_noted, there_after, none_gone, changed_stays}
use Rattle.pf_edits.proofs.Undoes.{back_children}
use Rattle.pf_edits.proofs.work.Work.link.Goals as goal

pub note_link-requires-clause-there : goal.note_link-requires-clause-there
note_link-requires-clause-there c = ap (λ (o : Option Node). is_some o) (sym (found c.args.self.now.records.slots c.args.child)) ∙ c.requires.child

pub returns-in_err-note_link-clause-working : goal.returns-in_err-note_link-clause-working
returns-in_err-note_link-clause-working c =
    let w = c.args.self.now in
    let same = told_nodes w.time w.next_serial w.gone.items _ _ (same_nodes w.records.slots c.note_link.new.records.slots c.note_link.ensures.nodes) in
    record {
      sound = c.note_link.ensures.sound;
      free = c.requires.working.free;
      within = subst IsGraphWithinLimits (sym same) c.requires.working.within;
    }

pub returns-in_err-note_link-clause-unchanged : goal.returns-in_err-note_link-clause-unchanged
returns-in_err-note_link-clause-unchanged c =
    let w = c.args.self.now in
    on_err c.from_residual.result (told_nodes w.time w.next_serial w.gone.items _ _ (same_nodes w.records.slots c.note_link.new.records.slots c.note_link.ensures.nodes))

pub returns-in_err-note_link-clause-kept : goal.returns-in_err-note_link-clause-kept
returns-in_err-note_link-clause-kept c = on_err c.from_residual.result c.note_link.ensures.kept

pub returns-in_err-note_link-clause-fewer : goal.returns-in_err-note_link-clause-fewer
returns-in_err-note_link-clause-fewer c = on_err c.from_residual.result c.in_err-note_link.ensures.fewer

pub relink_freely-older-requires-clause-low : goal.relink_freely-older-requires-clause-low
relink_freely-older-requires-clause-low c =
    λ b. subst (λ (f : Look). height_of f b ≤ 32) (sym (funext (look_of c.note_link.new.records.slots) (look_of c.args.self.now.records.slots) c.note_link.ensures.nodes)) (low_of c.args.self.now c.requires.working b)

pub relink_freely-older-requires-clause-there : goal.relink_freely-older-requires-clause-there
relink_freely-older-requires-clause-there c =
    ap (λ (o : Option Node). is_some o) (c.note_link.ensures.nodes c.args.parent ∙ sym (found c.args.self.now.records.slots c.args.parent)) ∙ c.requires.there

pub relink_freely-older-requires-clause-noted : goal.relink_freely-older-requires-clause-noted
relink_freely-older-requires-clause-noted c =
    all_noted c.args.self.now.records.slots c.note_link.new.records.slots c.args.parent c.args.child c.args.children c.requires.working.sound c.requires.members c.note_link.ensures.kept c.in_ok-note_link.ensures.noted

pub relink_freely-older-requires-clause-apart : goal.relink_freely-older-requires-clause-apart
relink_freely-older-requires-clause-apart c =
    none_above_parent c.args.self.now.records.slots c.note_link.new.records.slots c.args.parent c.args.child c.args.children (low_of c.args.self.now c.requires.working) c.note_link.ensures.nodes c.requires.members c.requires.apart

pub returns-clause-after : goal.returns-clause-after
returns-clause-after c =
    let w = c.args.self.now in
    told_nodes w.time w.next_serial w.gone.items _ _
    (changed_nodes c.note_link.new.records.slots c.relink_freely-older.new.records.slots c.args.parent (with_children c.args.children) c.relink_freely-older.ensures.nodes
    ∙ ap (change c.args.parent (with_children c.args.children)) (same_nodes w.records.slots c.note_link.new.records.slots c.note_link.ensures.nodes))

pub returns-clause-working : goal.returns-clause-working
returns-clause-working c =
    let w = c.args.self.now in
    let after = told_nodes w.time w.next_serial w.gone.items _ _
    (changed_nodes c.note_link.new.records.slots c.relink_freely-older.new.records.slots c.args.parent (with_children c.args.children) c.relink_freely-older.ensures.nodes
    ∙ ap (change c.args.parent (with_children c.args.children)) (same_nodes w.records.slots c.note_link.new.records.slots c.note_link.ensures.nodes)) in
    record {
      sound = c.relink_freely-older.ensures.sound;
      free = c.relink_freely-older.ensures.way;
      within = subst IsGraphWithinLimits (sym after) c.requires.within;
    }

pub returns-clause-undo : goal.returns-clause-undo
returns-clause-undo c =
    let w = c.args.self.now in
    let mid : Slots = c.note_link.new.records.slots in
    let there : is_some (look_of c.note_link.new.records.slots c.args.parent) ≡ true =
    ap (λ (o : Option Node). is_some o) (c.note_link.ensures.nodes c.args.parent ∙ sym (found w.records.slots c.args.parent)) ∙ c.requires.there in
    record {
      can = (
        there_after mid c.relink_freely-older.new.records.slots c.args.parent (with_children c.args.children) c.relink_freely-older.ensures.nodes there,
        λ x h. ap (is_in c.args.parent) (c.relink_freely-older.ensures.parents x) ∙ old_noted mid c.note_link.ensures.sound c.args.parent c.relink_freely-older.result c.relink_freely-older.ensures.back x h,
      );
      before = told_nodes w.time w.next_serial w.gone.items _ _
          (back_children mid c.relink_freely-older.new.records.slots c.args.parent c.args.children c.relink_freely-older.result c.relink_freely-older.ensures.back c.relink_freely-older.ensures.nodes
          ∙ same_nodes w.records.slots mid c.note_link.ensures.nodes);
      parents = λ b p h. ap (is_in p) (c.relink_freely-older.ensures.parents b) ∙ c.note_link.ensures.kept b p h;
      back = λ y x h. absurd (cc);
      freed = none_gone w.records.slots c.relink_freely-older.new.records.slots
          (λ y h. changed_stays mid c.relink_freely-older.new.records.slots c.args.parent (with_children c.args.children) c.relink_freely-older.ensures.nodes y
          (ap (λ (o : Option Node). is_some o) (c.note_link.ensures.nodes y) ∙ h));
    }

pub returns-clause-grown : goal.returns-clause-grown
returns-clause-grown c = λ b p h. c.in_ok-note_link.ensures.grown b p (sym (ap (is_in p) (c.relink_freely-older.ensures.parents b)) ∙ h)

pub relink_freely-older-requires-clause-extent : goal.relink_freely-older-requires-clause-extent
relink_freely-older-requires-clause-extent c =
    c.requires.extent
    ∙ ap (λ (f : ℕ → Extent). reckoned f c.args.children) (sym (funext (extent_at c.note_link.new.records.slots) (extent_at c.args.self.now.records.slots) c.note_link.ensures.extents))
