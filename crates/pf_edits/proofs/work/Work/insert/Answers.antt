use Rattle.std.proofs.Common.{◌≡◌, ◌≤◌, ◌==◌, ◌||◌, ℕ, List, None, sym, ◌∙◌, ap, subst}
use Rattle.std.specs.List.{insert}
use Rattle.pf_model.specs.declared.edits.Edit.TheVariants as edit
use Rattle.pf_model.specs.declared.edits.Fault.TheVariants as fault
use Rattle.pf_model.specs.Graphs.{SceneGraph, node_at, children_of, change, is_below}
use Rattle.pf_model.specs.NodeEdits.{with_children}
use Rattle.pf_model.specs.Edits.{first, child_count, insert_rules, with_nodes, effect}
use Rattle.pf_model.proofs.Rules.{all_passed, when_not, there_from}
use Rattle.pf_edits.specs.Extents.{extent_at, reckoned}
use Rattle.pf_edits.specs.Working.{told}
use Rattle.pf_edits.proofs.Ends.{insert_is, insert_passed, ends_within, ends_after, not_full, not_far, inserted_members}
use Rattle.pf_edits.proofs.Trials.{lengthened_is}
use Rattle.pf_edits.proofs.work.Work.insert.Goals as goal

pub lengthened-requires-clause-there : goal.lengthened-requires-clause-there
lengthened-requires-clause-there c =
    let g : SceneGraph = told c.args.self.now in
    there_from g.nodes c.args.parent (all_passed (insert_rules g.nodes c.args.parent c.args.place c.args.child) (insert_passed g c.args.parent c.args.place c.args.child c.requires.none)).0

pub lengthened-requires-clause-within : goal.lengthened-requires-clause-within
lengthened-requires-clause-within c =
    let g : SceneGraph = told c.args.self.now in
    subst (λ (n : ℕ). n ≤ child_count g.nodes c.args.parent) (sym c.from.ensures)
    (not_far (child_count g.nodes c.args.parent) c.args.place (fault.Place c.args.place) (all_passed (insert_rules g.nodes c.args.parent c.args.place c.args.child) (insert_passed g c.args.parent c.args.place c.args.child c.requires.none)).1.1.1.1.0)

pub lengthened-requires-clause-room : goal.lengthened-requires-clause-room
lengthened-requires-clause-room c =
    let g : SceneGraph = told c.args.self.now in
    not_full (child_count g.nodes c.args.parent) (fault.Many 257) (all_passed (insert_rules g.nodes c.args.parent c.args.place c.args.child) (insert_passed g c.args.parent c.args.place c.args.child c.requires.none)).1.1.1.1.1.1.0

pub link-requires-clause-there : goal.link-requires-clause-there
link-requires-clause-there c =
    let g : SceneGraph = told c.args.self.now in
    there_from g.nodes c.args.parent (all_passed (insert_rules g.nodes c.args.parent c.args.place c.args.child) (insert_passed g c.args.parent c.args.place c.args.child c.requires.none)).0

pub link-requires-clause-child : goal.link-requires-clause-child
link-requires-clause-child c =
    let g : SceneGraph = told c.args.self.now in
    there_from g.nodes c.args.child (all_passed (insert_rules g.nodes c.args.parent c.args.place c.args.child) (insert_passed g c.args.parent c.args.place c.args.child c.requires.none)).1.0

pub link-requires-clause-members : goal.link-requires-clause-members
link-requires-clause-members c = inserted_members (children_of (node_at (told c.args.self.now).nodes) c.args.parent) c.from.result c.args.child c.in_ok-children.children c.in_ok-children.ensures

pub link-requires-clause-apart : goal.link-requires-clause-apart
link-requires-clause-apart c =
    let g : SceneGraph = told c.args.self.now in
    when_not (c.args.child == c.args.parent || is_below (node_at g.nodes) c.args.child c.args.parent) (fault.Cycle c.args.parent c.args.child)
    (all_passed (insert_rules g.nodes c.args.parent c.args.place c.args.child) (insert_passed g c.args.parent c.args.place c.args.child c.requires.none)).1.1.1.1.1.0

made : (g : SceneGraph) (p i c n : ℕ) (cs : List ℕ) → None ≡ first (insert_rules g.nodes p i c) → cs ≡ insert (children_of (node_at g.nodes) p) n c → n ≡ i
    → with_nodes (change p (with_children cs)) g ≡ effect g (edit.Insert p i c)
made g p i c n cs none is same = insert_is g p i c cs none (is ∙ ap (λ m. insert (children_of (node_at g.nodes) p) m c) same)

pub link-requires-clause-within : goal.link-requires-clause-within
link-requires-clause-within c =
    let g : SceneGraph = told c.args.self.now in
    ends_within g (edit.Insert c.args.parent c.args.place c.args.child) c.args.parent c.in_ok-children.children
    (made g c.args.parent c.args.place c.args.child c.from.result c.in_ok-children.children (insert_passed g c.args.parent c.args.place c.args.child c.requires.none) c.in_ok-children.ensures c.from.ensures)
    c.requires.working.within c.requires.fits c.requires.none

pub returns-clause-after : goal.returns-clause-after
returns-clause-after c =
    let g : SceneGraph = told c.args.self.now in
    ends_after c.link.result (told c.link.new.self) (with_nodes (change c.args.parent (with_children c.in_ok-children.children)) g) (effect g (edit.Insert c.args.parent c.args.place c.args.child))
    (made g c.args.parent c.args.place c.args.child c.from.result c.in_ok-children.children (insert_passed g c.args.parent c.args.place c.args.child c.requires.none) c.in_ok-children.ensures c.from.ensures)
    c.link.ensures.after

pub link-requires-clause-extent : goal.link-requires-clause-extent
link-requires-clause-extent c =
    let s = c.args.self.now.records.slots in
    c.lengthened_extent-extent.ensures
    ∙ lengthened_is s c.requires.working.sound c.args.parent c.from.result c.args.child
    ∙ sym (ap (λ (cs : List ℕ). reckoned (extent_at s) cs) c.in_ok-children.ensures)
