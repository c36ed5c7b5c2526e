use Rattle.std.proofs.Common.{◌==◌, ◌||◌, ℕ, List, refl, ◌∙◌, ap}
use Rattle.pf_model.specs.declared.edits.Edit.TheVariants as edit
use Rattle.pf_model.specs.declared.edits.Fault.TheVariants as fault
use Rattle.pf_model.specs.Graphs.{SceneGraph, node_at, children_of, change, is_below}
use Rattle.pf_model.specs.NodeEdits.{with_children}
use Rattle.pf_model.specs.Edits.{replace_rules, with_nodes, effect}
use Rattle.pf_model.proofs.Rules.{all_passed, when_not, there_from}
use Rattle.pf_edits.specs.Extents.{extent_at, reckoned}
use Rattle.pf_edits.specs.Working.{told}
use Rattle.pf_edits.proofs.Ends.{replace_is, replace_passed, ends_within, ends_after, replaced_members}
use Rattle.pf_edits.proofs.work.Work.replace.Goals as goal

pub replaced-requires : goal.replaced-requires
replaced-requires c =
    let g : SceneGraph = told c.args.self.now in
    there_from g.nodes c.args.parent (all_passed (replace_rules g.nodes c.args.parent c.args.child c.args.by) (replace_passed g c.args.parent c.args.child c.args.by c.requires.none)).0

pub link-requires-clause-there : goal.link-requires-clause-there
link-requires-clause-there c =
    let g : SceneGraph = told c.args.self.now in
    there_from g.nodes c.args.parent (all_passed (replace_rules g.nodes c.args.parent c.args.child c.args.by) (replace_passed g c.args.parent c.args.child c.args.by c.requires.none)).0

pub link-requires-clause-child : goal.link-requires-clause-child
link-requires-clause-child c =
    let g : SceneGraph = told c.args.self.now in
    there_from g.nodes c.args.by (all_passed (replace_rules g.nodes c.args.parent c.args.child c.args.by) (replace_passed g c.args.parent c.args.child c.args.by c.requires.none)).1.1.0

pub link-requires-clause-members : goal.link-requires-clause-members
link-requires-clause-members c = replaced_members (children_of (node_at (told c.args.self.now).nodes) c.args.parent) c.args.child c.args.by c.in_ok-children.children c.in_ok-children.ensures

pub link-requires-clause-apart : goal.link-requires-clause-apart
link-requires-clause-apart c =
    let g : SceneGraph = told c.args.self.now in
    when_not (c.args.by == c.args.parent || is_below (node_at g.nodes) c.args.by c.args.parent) (fault.Cycle c.args.parent c.args.by)
    (all_passed (replace_rules g.nodes c.args.parent c.args.child c.args.by) (replace_passed g c.args.parent c.args.child c.args.by c.requires.none)).1.1.1.1.1.1.0

pub link-requires-clause-within : goal.link-requires-clause-within
link-requires-clause-within c =
    let g : SceneGraph = told c.args.self.now in
    ends_within g (edit.Replace c.args.parent c.args.child c.args.by) c.args.parent c.in_ok-children.children
    (replace_is g c.args.parent c.args.child c.args.by c.in_ok-children.children (replace_passed g c.args.parent c.args.child c.args.by c.requires.none) c.in_ok-children.ensures)
    c.requires.working.within refl c.requires.none

pub returns-clause-after : goal.returns-clause-after
returns-clause-after c =
    let g : SceneGraph = told c.args.self.now in
    ends_after c.link.result (told c.link.new.self) (with_nodes (change c.args.parent (with_children c.in_ok-children.children)) g) (effect g (edit.Replace c.args.parent c.args.child c.args.by))
    (replace_is g c.args.parent c.args.child c.args.by c.in_ok-children.children (replace_passed g c.args.parent c.args.child c.args.by c.requires.none) c.in_ok-children.ensures)
    c.link.ensures.after

pub link-requires-clause-extent : goal.link-requires-clause-extent
link-requires-clause-extent c = c.over_children-extent.ensures ∙ ap (λ (cs : List ℕ). reckoned (extent_at c.args.self.now.records.slots) cs) c.as_slice.ensures.value
