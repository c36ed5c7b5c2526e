use Rattle.std.proofs.Common.{◌≡◌, ◌||◌, ◌==◌, None, false, refl, sym, ◌∙◌, rules}
use Rattle.pf_model.specs.Children.{replace_first}
use Rattle.pf_model.specs.declared.edits.Edit.TheVariants as edit
use Rattle.pf_model.specs.declared.edits.Fault.TheVariants as fault
use Rattle.pf_model.specs.Graphs.{SceneGraph, node_at, children_of, is_below}
use Rattle.pf_model.specs.Edits.{first, replace_rules, size_rules, effect}
use Rattle.pf_model.proofs.Rules.{first_stops, all_passed, when_not, there_from}
use Rattle.pf_edits.specs.Working.{told}
use Rattle.pf_edits.proofs.Works.{low_in, none_above_parent}
use Rattle.pf_edits.proofs.Ends.{replace_is, fault_is, replaced_members}
use Rattle.pf_edits.proofs.work.Work.judge_replace_along.Goals as goal

pub returns-in-Some-clause-fault : goal.returns-in-Some-clause-fault
returns-in-Some-clause-fault c =
    let g : SceneGraph = told c.args.self.now in
    sym (first_stops (replace_rules g.nodes c.args.parent c.args.child c.args.by) (size_rules (effect g (edit.Replace c.args.parent c.args.child c.args.by)).nodes) c.in-Some.fault (sym c.in-Some.is ∙ c.fault_of_replace.ensures))

pub size_fault-requires-clause-there : goal.size_fault-requires-clause-there
size_fault-requires-clause-there c =
    let g : SceneGraph = told c.args.self.now in
    let none : None ≡ first (replace_rules g.nodes c.args.parent c.args.child c.args.by) = search rules in
    there_from g.nodes c.args.parent (all_passed (replace_rules g.nodes c.args.parent c.args.child c.args.by) none).0

pub returns-clause-fault : goal.returns-clause-fault
returns-clause-fault c =
    let w = c.args.self.now in
    let g : SceneGraph = told c.args.self.now in
    let none : None ≡ first (replace_rules g.nodes c.args.parent c.args.child c.args.by) = search rules in
    let apart : (c.args.by == c.args.parent || is_below (node_at g.nodes) c.args.by c.args.parent) ≡ false =
    when_not (c.args.by == c.args.parent || is_below (node_at g.nodes) c.args.by c.args.parent) (fault.Cycle c.args.parent c.args.by) (all_passed (replace_rules g.nodes c.args.parent c.args.child c.args.by) none).1.1.1.1.1.1.0 in
    c.size_fault.ensures.fault (replace_first c.args.child c.args.by (children_of (node_at g.nodes) c.args.parent))
    (c.replaced_extent-extent.ensures)
    (none_above_parent w.records.slots w.records.slots c.args.parent c.args.by (replace_first c.args.child c.args.by (children_of (node_at g.nodes) c.args.parent)) (low_in w c.requires.within) (λ b. refl)
    (replaced_members (children_of (node_at g.nodes) c.args.parent) c.args.child c.args.by (replace_first c.args.child c.args.by (children_of (node_at g.nodes) c.args.parent)) refl) apart)
    ∙ sym (fault_is g (edit.Replace c.args.parent c.args.child c.args.by) (replace_rules g.nodes c.args.parent c.args.child c.args.by) c.args.parent (replace_first c.args.child c.args.by (children_of (node_at g.nodes) c.args.parent)) (replace_is g c.args.parent c.args.child c.args.by (replace_first c.args.child c.args.by (children_of (node_at g.nodes) c.args.parent)) none refl) none refl)
