use Rattle.std.proofs.Common.{◌≡◌, ◌||◌, ◌==◌, None, false, refl, sym, ◌∙◌, rules}
use Rattle.std.specs.List.{insert}
use Rattle.pf_model.specs.declared.edits.Edit.TheVariants as edit
use Rattle.pf_model.specs.declared.edits.Fault.TheVariants as fault
use Rattle.pf_model.specs.Graphs.{SceneGraph, node_at, children_of, is_below}
use Rattle.pf_model.specs.Edits.{first, insert_rules, size_rules, effect}
use Rattle.pf_model.proofs.Rules.{first_stops, all_passed, when_not, there_from}
use Rattle.pf_edits.specs.Working.{told}
use Rattle.pf_edits.proofs.Works.{low_in, none_above_parent}
use Rattle.pf_edits.proofs.Ends.{insert_is, fault_is, inserted_members}
use Rattle.pf_edits.proofs.Trials.{lengthened_is}
use Rattle.pf_edits.proofs.work.Work.judge_insert_along.Goals as goal

pub returns-in-Some-clause-fault : goal.returns-in-Some-clause-fault
returns-in-Some-clause-fault c =
    let g : SceneGraph = told c.args.self.now in
    sym (first_stops (insert_rules g.nodes c.args.parent c.args.place c.args.child) (size_rules (effect g (edit.Insert c.args.parent c.args.place c.args.child)).nodes) c.in-Some.fault (sym c.in-Some.is ∙ c.fault_of_insert.ensures))

pub size_fault-requires-clause-there : goal.size_fault-requires-clause-there
size_fault-requires-clause-there c =
    let g : SceneGraph = told c.args.self.now in
    let none : None ≡ first (insert_rules g.nodes c.args.parent c.args.place c.args.child) = search rules in
    there_from g.nodes c.args.parent (all_passed (insert_rules g.nodes c.args.parent c.args.place c.args.child) none).0

pub returns-clause-fault : goal.returns-clause-fault
returns-clause-fault c =
    let w = c.args.self.now in
    let g : SceneGraph = told c.args.self.now in
    let none : None ≡ first (insert_rules g.nodes c.args.parent c.args.place c.args.child) = search rules in
    let apart : (c.args.child == c.args.parent || is_below (node_at g.nodes) c.args.child c.args.parent) ≡ false =
    when_not (c.args.child == c.args.parent || is_below (node_at g.nodes) c.args.child c.args.parent) (fault.Cycle c.args.parent c.args.child) (all_passed (insert_rules g.nodes c.args.parent c.args.place c.args.child) none).1.1.1.1.1.0 in
    c.size_fault.ensures.fault (insert (children_of (node_at g.nodes) c.args.parent) c.args.place c.args.child)
    (c.lengthened_extent-extent.ensures ∙ lengthened_is w.records.slots c.requires.sound c.args.parent c.args.place c.args.child)
    (none_above_parent w.records.slots w.records.slots c.args.parent c.args.child (insert (children_of (node_at g.nodes) c.args.parent) c.args.place c.args.child) (low_in w c.requires.within) (λ b. refl)
    (inserted_members (children_of (node_at g.nodes) c.args.parent) c.args.place c.args.child (insert (children_of (node_at g.nodes) c.args.parent) c.args.place c.args.child) refl) apart)
    ∙ sym (fault_is g (edit.Insert c.args.parent c.args.place c.args.child) (insert_rules g.nodes c.args.parent c.args.place c.args.child) c.args.parent (insert (children_of (node_at g.nodes) c.args.parent) c.args.place c.args.child) (insert_is g c.args.parent c.args.place c.args.child (insert (children_of (node_at g.nodes) c.args.parent) c.args.place c.args.child) none refl) none refl)
