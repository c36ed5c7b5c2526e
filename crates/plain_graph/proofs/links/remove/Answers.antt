use Rattle.std.proofs.Common.{◌≡◌, None, ◌∙◌, ap, rules, List, ℕ}
use Rattle.pf_model.specs.Graphs.{change}
use Rattle.pf_model.specs.Children.{drop_first}
use Rattle.pf_model.specs.NodeEdits.{with_children}
use Rattle.pf_model.specs.Edits.{first, remove_rules}
use Rattle.pf_model.proofs.Changes.{change_children}
use Rattle.plain_graph.proofs.Parents.{remove_parent}
use Rattle.plain_graph.proofs.links.remove.Goals as goal

pub returns-clause-after : goal.returns-clause-after
returns-clause-after c =
    let none : None ≡ first (remove_rules c.args.nodes.now c.args.parent c.args.child) = search rules in
    c.give_children.ensures.after
    ∙ ap (λ (xs : List ℕ). change c.args.parent (with_children xs) c.args.nodes.now) c.in_ok-children.ensures
    ∙ change_children (drop_first c.args.child) c.args.parent c.args.nodes.now (remove_parent c.args.nodes.now c.args.parent c.args.child none)
