use Rattle.std.proofs.Common.{◌≡◌, ◌∙◌, ℕ, map, sym, ap, subst, Some}
use Rattle.std.specs.List.{position}
use Rattle.pf_model.specs.declared.nodes.Node.{Node}
use Rattle.pf_model.specs.Graphs.{Nodes, has_id}
use Rattle.pf_model.specs.Limits.{IsRising}
use Rattle.pf_model.proofs.Places.{node_at_none, node_at_place_or}
use Rattle.pf_model.proofs.Changes.{without_rising}
use Rattle.plain_graph.proofs.Changes.{without_here, without_none}
use Rattle.plain_graph.proofs.graph.take_out.Goals as goal

pub returns-in-Some-clause-node : goal.returns-in-Some-clause-node
returns-in-Some-clause-node c =
    let at : position (has_id c.args.id) c.args.nodes.now.items ≡ Some c.in-Some.place = ap (position (has_id c.args.id)) (sym c.as_slice.ensures.value) ∙ sym c.in-Some.ensures in
    ap (λ (e : ℕ × Node). Some e.1) c.remove.ensures.value ∙ sym (node_at_place_or c.args.nodes.now.items c.args.id c.in-Some.place c.remove.result at)

pub returns-in-Some-clause-after : goal.returns-in-Some-clause-after
returns-in-Some-clause-after c =
    let at : position (has_id c.args.id) c.args.nodes.now.items ≡ Some c.in-Some.place = ap (position (has_id c.args.id)) (sym c.as_slice.ensures.value) ∙ sym c.in-Some.ensures in
    c.remove.ensures.items ∙ without_here c.args.id c.args.nodes.now.items c.in-Some.place at

pub returns-in-Some-clause-rising : goal.returns-in-Some-clause-rising
returns-in-Some-clause-rising c =
    let at : position (has_id c.args.id) c.args.nodes.now.items ≡ Some c.in-Some.place = ap (position (has_id c.args.id)) (sym c.as_slice.ensures.value) ∙ sym c.in-Some.ensures in
    subst (λ (g : Nodes). IsRising (map (λ e. e.0) g))
    (sym (c.remove.ensures.items ∙ without_here c.args.id c.args.nodes.now.items c.in-Some.place at))
    (without_rising c.args.id c.args.nodes.now.items c.requires)

pub returns-in-None-clause-node : goal.returns-in-None-clause-node
returns-in-None-clause-node c =
    sym (node_at_none c.args.nodes.now.items c.args.id (ap (position (has_id c.args.id)) (sym c.as_slice.ensures.value) ∙ sym c.in-None.ensures))

pub returns-in-None-clause-after : goal.returns-in-None-clause-after
returns-in-None-clause-after c =
    sym (without_none c.args.id c.args.nodes.now.items
    (node_at_none c.args.nodes.now.items c.args.id (ap (position (has_id c.args.id)) (sym c.as_slice.ensures.value) ∙ sym c.in-None.ensures)))
