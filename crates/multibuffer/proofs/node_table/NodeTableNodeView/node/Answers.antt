use Rattle.std.proofs.Common.{List, get_or, Option, None, sym, ◌∙◌, ap}
use Rattle.pf_model.specs.declared.nodes.Node.{Node}
use Rattle.pf_model.specs.Graphs.{Nodes, node_at}
use Rattle.multibuffer.proofs.Slotted.{found}
use Rattle.multibuffer.proofs.node_table.NodeTableNodeView.node.Goals as goal

pub returns : goal.returns
returns c =
    c.node_in.ensures
    ∙ ap (λ (slots : List (Option Node)). get_or slots c.args.id None) c.as_slice.ensures.value
    ∙ sym (found c.self.inside.slots.items c.args.id)
    ∙ ap (λ (ns : Nodes). node_at ns c.args.id) c.self.view_is
