use Rattle.std.proofs.Common.{sym, ◌∙◌, ap}
use Rattle.pf_model.specs.Graphs.{node_at}
use Rattle.pf_edits.specs.Listed.{nodes_of}
use Rattle.pf_edits.specs.Working.{told}
use Rattle.pf_edits.proofs.work.Work.judge_attribute.Goals as goal

pub returns : goal.returns
returns c =
    let w = c.args.self.now in
    c.attribute_fault.ensures.fault (told w) (sym (c.find_node.ensures ∙ ap (node_at (nodes_of w.records.slots)) c.named.ensures))
