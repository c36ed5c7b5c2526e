use Rattle.std.proofs.Common.{◌≡◌, ℕ, set, Option, sym, ◌∙◌, ap}
use Rattle.pf_model.specs.declared.nodes.Node.{Node}
use Rattle.pf_model.specs.Graphs.{node_at}
use Rattle.multibuffer.specs.StageCopies.{entry_at}
use Rattle.multibuffer.proofs.Handing.{exchanged, told_id}
use Rattle.multibuffer.proofs.node_table.NodeTable.take_entry.Goals as goal

pub returns-clause-updates : goal.returns-clause-updates
returns-clause-updates c =
    let us = c.args.updates.now in
    let same : (entry_at us c.args.i).0 ≡ c.in-Some.id = sym (told_id us c.args.i c.in-Some.id (sym c.in-Some.ensures)) in
    let stood : c.replace-stood.result ≡ node_at c.args.self.now c.in-Some.id = c.replace-stood.ensures.stood in
    exchanged us c.swap.new.self c.swap-2.new.self c.args.i c.replace-stood.result c.swap.ensures.ids c.swap.ensures.put c.swap-2.ensures.ids c.swap-2.ensures.put
    ∙ ap (λ (e : ℕ × Option Node). set us c.args.i e) (λ j. (same j, stood j))
