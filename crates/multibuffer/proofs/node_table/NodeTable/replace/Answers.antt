use Rattle.std.proofs.Common.{◌==◌, cond, Option, None, sym, ◌∙◌, ap, arith}
use Rattle.std.proofs.lemmas.List.{get_or_default}
use Rattle.pf_model.specs.declared.nodes.Node.{Node}
use Rattle.pf_model.specs.Graphs.{Nodes, node_at}
use Rattle.pf_model.specs.Copies.{updated}
use Rattle.pf_model.proofs.Written.{has_place}
use Rattle.bound_cache.proofs.Fills.{read_set}
use Rattle.multibuffer.proofs.Slotted.{same_nodes, written, written_found, found}
use Rattle.multibuffer.proofs.node_table.NodeTable.replace.Goals as goal

pub index_mut-requires : goal.index_mut-requires
index_mut-requires c = omega (arith, has_place None c.self.inside.slots.items c.write_to.new.entries.items c.args.id (c.write_to.ensures.items None (λ x none. none)))

pub returns-clause-nodes : goal.returns-clause-nodes
returns-clause-nodes c =
    let slots = c.self.inside.slots.items in
    let longer = c.write_to.new.entries.items in
    let more = c.write_to.ensures.items None (λ x none. none) in
    written longer c.args.id c.replace.new.dest (has_place None slots longer c.args.id more)
    ∙ ap (λ (ns : Nodes). updated ns (c.args.id, c.replace.new.dest)) (same_nodes slots longer c.args.id more ∙ c.self.view_is)
    ∙ ap (λ (n : Option Node). updated c.args.self.now (c.args.id, n)) c.replace.ensures.after

pub returns-clause-looks : goal.returns-clause-looks
returns-clause-looks c =
    let slots = c.self.inside.slots.items in
    let longer = c.write_to.new.entries.items in
    let more = c.write_to.ensures.items None (λ x none. none) in
    λ k. written_found longer c.args.id c.replace.new.dest k (read_set longer c.args.id c.replace.new.dest None k (has_place None slots longer c.args.id more))
    ∙ ap (λ (ns : Nodes). cond (k == c.args.id) c.replace.new.dest (node_at ns k)) (same_nodes slots longer c.args.id more ∙ c.self.view_is)
    ∙ ap (λ (n : Option Node). cond (k == c.args.id) n (node_at c.args.self.now k)) c.replace.ensures.after

pub returns-clause-stood : goal.returns-clause-stood
returns-clause-stood c =
    let slots = c.self.inside.slots.items in
    let longer = c.write_to.new.entries.items in
    let more = c.write_to.ensures.items None (λ x none. none) in
    c.replace.ensures.value
    ∙ c.index_mut.ensures.value
    ∙ get_or_default longer c.args.id c.index_mut.result.now None (has_place None slots longer c.args.id more)
    ∙ sym (found longer c.args.id)
    ∙ ap (λ (ns : Nodes). node_at ns c.args.id) (same_nodes slots longer c.args.id more ∙ c.self.view_is)
