use Rattle.std.proofs.Common.{◌≡◌, ◌+◌, None, rules, sym, subst}
use Rattle.pf_model.specs.declared.edits.Edit.TheVariants as edit
use Rattle.pf_model.specs.Graphs.{SceneGraph}
use Rattle.pf_model.specs.Limits.{IsGraphWithinLimits}
use Rattle.pf_model.specs.Edits.{fault_of, effect}
use Rattle.pf_model.proofs.EditLimits.{limits_effect}
use Rattle.plain_graph.proofs.graph.Graph.make.Goals as goal

pub invariant_of-self-2 : goal.invariant_of-self-2
invariant_of-self-2 c =
    let g : SceneGraph = record { nodes = c.self.inside.nodes.items; time = c.self.inside.time; next_serial = c.self.inside.next_serial; gone = c.self.inside.gone.items } in
    let h : SceneGraph = record g { nodes = c.put.new.nodes.items; next_serial = g.next_serial + 1 } in
    let e = edit.Make c.args.id c.args.kind in
    let none : None ≡ fault_of g e = search rules in
    let done : h ≡ effect g e = search rules in
    subst IsGraphWithinLimits (sym done) (limits_effect g e c.self.invariant c.requires.fits none)
