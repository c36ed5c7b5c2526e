use Rattle.std.proofs.Common.{◌≡◌, None, rules, sym, subst}
use Rattle.pf_model.specs.declared.edits.Edit.TheVariants as edit
use Rattle.pf_model.specs.Graphs.{SceneGraph}
use Rattle.pf_model.specs.Limits.{IsGraphWithinLimits}
use Rattle.pf_model.specs.Edits.{fault_of, effect}
use Rattle.pf_model.proofs.MakeLimits.{limits_delete}
use Rattle.plain_graph.proofs.graph.Graph.delete.Goals as goal

pub invariant_of-self-in-Continue-branch-2 : goal.invariant_of-self-in-Continue-branch-2
invariant_of-self-in-Continue-branch-2 c =
    let g : SceneGraph = record { nodes = c.self.inside.nodes.items; time = c.self.inside.time; next_serial = c.self.inside.next_serial; gone = c.self.inside.gone.items } in
    let h : SceneGraph = record g { nodes = c.take_out.new.nodes.items; gone = c.push.new.self.items } in
    let e = edit.Delete c.args.id in
    let none : None ≡ fault_of g e = search rules in
    let done : h ≡ effect g e = search rules in
    subst IsGraphWithinLimits (sym done) (limits_delete g c.args.id c.self.invariant none)
