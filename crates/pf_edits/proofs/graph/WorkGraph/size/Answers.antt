use Rattle.std.proofs.Common.{◌∙◌, ap}
use Rattle.pf_model.specs.Graphs.{SceneGraph, node_at, size_of}
use Rattle.pf_edits.specs.declared.extents.Extent.{Extent}
use Rattle.pf_edits.proofs.Fresh.{size_told}
use Rattle.pf_edits.proofs.graph.WorkGraph.size.Goals as goal

pub returns : goal.returns
returns c =
    ap (λ (e : Extent). e.size) c.extent_at.ensures ∙ size_told c.self.inside.work c.self.invariant.working 0
    ∙ ap (λ (g : SceneGraph). size_of (node_at g.nodes) 0) c.self.view_is
