use Rattle.std.proofs.Common.{◌≡◌, ◌∙◌, ap, length, arith}
use Rattle.pf_model.specs.Graphs.{SceneGraph, node_at}
use Rattle.pf_model.specs.Totals.{triangle_count}
use Rattle.pf_edits.proofs.Counts.{triangles_are}
use Rattle.pf_edits.proofs.graph.WorkGraph.tris.Goals as goal

pub returns : goal.returns
returns c =
    let wide : length c.self.inside.work.records.slots ≡ 65536 = c.tris.ensures.wide in
    c.tris.ensures.value ∙ triangles_are c.self.inside.work.records.slots (omega (arith, wide)) ∙ ap (λ (g : SceneGraph). triangle_count (node_at g.nodes)) c.self.view_is
