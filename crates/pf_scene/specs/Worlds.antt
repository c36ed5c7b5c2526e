-- What clauses see of the graph with its graves, its marks and its cycles.
use Rattle.std.specs.Prelude.{ℕ, List}
use Rattle.pf_model.specs.Graphs.{SceneGraph}
use Rattle.pf_model.specs.Copies.{GraveState}
use Rattle.cycle_buffer.specs.Cycles.{CyclesState}

-- The graph, the graves of deleted nodes, the ids that changed since the last cut, and the cycles of the geodes.
pub record WorldState : Type 0 where
  pub graph : SceneGraph
  pub graves : List GraveState
  pub marks : List ℕ
  pub cycles : CyclesState
