use Rattle.std.proofs.Common.{ℕ, map, take}
use Rattle.pf_model.specs.Copies.{named_by}
use Rattle.cycle_buffer.specs.Cycles.{written_at}
use Rattle.pf_scene.specs.Counts.{AreTrimmed}
use Rattle.pf_scene.proofs.Loops.{IsSettling}
use Rattle.pf_scene.proofs.stock.settle.Given as goal

abbrev pub invariant-loop-e : goal.invariant-loop-e
invariant-loop-e l = record {
  settling : IsSettling (written_at l.initial.cycles) (written_at l.cycles) l.graph (map named_by (take l.e-index l.edits));
  trimmed : (next : ℕ) → AreTrimmed next l.initial.cycles l.cycles;
}
