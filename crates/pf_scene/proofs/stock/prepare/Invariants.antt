use Rattle.std.proofs.Common.{◌≡◌, ℕ}
use Rattle.cycle_buffer.specs.Cycles.{written_at, out_at}
use Rattle.pf_scene.specs.Counts.{AreTrimmed}
use Rattle.pf_scene.proofs.Loops.{IsPreparing}
use Rattle.pf_scene.proofs.stock.prepare.Given as goal

abbrev pub invariant-loop-e : goal.invariant-loop-e
invariant-loop-e l = record {
  preparing : IsPreparing (written_at l.initial.cycles) (written_at l.cycles) l.first l.serial l.edits l.e-index;
  out : (s : ℕ) → out_at l.cycles s ≡ out_at l.initial.cycles s;
  trimmed : AreTrimmed l.first l.initial.cycles l.cycles;
}
