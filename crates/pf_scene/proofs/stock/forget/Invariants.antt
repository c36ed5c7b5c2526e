use Rattle.std.proofs.Common.{ℕ, take}
use Rattle.cycle_buffer.specs.Cycles.{written_at}
use Rattle.pf_scene.specs.Counts.{AreTrimmed}
use Rattle.pf_scene.proofs.Loops.{IsForgetting}
use Rattle.pf_scene.proofs.stock.forget.Given as goal

abbrev pub invariant-loop-remains : goal.invariant-loop-remains
invariant-loop-remains l = record {
  forgetting : IsForgetting (written_at l.initial.cycles) (written_at l.cycles) (take l.remains-index l.gone);
  trimmed : (next : ℕ) → AreTrimmed next l.initial.cycles l.cycles;
}
