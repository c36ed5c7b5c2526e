use Rattle.std.proofs.Common.{◌≡◌, ℕ, ◌<◌, ◌≤◌, None}
use Rattle.cycle_buffer.specs.Cycles.{written_at, out_at}
use Rattle.pf_scene.specs.Counts.{AreTrimmed}
use Rattle.pf_scene.proofs.stock.withdraw.Given as goal

abbrev pub invariant-loop-serial : goal.invariant-loop-serial
invariant-loop-serial l = record {
  below : (s : ℕ) → s < l.first → written_at l.cycles s ≡ written_at l.initial.cycles s;
  dropped : (s : ℕ) → l.first ≤ s → s < l.serial → written_at l.cycles s ≡ None;
  above : (s : ℕ) → l.next ≤ s → written_at l.cycles s ≡ None;
  out : (s : ℕ) → s < l.first → out_at l.cycles s ≡ out_at l.initial.cycles s;
  trimmed : (n : ℕ) → AreTrimmed n l.initial.cycles l.cycles;
}
