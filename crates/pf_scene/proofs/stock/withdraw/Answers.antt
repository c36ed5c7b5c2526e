-- One cycle more is dropped.
use Rattle.std.proofs.Common.{◌≡◌, ◌≢◌, ◌⊎◌, inl, inr, ℕ, ◌+◌, ◌<◌, ◌≤◌, None, ◌∙◌, ap, arith}
use Rattle.std.proofs.lemmas.Bool.{cases_eq}
use Rattle.cycle_buffer.specs.Cycles.{written_at}
use Rattle.pf_scene.specs.Stock.{Written}
use Rattle.pf_scene.proofs.Trimmed.{trimmed_then}
use Rattle.pf_scene.proofs.stock.withdraw.Goals as goal

dropped_more : (v w : Written) (first serial : ℕ) → w serial ≡ None → ((s : ℕ) → s ≢ serial → w s ≡ v s) → ((s : ℕ) → first ≤ s → s < serial → v s ≡ None)
    → (s : ℕ) → first ≤ s → s < serial + 1 → w s ≡ None
dropped_more v w first serial none others below s l k = by (cases_eq s serial)
  where
    by : (s ≡ serial) ⊎ (s ≡ serial → ⊥) → w s ≡ None
    by (inl e) = ap w e ∙ none
    by (inr e) = others s e ∙ below s l (omega (arith, k, e))

pub loop-serial-preserved : goal.loop-serial-preserved
loop-serial-preserved c =
    let order = c.loop-serial.auto.serial in
    let within = c.loop-serial-test.true in
    record {
      below = λ s l. c.drop_cycle.ensures.others s (λ e. absurd (omega (arith, l, e, order))) ∙ c.loop-serial.invariant.below s l;
      dropped = dropped_more (written_at c.loop-serial.cycles) (written_at c.drop_cycle.new.cycles) c.args.first c.loop-serial.serial c.drop_cycle.ensures.none c.drop_cycle.ensures.others c.loop-serial.invariant.dropped;
      above = λ s l. c.drop_cycle.ensures.others s (λ e. absurd (omega (arith, l, e, within))) ∙ c.loop-serial.invariant.above s l;
      out = λ s l. c.drop_cycle.ensures.out s (λ e. absurd (omega (arith, l, e, order))) ∙ c.loop-serial.invariant.out s l;
      trimmed = λ n. trimmed_then n c.args.cycles.now c.loop-serial.cycles c.drop_cycle.new.cycles (c.loop-serial.invariant.trimmed n) (c.drop_cycle.ensures.trimmed n);
    }
