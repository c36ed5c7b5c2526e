-- One cycle more is dropped.
use Rattle.cycle_buffer.specs.Cycles.{written_at}
use Rattle.pf_scene.proofs.Loops.{forgetting_more}
use Rattle.pf_scene.proofs.Trimmed.{trimmed_then}
use Rattle.pf_scene.proofs.stock.forget.Goals as goal

pub loop-remains-preserved : goal.loop-remains-preserved
loop-remains-preserved c = record {
  forgetting = forgetting_more (written_at c.args.cycles.now) (written_at c.loop-remains.cycles) (written_at c.drop_cycle.new.cycles) c.args.gone.now c.loop-remains.remains-index c.remains-item.result
      c.loop-remains-test.true c.remains-item.is c.loop-remains.invariant.forgetting c.drop_cycle.ensures.none c.drop_cycle.ensures.others;
  trimmed = λ next. trimmed_then next c.args.cycles.now c.loop-remains.cycles c.drop_cycle.new.cycles (c.loop-remains.invariant.trimmed next) (c.drop_cycle.ensures.trimmed next);
}
