use Rattle.std.proofs.Common.{◌+◌, ℕ, ap}
use Rattle.stream_stages.proofs.RouteLaws.{ids_next}
use Rattle.stream_stages.proofs.sightings.ids_on.Goals as goal

pub loop-level-preserved : goal.loop-level-preserved
loop-level-preserved c = (
  ap (λ (k : ℕ). k + 1) c.loop-level.invariant.0,
  ids_next c.loop-level.ids c.args.way.now c.loop-level.level-index c.loop-level.at _ c.loop-level.invariant.0 c.loop-level-test.true c.requires c.loop-level.invariant.1,
)
