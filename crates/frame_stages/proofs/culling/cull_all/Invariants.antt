use Rattle.frame_stages.specs.Culling.{AreCulledTo}
use Rattle.frame_stages.proofs.culling.cull_all.Given as goal

-- the channels so far are culled
abbrev pub invariant-loop-channel : goal.invariant-loop-channel
invariant-loop-channel l = AreCulledTo l.copy l.time l.views l.lens l.channel l.initial.lists l.lists l.stats
