use Rattle.bound_cache.specs.Caches.{box_at, touched_at, noted_at}
use Rattle.multibuffer.proofs.Taking.{TakenSome}
use Rattle.multibuffer.proofs.stage_copy.take_all.Given as goal

abbrev pub invariant-loop-i : goal.invariant-loop-i
invariant-loop-i l = TakenSome l.initial.updates l.initial.nodes (box_at l.initial.cache) (noted_at l.initial.cache) l.i l.updates l.nodes (box_at l.cache) (touched_at l.cache) (noted_at l.cache)
