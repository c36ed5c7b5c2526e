use Rattle.std.proofs.Common.{◌≡◌, ◌++◌, ◌-◌, map, take, replicate}
use Rattle.stream_stages.proofs.sightings.ids_on.Given as goal

abbrev pub invariant-loop-level : goal.invariant-loop-level
invariant-loop-level l = (l.at ≡ l.level-index) × (l.ids ≡ map (λ k. k.id) (take l.level-index l.way) ++ replicate (32 - l.level-index) 0)
