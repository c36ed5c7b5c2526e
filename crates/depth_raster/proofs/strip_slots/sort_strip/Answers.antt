use Rattle.std.proofs.Common.{rules}
use Rattle.std.proofs.lemmas.List.Sorted.{IsNonDecreasingBy-from_sort_by_key}
use Rattle.depth_raster.specs.declared.strip_slots.StripSlot.{StripSlot}
use Rattle.depth_raster.proofs.Sorting.{slots_sorted}
use Rattle.depth_raster.proofs.strip_slots.sort_strip.Goals as goal

pub returns-clause-same : goal.returns-clause-same
returns-clause-same c = λ lens ps b are. slots_sorted lens ps b c.args.slots.now.items c.sort_unstable_by_key.new.self.items c.sort_unstable_by_key.ensures.permutation are

pub returns-clause-rising : goal.returns-clause-rising
returns-clause-rising c =
    IsNonDecreasingBy-from_sort_by_key (λ (s : StripSlot). s.least) c.sort_unstable_by_key.new.self.items c.sort_unstable_by_key.ensures.sorted (λ a r q k. search rules)
