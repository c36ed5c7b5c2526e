use Rattle.std.proofs.Common.{rules}
use Rattle.std.proofs.lemmas.List.Sorted.{IsNonDecreasingBy-from_sort_by_key}
use Rattle.depth_raster.specs.declared.slots.Slot.{Slot}
use Rattle.depth_raster.proofs.Sorting.{all_sorted}
use Rattle.depth_raster.proofs.slots.sort.Goals as goal

pub returns-clause-all : goal.returns-clause-all
returns-clause-all c = λ lens ps are. all_sorted lens ps c.args.slots.now.items c.sort_unstable_by_key.new.self.items c.sort_unstable_by_key.ensures.permutation are

pub returns-clause-rising : goal.returns-clause-rising
returns-clause-rising c =
    IsNonDecreasingBy-from_sort_by_key (λ (s : Slot). s.least) c.sort_unstable_by_key.new.self.items c.sort_unstable_by_key.ensures.sorted (λ a r q k. search rules)
