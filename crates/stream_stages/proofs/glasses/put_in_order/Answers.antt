use Rattle.std.proofs.Common.{◌≡◌, rules}
use Rattle.std.proofs.lemmas.List.Sorted.{answers_always}
use Rattle.stream_stages.specs.Routes.{glass_key}
use Rattle.stream_stages.proofs.Ordering.{keys_sort}
use Rattle.stream_stages.proofs.glasses.put_in_order.Goals as goal

pub returns-clause-sorted : goal.returns-clause-sorted
returns-clause-sorted c =
    keys_sort c.sort_unstable_by_key.new.self.items
    (c.sort_unstable_by_key.ensures.sorted glass_key (answers_always _ (λ a r. r ≡ glass_key a.0.now) _ (λ f a r q k. search rules)))
