use Rattle.update_lists.proofs.Rising.{sorted_is_put}
use Rattle.update_lists.proofs.marks.sort_ids.Goals as goal

pub returns : goal.returns
returns c = sorted_is_put c.args.ids.now c.sort_unstable.new.self c.requires c.sort_unstable.ensures.permutation c.sort_unstable.ensures.sorted
