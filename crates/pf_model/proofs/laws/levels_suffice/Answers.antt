use Rattle.std.proofs.Common.{◌∙◌, sym}
use Rattle.pf_model.proofs.Levels.{low_at, heights_settle, sizes_settle, below_settles, boxes_settle, walks_settle, height_at_limit, size_at_limit, below_at_limit}
use Rattle.pf_model.proofs.laws.levels_suffice.Goals as goal

pub returns : goal.returns
returns c = λ look low. record {
  heights = λ id k. heights_settle look 32 id k (low_at look id (low id)) ∙ sym (height_at_limit look id (low id));
  sizes = λ id k. sizes_settle look 32 id k (low_at look id (low id)) ∙ sym (size_at_limit look id (low id));
  below = λ a b k. below_settles look b 32 a k (low_at look a (low a)) ∙ sym (below_at_limit look a b (low a));
  boxes = λ id k. boxes_settle look 32 id k (low_at look id (low id));
  walks = λ time k o. walks_settle look time 32 o k (low_at look o.id (low o.id));
}
