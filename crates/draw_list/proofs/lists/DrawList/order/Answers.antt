use Rattle.std.proofs.Common.{◌<◌, length, ap, ◌∙◌, subst}
use Rattle.std.specs.List.Sorted.{IsPermutation}
use Rattle.std.proofs.lemmas.List.Sorted.{All-permutation}
use Rattle.draw_list.specs.declared.items.Item.{Item}
use Rattle.draw_list.specs.Order.{state_count}
use Rattle.draw_list.specs.Lists.{Drawables, instances_in}
use Rattle.draw_list.proofs.Marks.{states_alike}
use Rattle.draw_list.proofs.Orders.{instances-permutation, instances_sorted, instances_of_items}
use Rattle.draw_list.proofs.lists.DrawList.order.Goals as goal

pub invariant_of-self : goal.invariant_of-self
invariant_of-self c =
    All-permutation (λ (i : Item). i.joint < length c.self.inside.joints.lists) c.self.inside.items.items c.order.new.self.items c.order.ensures.permutation c.self.invariant

pub returns-clause-states : goal.returns-clause-states
returns-clause-states c =
    c.states-states.ensures
    ∙ states_alike c.self.inside.joints.lists c.self.inside.kept.tris c.self.inside.items.items
    ∙ ap (λ (d : Drawables). state_count (instances_in d)) c.self.view_is

pub returns-clause-sorted : goal.returns-clause-sorted
returns-clause-sorted c = instances_sorted c.self.inside.joints.lists c.self.inside.kept.tris c.order.new.self.items c.order.ensures.sorted

pub returns-clause-permutation : goal.returns-clause-permutation
returns-clause-permutation c =
    subst (λ (d : Drawables). IsPermutation (instances_in d) (instances_of_items c.self.inside.joints.lists c.self.inside.kept.tris c.order.new.self.items)) c.self.view_is
    (instances-permutation c.self.inside.joints.lists c.self.inside.kept.tris c.self.inside.items.items c.order.new.self.items c.order.ensures.permutation)
