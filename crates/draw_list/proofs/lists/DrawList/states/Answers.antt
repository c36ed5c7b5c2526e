use Rattle.std.proofs.Common.{ap, ◌∙◌}
use Rattle.draw_list.specs.Order.{state_count}
use Rattle.draw_list.specs.Lists.{Drawables, instances_in}
use Rattle.draw_list.proofs.Marks.{states_alike}
use Rattle.draw_list.proofs.lists.DrawList.states.Goals as goal

pub returns : goal.returns
returns c =
    c.states.ensures
    ∙ states_alike c.self.inside.joints.lists c.self.inside.kept.tris c.self.inside.items.items
    ∙ ap (λ (d : Drawables). state_count (instances_in d)) c.self.view_is
