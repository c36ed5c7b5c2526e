use Rattle.pf_model.specs.Graphs.{node_at}
use Rattle.draw_list.specs.Lists.{instances_in}
use Rattle.frame_stages.specs.CullBoxes.{sight_of}
use Rattle.frame_stages.proofs.Culled.{ordered, walk_is}
use Rattle.frame_stages.proofs.culling.counted.Goals as goal

pub returns-clause-walk : goal.returns-clause-walk
returns-clause-walk g c =
    walk_is (sight_of c.args.copy.now c.args.time c.args.lens.now) c.args.view.now c.args.list.now c.cull-stats.new.out c.order.new.self
    c.new-steps.result c.cull-stats.new.steps c.cull-stats.result.visited c.cull-stats.ensures.walk c.new-steps.ensures
    c.order.ensures.joints c.order.ensures.kept c.order.ensures.items c.order.ensures.sorted

pub returns-clause-exact : goal.returns-clause-exact
returns-clause-exact g c = λ can.
    record {
      list = ordered c.draw_order_is_one.ensures (node_at c.args.copy.now.nodes) c.args.time c.args.view.now c.args.lens.now
          (instances_in c.cull-stats.new.out) (instances_in c.order.new.self)
          (c.cull-stats.ensures.list can) c.order.ensures.permutation c.order.ensures.sorted;
      numbers = c.cull-stats.ensures.numbers can;
    }
