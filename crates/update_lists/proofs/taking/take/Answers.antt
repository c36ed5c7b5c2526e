use Rattle.std.proofs.Common.{◌+◌, ◌∙◌, ap, arith}
use Rattle.update_lists.specs.Taking.{geode_serials, times_in}
use Rattle.update_lists.proofs.Copying.{times_ready, times_once, times_none, updates_ids}
use Rattle.update_lists.proofs.taking.take.Goals as goal

pub fill_nodes-requires-clause-free : goal.fill_nodes-requires-clause-free
fill_nodes-requires-clause-free g c =
    times_ready (g.A.Arrays.free c.ready_nodes.new.arrays) (geode_serials (g.V.NodeView.look c.args.scene.now) c.args.ids.now)
    c.requires.arrays.differ c.in_ok-ready_nodes.ensures.ready

pub of-requires-clause-rising : goal.of-requires-clause-rising
of-requires-clause-rising g c = rw (c.fill_nodes.ensures.updates, updates_ids (g.V.NodeView.look c.args.scene.now) c.args.ids.now) c.requires.rising

pub returns-clause-taken : goal.returns-clause-taken
returns-clause-taken g c = λ s.
    let once = times_once s (geode_serials (g.V.NodeView.look c.args.scene.now) c.args.ids.now) c.requires.arrays.differ in
    omega (arith, once, c.fill_nodes.ensures.free s, c.ready_nodes.ensures.more s)

pub returns-clause-others : goal.returns-clause-others
returns-clause-others g c = λ s e.
    let none = times_none s (geode_serials (g.V.NodeView.look c.args.scene.now) c.args.ids.now) e in
    omega (arith, none, c.fill_nodes.ensures.free s, c.ready_nodes.ensures.others s e)

pub returns-clause-out : goal.returns-clause-out
returns-clause-out g c = λ s.
    c.fill_nodes.ensures.out s
    ∙ ap (λ n. n + times_in s (geode_serials (g.V.NodeView.look c.args.scene.now) c.args.ids.now)) (c.ready_nodes.ensures.out s)

pub returns-clause-most : goal.returns-clause-most
returns-clause-most g c = λ b low below. rw c.fill_nodes.ensures.most (c.ready_nodes.ensures.most b low below)
