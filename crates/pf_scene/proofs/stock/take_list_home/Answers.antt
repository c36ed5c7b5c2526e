-- One node more comes home.
use Rattle.std.proofs.Common.{None, arith}
use Rattle.pf_scene.proofs.Bringing.{nodes_in, split_at, swapped_long, rest_none, node_brought, list_brought}
use Rattle.pf_scene.proofs.stock.take_list_home.Goals as goal

pub loop-i-preserved : goal.loop-i-preserved
loop-i-preserved c = record {
  bringing = node_brought c.args.cycles.now c.loop-i.cycles c.take_home.new.cycles c.args.updates (nodes_in c.loop-i.updates) (nodes_in c.swap.new.self) c.loop-i.i c.swap.new.place None
      c.loop-i.invariant.bringing (split_at c.loop-i.updates c.loop-i.i c.swap.new.place c.swap.ensures.taken) c.swap.ensures.put
      c.take_home.ensures.written c.take_home.ensures.most c.take_home.ensures.counts c.take_home.ensures.out;
  long = swapped_long c.loop-i.updates c.swap.new.self _ c.swap.ensures.ids c.loop-i.invariant.long;
}

pub returns-clause-out : goal.returns-clause-out
returns-clause-out c =
    let long = c.loop-i.invariant.long in
    let count = c.len-i-end.ensures.value in
    let past = c.loop-i-test.false in
    list_brought c.args.cycles.now c.loop-i.cycles c.args.updates _ c.loop-i.invariant.bringing (rest_none c.loop-i.updates c.loop-i.i (omega (arith, long, count, past)))
