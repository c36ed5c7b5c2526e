-- One list more comes home.
use Rattle.std.proofs.Common.{◌∙◌, sym}
use Rattle.pf_scene.proofs.Bringing.{none_left, lists_brought_more, lists_brought}
use Rattle.pf_scene.proofs.stock.take_all_home.Goals as goal

pub loop-updates-preserved : goal.loop-updates-preserved
loop-updates-preserved c = record {
  bringing = lists_brought_more c.args.cycles.now c.loop-updates.cycles c.take_list_home.new.cycles c.args.home.now.items c.loop-updates.home.items c.pop.new.self.items c.in-Some.updates
      c.loop-updates.invariant.bringing c.in-Some.ensures.items c.take_list_home.ensures.written c.take_list_home.ensures.most c.take_list_home.ensures.counts c.take_list_home.ensures.out;
  room = c.pop.ensures.capacity ∙ c.loop-updates.invariant.room;
}

pub returns-clause-out : goal.returns-clause-out
returns-clause-out c =
    lists_brought c.args.cycles.now c.loop-updates.cycles c.args.home.now.items c.loop-updates.home.items c.loop-updates.invariant.bringing
    (none_left c.loop-updates.home.items (sym c.loop-updates.home.ok.0 ∙ c.in_default.ensures.cases.0))
