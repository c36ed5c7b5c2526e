use Rattle.std.proofs.Common.{◌≤◌, length, ap, sym, ◌∙◌, arith}
use Rattle.draw_list.specs.Items.{instance_of_item}
use Rattle.depth_raster.specs.Canvas.{drawn_after, waiting_over}
use Rattle.depth_raster.proofs.Items.{part_more, part_all}
use Rattle.depth_raster.proofs.Listed.{past_end, few_tris}
use Rattle.depth_raster.proofs.opaque.draw_item.Goals as goal

pub draw_tri-requires-clause-there : goal.draw_tri-requires-clause-there
draw_tri-requires-clause-there g c = λ κs live. record { its_item = c.args.item.now; its_tri = c.in-Some._tri; item_is = c.requires.item; tri_is = sym c.in-Some.ensures }

pub loop-n-preserved : goal.loop-n-preserved
loop-n-preserved g c = record {
  sound = c.draw_tri.ensures.sound;
  gathered = c.draw_tri.ensures.gathered;
  drawn = λ px py column row.
      let a = c.args in
      c.draw_tri.ensures.drawn px py column row
      ∙ ap (waiting_over a.list.now a.lens.now a.number c.loop-n.n px py) (c.loop-n.invariant.drawn px py column row)
      ∙ part_more a.list.now a.lens.now a.number a.item.now c.loop-n.n c.in-Some._tri px py (drawn_after a.list.now a.lens.now a.batch.now.is_first a.strips.now.items a.batch.now.pieces a.batch.now.waiting.items px py) c.requires.item (sym c.in-Some.ensures);
}

pub returns-in-None-clause-drawn : goal.returns-in-None-clause-drawn
returns-in-None-clause-drawn g c = λ px py column row.
    let a = c.args in
    let x = instance_of_item a.list.now.joints.lists a.list.now.kept.tris a.item.now in
    c.loop-n.invariant.drawn px py column row
    ∙ part_all a.lens.now x c.loop-n.n px py (drawn_after a.list.now a.lens.now a.batch.now.is_first a.strips.now.items a.batch.now.pieces a.batch.now.waiting.items px py) (past_end x.tris c.loop-n.n (sym c.in-None.ensures))

pub returns-clause-drawn : goal.returns-clause-drawn
returns-clause-drawn g c = λ px py column row.
    let a = c.args in
    let x = instance_of_item a.list.now.joints.lists a.list.now.kept.tris a.item.now in
    let few : length x.tris ≤ c.loop-n.n = omega (arith, few_tris a.list.now.kept.tris a.item.now.geom) in
    c.loop-n.invariant.drawn px py column row
    ∙ part_all a.lens.now x c.loop-n.n px py (drawn_after a.list.now a.lens.now a.batch.now.is_first a.strips.now.items a.batch.now.pieces a.batch.now.waiting.items px py) few
