use Rattle.std.proofs.Common.{◌+◌, ◌≤◌, length, sym, arith}
use Rattle.draw_list.specs.Items.{instance_of_item}
use Rattle.depth_raster.specs.Canvas.{face_glazed, instance_glazed}
use Rattle.depth_raster.proofs.Glazed.{nothing_glazed, glazed_then, glazed_alike}
use Rattle.depth_raster.proofs.Items.{face_stands, part_glazed, glazes_more, glazes_all}
use Rattle.depth_raster.proofs.Listed.{past_end, few_tris}
use Rattle.depth_raster.proofs.glass.draw_item.Goals as goal

pub loop-number-init : goal.loop-number-init
loop-number-init g c = record {
  carried = c.new-recent.ensures.carried c.args.list.now.joints.lists;
  sound = c.requires.sound;
  glass = nothing_glazed c.args.lens.now c.args.strips.now.items c.args.batch.now.pieces;
}

pub loop-number-preserved : goal.loop-number-preserved
loop-number-preserved g c =
    let a = c.args in
    let x = instance_of_item a.list.now.joints.lists a.list.now.kept.tris a.item.now in
    let n = c.loop-number.number in
    let f = part_glazed a.lens.now x n in
    let h = face_glazed a.lens.now c.of-face.result in
    record {
      carried = c.at_eye-carried.ensures.carried;
      sound = c.draw_face.ensures.sound;
      glass = glazed_alike a.lens.now a.strips.now.items c.draw_face.new.strips.items a.batch.now.pieces c.draw_face.new.batch.pieces
          (λ b px py u. h b px py (f b px py u)) (part_glazed a.lens.now x (n + 1))
          (λ b px py u. glazes_more a.lens.now b x n c.in-Some.tri c.of-face.result px py u (sym c.in-Some.ensures)
          (face_stands a.list.now.joints.lists a.list.now.kept.tris a.item.now n c.in-Some.tri c.at_eye-carried.result c.of-face.result c.at_eye-carried.ensures.hits c.of-face.ensures))
          (glazed_then a.lens.now a.strips.now.items c.loop-number.strips.items c.draw_face.new.strips.items a.batch.now.pieces c.loop-number.batch.pieces c.draw_face.new.batch.pieces f h c.loop-number.invariant.glass c.draw_face.ensures.glass);
    }

pub returns-in-None-clause-glass : goal.returns-in-None-clause-glass
returns-in-None-clause-glass g c =
    let a = c.args in
    let x = instance_of_item a.list.now.joints.lists a.list.now.kept.tris a.item.now in
    let n = c.loop-number.number in
    glazed_alike a.lens.now a.strips.now.items c.loop-number.strips.items a.batch.now.pieces c.loop-number.batch.pieces (part_glazed a.lens.now x n) (instance_glazed a.lens.now x)
    (λ b px py u. glazes_all a.lens.now b x n px py u (past_end x.tris n (sym c.in-None.ensures))) c.loop-number.invariant.glass

pub returns-clause-glass : goal.returns-clause-glass
returns-clause-glass g c =
    let a = c.args in
    let x = instance_of_item a.list.now.joints.lists a.list.now.kept.tris a.item.now in
    let n = c.loop-number.number in
    let few : length x.tris ≤ n = omega (arith, few_tris a.list.now.kept.tris a.item.now.geom) in
    glazed_alike a.lens.now a.strips.now.items c.loop-number.strips.items a.batch.now.pieces c.loop-number.batch.pieces (part_glazed a.lens.now x n) (instance_glazed a.lens.now x)
    (λ b px py u. glazes_all a.lens.now b x n px py u few) c.loop-number.invariant.glass
