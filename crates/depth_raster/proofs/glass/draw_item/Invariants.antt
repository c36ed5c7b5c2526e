use Rattle.draw_list.specs.Items.{instance_of_item}
use Rattle.depth_raster.specs.Canvas.{Glazes}
use Rattle.depth_raster.specs.Recent.{AreCarried}
use Rattle.depth_raster.specs.Strips.{AreStrips}
use Rattle.depth_raster.proofs.Items.{part_glazed}
use Rattle.depth_raster.proofs.glass.draw_item.Given as goal

abbrev pub invariant-loop-number : goal.invariant-loop-number
invariant-loop-number g l = record {
  carried : AreCarried l.list.joints.lists l.recent;
  sound : AreStrips l.lens l.strips.items;
  glass : Glazes l.lens l.initial.strips.items l.initial.batch.pieces l.strips.items l.batch.pieces
      (part_glazed l.lens (instance_of_item l.list.joints.lists l.list.kept.tris l.item) l.number);
}
