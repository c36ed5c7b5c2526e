use Rattle.draw_list.specs.Items.{instance_of_item}
use Rattle.depth_raster.specs.Canvas.{Gathers}
use Rattle.depth_raster.specs.Pieces.{AreGathered}
use Rattle.depth_raster.specs.Strips.{AreStrips}
use Rattle.depth_raster.proofs.Items.{part_over}
use Rattle.depth_raster.proofs.opaque.draw_item.Given as goal

abbrev pub invariant-loop-n : goal.invariant-loop-n
invariant-loop-n g l = record {
  sound : AreStrips l.lens l.strips.items;
  gathered : AreGathered l.list l.lens l.batch.pieces l.batch.waiting.items;
  drawn : Gathers l.list l.lens l.initial.batch.is_first l.initial.strips.items l.initial.batch.pieces l.initial.batch.waiting.items l.batch.is_first l.strips.items l.batch.pieces l.batch.waiting.items
      (part_over l.lens (instance_of_item l.list.joints.lists l.list.kept.tris l.item) l.n);
}
