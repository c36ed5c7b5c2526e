use Rattle.std.proofs.Common.{[], take}
use Rattle.draw_list.specs.Lists.{instances_in}
use Rattle.depth_raster.specs.Canvas.{Gathers}
use Rattle.depth_raster.specs.Drawing.{opaque_over}
use Rattle.depth_raster.specs.Pieces.{AreGathered}
use Rattle.depth_raster.specs.Strips.{AreStrips}
use Rattle.depth_raster.proofs.opaque.draw_opaque.Given as goal

abbrev pub invariant-loop-number : goal.invariant-loop-number
invariant-loop-number g l = record {
  sound : AreStrips l.lens l.strips.items;
  gathered : AreGathered l.list l.lens l.batch.pieces l.batch.waiting.items;
  drawn : Gathers l.list l.lens l.fn.batch.is_first l.initial.strips.items l.fn.batch.pieces [] l.batch.is_first l.strips.items l.batch.pieces l.batch.waiting.items (opaque_over l.lens (take l.number (instances_in l.list)));
}
