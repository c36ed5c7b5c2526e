use Rattle.std.proofs.Common.{◌≡◌}
use Rattle.stage_parts.specs.Loads.{IsOfSize}
use Rattle.frame_stages.specs.Painting.{ArePaintedTo}
use Rattle.frame_stages.proofs.painting.paint.Given as goal

-- the channels so far are drawn
abbrev pub invariant-loop-channel : goal.invariant-loop-channel
invariant-loop-channel g l =
    record {
      raster : l.raster ≡ l.initial.raster;
      size : IsOfSize l.initial.raster l.image;
      load : l.load ≡ record l.initial.load { images = l.load.images };
      drawn : ArePaintedTo l.initial.raster l.back l.initial.load.lists l.channel l.initial.load.images l.load.images;
    }
