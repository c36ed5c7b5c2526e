use Rattle.std.proofs.Common.{take}
use Rattle.depth_raster.specs.StripSlots.{strip_slots_over}
use Rattle.depth_raster.specs.Strips.{TilesRelate}
use Rattle.depth_raster.specs.Tiles.{MarksFollow}
use Rattle.depth_raster.proofs.across.draw_slots.Given as goal

abbrev pub invariant-loop-slot : goal.invariant-loop-slot
invariant-loop-slot l = TilesRelate (MarksFollow (strip_slots_over l.lens l.pieces (take l.slot-index l.slots))) l.initial.tiles l.tiles
