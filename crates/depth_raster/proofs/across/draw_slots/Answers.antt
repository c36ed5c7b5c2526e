use Rattle.std.proofs.Common.{List, take, subst, arith}
use Rattle.std.proofs.lemmas.List.{take_all}
use Rattle.std.proofs.lemmas.List.Elements.{All-get_or}
use Rattle.depth_raster.specs.StripSlots.{IsStripSlotOf, strip_slots_over}
use Rattle.depth_raster.specs.Strips.{TilesRelate}
use Rattle.depth_raster.specs.Tiles.{MarksFollow}
use Rattle.depth_raster.specs.declared.strip_slots.StripSlot.{StripSlot}
use Rattle.depth_raster.proofs.Slotted.{no_strip_slot, slots_none, slots_more, marked_tiles_kept}
use Rattle.depth_raster.proofs.across.draw_slots.Goals as goal

pub loop-slot-init : goal.loop-slot-init
loop-slot-init c = slots_none c.args.lens.now c.args.pieces.now c.args.tiles.now

pub loop-slot-preserved : goal.loop-slot-preserved
loop-slot-preserved c =
    let a = c.args in
    slots_more a.lens.now a.pieces.now a.slots.now c.loop-slot.slot-index no_strip_slot a.tiles.now c.loop-slot.tiles c.draw_slot.new.tiles (omega arith) c.loop-slot.auto.tiles c.loop-slot.invariant c.draw_slot.ensures

pub draw_slot-requires-clause-tiles : goal.draw_slot-requires-clause-tiles
draw_slot-requires-clause-tiles c =
    let a = c.args in
    marked_tiles_kept (strip_slots_over a.lens.now a.pieces.now (take c.loop-slot.slot-index a.slots.now)) a.band.now a.tiles.now c.loop-slot.tiles c.requires.tiles c.loop-slot.auto.tiles c.loop-slot.invariant

pub draw_slot-requires-clause-slot : goal.draw_slot-requires-clause-slot
draw_slot-requires-clause-slot c = All-get_or (IsStripSlotOf c.args.pieces.now) c.args.slots.now c.loop-slot.slot-index no_strip_slot (omega arith) c.requires.slots

pub returns : goal.returns
returns c =
    let a = c.args in
    subst (λ (ss : List StripSlot). TilesRelate (MarksFollow (strip_slots_over a.lens.now a.pieces.now ss)) a.tiles.now c.loop-slot.tiles) (take_all c.loop-slot.slot-index a.slots.now (omega arith)) c.loop-slot.invariant
