use Rattle.std.proofs.Common.{List, subst, arith}
use Rattle.std.proofs.lemmas.List.{take_all}
use Rattle.depth_raster.specs.Shares.{HasShare}
use Rattle.depth_raster.specs.declared.slots.Slot.{Slot}
use Rattle.depth_raster.proofs.Shared.{share_more, slots_few}
use Rattle.depth_raster.proofs.Slotted.{no_slot}
use Rattle.depth_raster.proofs.shares.take_share.Goals as goal

pub loop-slot-preserved : goal.loop-slot-preserved
loop-slot-preserved c =
    share_more c.args.slots.now c.loop-slot.slot-index no_slot c.args.strip.now c.loop-slot.strip c.take_if_met.new.strip (omega arith) c.loop-slot.invariant c.take_if_met.ensures

pub take_if_met-requires : goal.take_if_met-requires
take_if_met-requires c =
    slots_few c.args.strip.now.band c.loop-slot.slot-index c.args.slots.now c.loop-slot.strip.slots.items (omega arith) c.requires c.loop-slot.invariant.slots

pub returns : goal.returns
returns c = subst (λ (ss : List Slot). HasShare ss c.args.strip.now c.loop-slot.strip) (take_all c.loop-slot.slot-index c.args.slots.now (omega arith)) c.loop-slot.invariant
