use Rattle.std.proofs.Common.{◌<◌, List, length, take, get_or, ◌∙◌, subst, arith}
use Rattle.std.proofs.lemmas.List.{take_all}
use Rattle.depth_raster.specs.Shares.{AreShared}
use Rattle.depth_raster.specs.declared.slots.Slot.{Slot}
use Rattle.depth_raster.proofs.Shared.{shared_lie, shared_more, slots_few}
use Rattle.depth_raster.proofs.Slotted.{no_slot}
use Rattle.depth_raster.proofs.shares.share_out.Goals as goal

pub loop-slot-init : goal.loop-slot-init
loop-slot-init c = c.clear.ensures

pub loop-slot-preserved : goal.loop-slot-preserved
loop-slot-preserved c =
    shared_more c.args.slots.now c.loop-slot.slot-index no_slot c.args.strips.now c.loop-slot.strips c.give.new.strips (omega arith) (c.loop-slot.auto.strips ∙ c.clear.auto.strips) c.loop-slot.invariant c.give.ensures

pub give-requires-clause-stacked : goal.give-requires-clause-stacked
give-requires-clause-stacked c =
    shared_lie (take c.loop-slot.slot-index c.args.slots.now) c.args.strips.now c.loop-slot.strips
    (c.loop-slot.auto.strips ∙ c.clear.auto.strips) c.loop-slot.invariant c.requires.stacked

pub give-requires-clause-room : goal.give-requires-clause-room
give-requires-clause-room c = λ i d below.
    let in_list : i < length c.args.strips.now = omega (arith, below, c.loop-slot.auto.strips, c.clear.auto.strips) in
    slots_few (get_or c.args.strips.now i d).band c.loop-slot.slot-index c.args.slots.now (get_or c.loop-slot.strips i d).slots.items (omega arith) c.requires.few (c.loop-slot.invariant i d in_list).slots

pub returns : goal.returns
returns c = subst (λ (ss : List Slot). AreShared ss c.args.strips.now c.loop-slot.strips) (take_all c.loop-slot.slot-index c.args.slots.now (omega arith)) c.loop-slot.invariant
