use Rattle.std.proofs.Common.{ℕ, List, [], ◌∷◌, length, length-append, get_or, ap, sym, ◌∙◌, subst, arith}
use Rattle.std.proofs.lemmas.List.{get_or_default}
use Rattle.depth_raster.specs.Slots.{AreSlotted}
use Rattle.depth_raster.specs.declared.slots.Slot.{Slot}
use Rattle.depth_raster.proofs.Sorting.{slotted_more}
use Rattle.depth_raster.proofs.slots.complete.Goals as goal

pub loop-index-preserved : goal.loop-index-preserved
loop-index-preserved c =
    let ps = c.args.pieces.now in
    let ss = c.loop-index.slots.items in
    let i = c.loop-index.index in
    let p = c.index-pieces-index.result in
    let s = c.take.new.self in
    let long = c.loop-index.invariant.count in
    record {
      room = omega (arith, c.push_reserved.ensures.capacity, c.loop-index.invariant.room);
      count = omega (arith, ap length c.push_reserved.ensures.items, length-append ss (s ∷ []), long);
      slotted = subst (λ (ts : List Slot). AreSlotted ps ts) (sym c.push_reserved.ensures.items)
          (slotted_more ps ss p s c.loop-index.invariant.slotted (omega (arith, long, c.loop-index-test.true)) (c.take.ensures.index ∙ c.waiting-slot.ensures ∙ omega (arith, long))
          (λ d. ap (λ (n : ℕ). get_or ps n d) long ∙ get_or_default ps i d p c.loop-index-test.true ∙ sym c.index-pieces-index.is) c.take.ensures.slot);
    }
