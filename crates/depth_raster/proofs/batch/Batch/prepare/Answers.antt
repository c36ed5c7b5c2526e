use Rattle.std.proofs.Common.{List, length, length-append, take_all, ap, sym, ◌∙◌, subst, arith}
use Rattle.depth_raster.specs.Pieces.{AreAppended}
use Rattle.depth_raster.specs.Slots.{AreNumbered, AreSlotted}
use Rattle.depth_raster.specs.declared.waiting.Waiting.{Waiting}
use Rattle.depth_raster.specs.declared.pieces.Piece.{Piece}
use Rattle.depth_raster.specs.declared.slots.Slot.{Slot}
use Rattle.depth_raster.proofs.Prepared.{appended_ranked}
use Rattle.depth_raster.proofs.batch.Batch.prepare.Goals as goal

pub number_slots-requires : goal.number_slots-requires
number_slots-requires g c = λ i d l. (c.requires.ready i d l).least

pub invariant_of-self : goal.invariant_of-self
invariant_of-self g c =
    let s = c.args.self.now in
    let list = c.args.list.now in
    let lens = c.args.lens.now in
    let all = c.number_slots in
    let after = c.prepare.new.self in
    let slots = c.prepare.new.slots.items in
    let are = subst (λ (ps : List Piece). AreAppended list lens s.waiting.items ps after) all.ensures.pieces
    (subst (λ (ws : List Waiting). AreAppended list lens ws all.new.self.pieces after) (c.deref.ensures.value ∙ all.ensures.waiting) c.prepare.ensures.pieces) in
    record {
      few = omega (arith, ap length are.pieces, length-append s.pieces are.fresh, are.count, c.requires.few);
      few_waiting = omega (arith, ap length c.clear.ensures.items);
      ranked = appended_ranked list lens s.waiting.items s.pieces after are c.requires s.ranked;
      waiting_room = omega (arith, c.clear.ensures.capacity, all.new.self.waiting_room);
      slots_room = c.prepare.ensures.room;
      slotted_first = subst (λ (ts : List Slot). AreSlotted after ts) (sym (take_all c.len-self.result slots (omega (arith, c.len-self.ensures)))) c.prepare.ensures.slotted;
      numbered_first = subst (λ (ts : List Slot). AreNumbered ts) (sym (take_all c.len-self-2.result slots (omega (arith, c.len-self-2.ensures)))) c.prepare.ensures.slotted.numbered;
    }
