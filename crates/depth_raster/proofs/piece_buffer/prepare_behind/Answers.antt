use Rattle.std.proofs.Common.{◌≡◌, ◌+◌, List, ◌++◌, length, take, ap, sym, ◌∙◌, subst, arith}
use Rattle.depth_raster.specs.Slots.{AreNumbered, AreSlotted}
use Rattle.depth_raster.specs.declared.pieces.Piece.{Piece}
use Rattle.depth_raster.specs.declared.slots.Slot.{Slot}
use Rattle.depth_raster.proofs.Prepared.{two_parts}
use Rattle.depth_raster.proofs.Sorting.{slotted_then}
use Rattle.depth_raster.proofs.piece_buffer.prepare_behind.Goals as goal

pub returns : goal.returns
returns g c =
    let front = c.split_at_mut-behind in
    let cut = c.split_at_mut-fresh in
    let free = c.split_at_mut-open in
    let fresh = c.prepare.new.pieces in
    let taken = c.prepare.new.slots in
    let count = c.args.count in
    let n = length c.args.waiting.now in
    let before = take count c.args.written.now in
    let long : length fresh ≡ n = omega (arith, c.prepare.auto.pieces, cut.ensures.front_len) in
    let pieces : take (count + n) (front.result.0.now ++ (fresh ++ cut.result.1.now)) ≡ before ++ fresh =
    two_parts (count + n) front.result.0.now fresh cut.result.1.now (omega (arith, long, front.ensures.front_len))
    ∙ ap (λ (ps : List Piece). ps ++ fresh) front.ensures.front in
    record {
      pieces = record { fresh = fresh; pieces = pieces; count = long; prepared = c.prepare.ensures.pieces };
      slotted = subst (λ (ps : List Piece). AreSlotted ps (free.result.0.now ++ taken)) (sym pieces)
          (slotted_then before fresh free.result.0.now free.result.1.now taken
          (free.ensures.front_len ∙ sym front.ensures.front_len ∙ ap (λ (ps : List Piece). length ps) front.ensures.front)
          (omega (arith, long, free.ensures.back_len, c.requires.slots))
          (omega (arith, long, free.ensures.back_len, c.requires.slots, c.prepare.auto.slots))
          (subst (λ (ss : List Slot). AreSlotted before ss) (sym free.ensures.front) c.requires.slotted)
          (subst (λ (ss : List Slot). AreNumbered ss) free.ensures.value c.requires.numbered) c.prepare.ensures.slots);
    }
