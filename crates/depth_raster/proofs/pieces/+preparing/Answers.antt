use Rattle.std.proofs.Common.{◌≡◌, List, ◌++◌, length, take, ap, sym, ◌∙◌, subst, arith}
use Rattle.std.proofs.lemmas.List.{take-append-drop}
use Rattle.depth_raster.specs.Pieces.{ArePrepared}
use Rattle.depth_raster.specs.Slots.{AreTaken}
use Rattle.depth_raster.specs.declared.waiting.Waiting.{Waiting}
use Rattle.depth_raster.specs.declared.slots.Slot.{Slot}
use Rattle.depth_raster.proofs.Prepared.{parts_prepared}
use Rattle.depth_raster.proofs.Sorting.{parts_taken}
use Rattle.depth_raster.proofs.pieces.+preparing.Goals as goal

pub prepare-returns : goal.prepare-returns
prepare-returns g t c =
    let a = c.args in
    let list = a.list.now in
    let lens = a.lens.now in
    let faces = c.split_at in
    let parts = c.prepare_both in
    let ws = a.waiting.now in
    let n = c.next_pieces-count.result in
    let whole : faces.result.0.now ++ faces.result.1.now ≡ ws =
    ap (λ (vs : List Waiting). vs ++ faces.result.1.now) faces.ensures.front ∙ ap (λ (vs : List Waiting). take n ws ++ vs) faces.ensures.back ∙ take-append-drop n ws in
    let cut = c.split_at_mut-front_slots in
    let long : length parts.new.front ≡ length faces.result.0.now = omega (arith, parts.auto.front, c.split_at_mut-front.ensures.front_len, faces.ensures.front_len) in
    record {
      pieces = subst (λ (vs : List Waiting). ArePrepared list lens vs (parts.new.front ++ parts.new.rest)) whole
          (parts_prepared list lens faces.result.0.now parts.new.front faces.result.1.now parts.new.rest long parts.ensures.front parts.ensures.rest);
      slots = subst (λ (ss : List Slot). AreTaken (parts.new.front ++ parts.new.rest) ss (parts.new.front_slots ++ parts.new.rest_slots)) (sym cut.ensures.value)
          (parts_taken parts.new.front parts.new.rest cut.result.0.now parts.new.front_slots cut.result.1.now parts.new.rest_slots
          (omega (arith, long, faces.ensures.front_len, cut.ensures.front_len)) (omega (arith, long, faces.ensures.front_len, cut.ensures.front_len, parts.auto.front_slots))
          parts.ensures.front_slots parts.ensures.rest_slots);
    }
