use Rattle.std.proofs.Common.{List, sym, subst}
use Rattle.depth_raster.specs.Slots.{AreSlotsOf}
use Rattle.depth_raster.specs.declared.pieces.Piece.{Piece}
use Rattle.depth_raster.proofs.Sorting.{slots_all}
use Rattle.depth_raster.proofs.opaque.begin_go.Goals as goal

pub complete_slots-requires : goal.complete_slots-requires
complete_slots-requires g c = λ i d l. (c.requires i d l).least

pub returns-clause-slots : goal.returns-clause-slots
returns-clause-slots g c =
    let lens = c.args.lens.now in
    let all = c.complete_slots in
    let sorted = c.sort_slots.ensures.slots lens all.new.self.pieces (slots_all all.new.self.pieces all.new.self.slots.items all.ensures.slotted all.ensures.count lens) in
    subst (λ (qs : List Piece). AreSlotsOf lens qs c.sort_slots.new.self.slots.items) (sym c.sort_slots.ensures.pieces) sorted
