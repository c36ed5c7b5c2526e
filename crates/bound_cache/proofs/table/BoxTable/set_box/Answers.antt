use Rattle.std.proofs.Common.{None, arith}
use Rattle.pf_model.proofs.Written.{has_place, same_read}
use Rattle.bound_cache.proofs.Fills.{boxed_longer}
use Rattle.bound_cache.proofs.table.BoxTable.set_box.Goals as goal

pub index_mut-requires : goal.index_mut-requires
index_mut-requires c = omega (arith, has_place None c.args.self.now.boxes.items c.write_to.new.entries.items c.args.id (c.write_to.ensures.items None (λ x none. none)))

pub returns : goal.returns
returns c =
    let boxes = c.args.self.now.boxes.items in
    let longer = c.write_to.new.entries.items in
    let written = c.write_to.ensures.items None (λ x none. none) in
    boxed_longer boxes longer c.args.self.now.marks.items c.args.id c.args.around (has_place None boxes longer c.args.id written) (same_read None boxes longer c.args.id written)
