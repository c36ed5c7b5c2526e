use Rattle.std.proofs.Common.{[], ◌∷◌, length, length-append, take, ap, ◌∙◌, arith}
use Rattle.std.proofs.lemmas.List.{take-append-le}
use Rattle.depth_raster.proofs.piece_buffer.fill_up.Goals as goal

pub loop-i-preserved : goal.loop-i-preserved
loop-i-preserved c =
    let ps = c.loop-i.written.items in
    let p = c.blank.result in
    let had = c.loop-i.invariant in
    let long = length-append ps (p ∷ []) in
    record {
      count = omega (arith, ap length c.push_reserved.ensures.items, long, had.count);
      few = omega (arith, ap length c.push_reserved.ensures.items, long, had.few);
      room = omega (arith, c.push_reserved.ensures.capacity, had.room);
      first = λ n within. ap (take n) c.push_reserved.ensures.items ∙ take-append-le n ps (p ∷ []) (omega (arith, within, had.few)) ∙ had.first n within;
    }
