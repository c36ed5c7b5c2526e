use Rattle.std.proofs.Common.{◌+◌, length, ap, arith}
use Rattle.std.specs.List.{between}
use Rattle.depth_raster.proofs.Composing.{row_added, row_long, row_seen}
use Rattle.depth_raster.proofs.shown.show_tile.Goals as goal

pub loop-r-preserved : goal.loop-r-preserved
loop-r-preserved c =
    let t = c.args.tile.now in
    let b = t.block in
    let r = c.loop-r.r in
    let colours = c.deref.result.now in
    let from = c.place-from.result in
    row_added c.args.width c.args.bytes.now c.loop-r.bytes c.show_row.new.bytes t r (between from (from + b.width) colours)
    (row_long b colours from r (omega (arith, ap length c.deref.ensures.0, t.colours_whole)) c.loop-r-test.true c.place-from.ensures)
    c.requires.columns (λ q column. row_seen t colours from r q c.deref.ensures.0 c.place-from.ensures column) c.loop-r.invariant c.show_row.ensures
