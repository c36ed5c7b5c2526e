use Rattle.std.proofs.Common.{◌+◌, refl, arith}
use Rattle.depth_raster.specs.Blocks.{colour_in, place_in}
use Rattle.depth_raster.specs.Tiles.{painted_within}
use Rattle.depth_raster.proofs.Following.{none_related, related_at, related_span, row_start, row_end, all_related}
use Rattle.depth_raster.proofs.painting.paint_rows.Goals as goal

pub loop-r-init : goal.loop-r-init
loop-r-init c =
    let a = c.args in
    let b = a.block.now in
    none_related b (colour_in b a.colours.now) (painted_within a.lens.now a.back a.pieces.now b a.marks.now) (place_in b 0 0) (row_start b)

pub loop-r-preserved : goal.loop-r-preserved
loop-r-preserved c =
    let a = c.args in
    let b = a.block.now in
    related_at b (colour_in b a.colours.now) (colour_in b c.loop-q.colours) (painted_within a.lens.now a.back a.pieces.now b a.marks.now)
    (place_in b c.loop-q.q c.loop-r.r) (place_in b 0 (c.loop-r.r + 1)) (row_end b c.loop-q.q c.loop-r.r (omega (arith, c.loop-q.invariant.within))) c.loop-q.invariant.painted

pub loop-q-init : goal.loop-q-init
loop-q-init c = record { painted = c.loop-r.invariant; within = omega arith }

pub loop-q-preserved : goal.loop-q-preserved
loop-q-preserved c =
    let a = c.args in
    let b = a.block.now in
    record {
      painted = related_span b (colour_in b a.colours.now) (colour_in b c.loop-q.colours) (colour_in b c.paint_run.new.colours) (painted_within a.lens.now a.back a.pieces.now b a.marks.now)
          c.loop-r.r c.loop-q.q c.run_end-end.result c.loop-q.invariant.painted c.paint_run.ensures (omega (arith, c.run_end-end.ensures.some)) c.run_end-end.ensures.within;
      within = c.run_end-end.ensures.within;
    }

pub run_end-end-requires-clause-narrow : goal.run_end-end-requires-clause-narrow
run_end-end-requires-clause-narrow c = omega (arith, c.requires.block.columns, c.args.lens.now.in_range.most_width)

pub returns : goal.returns
returns c =
    let a = c.args in
    let b = a.block.now in
    all_related b (colour_in b a.colours.now) (colour_in b c.loop-r.colours) (painted_within a.lens.now a.back a.pieces.now b a.marks.now) c.loop-r.r (place_in b 0 c.loop-r.r) (omega arith) refl c.loop-r.invariant
