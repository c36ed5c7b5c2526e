use Rattle.std.proofs.Common.{◌+◌, ℕ, List, [], get_or, ap, sym, subst, arith}
use Rattle.depth_raster.specs.Blocks.{colour_in}
use Rattle.depth_raster.specs.Following.{SpanRelates}
use Rattle.depth_raster.specs.Marks.{no_mark}
use Rattle.depth_raster.specs.Pieces.{kept_colour}
use Rattle.depth_raster.specs.Tiles.{kept_within}
use Rattle.depth_raster.proofs.Following.{none_spanned, span_written}
use Rattle.depth_raster.proofs.painting.paint_old.Goals as goal

pub loop-q-init : goal.loop-q-init
loop-q-init c =
    let a = c.args in
    let b = a.block.now in
    none_spanned b (colour_in b a.colours.now) (kept_within a.back b a.marks.now) a.run.now.r a.run.now.start

pub loop-q-preserved : goal.loop-q-preserved
loop-q-preserved c =
    let a = c.args in
    let b = a.block.now in
    let q = c.loop-q.q in
    let place = c.place-place.result in
    let v = kept_colour a.back (get_or a.marks.now place no_mark) (get_or c.loop-q.colours place []) in
    let here = ap (λ (i : ℕ). kept_colour a.back (get_or a.marks.now i no_mark) (get_or c.loop-q.colours place [])) c.place-place.ensures in
    subst (λ (cs : List (List ℕ)). SpanRelates b (colour_in b a.colours.now) (colour_in b cs) (kept_within a.back b a.marks.now) a.run.now.r a.run.now.start (q + 1)) (sym c.paint_back.ensures)
    (span_written (λ (x : List ℕ). x) [] b (colour_in b a.colours.now) c.loop-q.colours (kept_within a.back b a.marks.now) a.run.now.r a.run.now.start q place v
    c.loop-q.invariant (omega (arith, c.requires.colours)) (omega arith) (omega (arith, c.loop-q-test.true, c.requires.run.within)) c.requires.run.row c.place-place.ensures here)

pub returns : goal.returns
returns c =
    let a = c.args in
    let b = a.block.now in
    subst (λ (n : ℕ). SpanRelates b (colour_in b a.colours.now) (colour_in b c.loop-q.colours) (kept_within a.back b a.marks.now) a.run.now.r a.run.now.start n) (omega (arith, c.requires.run.some)) c.loop-q.invariant
