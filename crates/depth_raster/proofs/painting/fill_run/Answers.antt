use Rattle.std.proofs.Common.{ℕ, List, [], refl, subst, arith}
use Rattle.depth_raster.specs.Blocks.{colour_in}
use Rattle.depth_raster.specs.Following.{SpanRelates}
use Rattle.depth_raster.specs.Means.{filled}
use Rattle.depth_raster.proofs.Following.{none_spanned, span_written}
use Rattle.depth_raster.proofs.painting.fill_run.Goals as goal

pub loop-q-init : goal.loop-q-init
loop-q-init c =
    let a = c.args in
    let b = a.block.now in
    none_spanned b (colour_in b a.colours.now) (filled a.colour) a.run.now.r a.run.now.start

pub loop-q-preserved : goal.loop-q-preserved
loop-q-preserved c =
    let a = c.args in
    let b = a.block.now in
    span_written (λ (x : List ℕ). x) [] b (colour_in b a.colours.now) c.loop-q.colours (filled a.colour) a.run.now.r a.run.now.start c.loop-q.q c.place-place.result a.colour
    c.loop-q.invariant (omega (arith, c.requires.colours)) (omega arith) (omega (arith, c.requires.run.within)) c.requires.run.row c.place-place.ensures refl

pub returns : goal.returns
returns c =
    let a = c.args in
    let b = a.block.now in
    subst (λ (n : ℕ). SpanRelates b (colour_in b a.colours.now) (colour_in b c.loop-q.colours) (filled a.colour) a.run.now.r a.run.now.start n) (omega (arith, c.requires.run.some)) c.loop-q.invariant
