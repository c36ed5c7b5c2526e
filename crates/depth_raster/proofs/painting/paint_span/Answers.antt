use Rattle.std.proofs.Common.{◌≡◌, ℕ, ◌+◌, ◌<◌, List, [], sym, subst, arith}
use Rattle.std.specs.Option.{IfSome}
use Rattle.tri_cover.specs.Faces.{face_hit}
use Rattle.depth_raster.specs.Blocks.{colour_in}
use Rattle.depth_raster.specs.Following.{SpanRelates}
use Rattle.depth_raster.specs.Means.{shaded_within}
use Rattle.depth_raster.specs.Shading.{IsSpanAt}
use Rattle.depth_raster.proofs.Following.{none_spanned, span_written}
use Rattle.depth_raster.proofs.Shaded.{span_after, span_fits, span_shade}
use Rattle.depth_raster.proofs.painting.paint_span.Goals as goal

pub loop-q-init : goal.loop-q-init
loop-q-init c =
    let a = c.args in
    let b = a.block.now in
    record { painted = none_spanned b (colour_in b a.colours.now) (shaded_within a.face.now b) a.run.now.r a.run.now.start; span = c.requires.span }

pub advance-requires : goal.advance-requires
advance-requires c =
    let a = c.args in
    let b = a.block.now in
    span_fits a.face.now (b.left + c.loop-q.q) (b.first + a.run.now.r) c.loop-q.span c.requires.bytes c.requires.small
    (omega (arith, c.loop-q-test.true, c.requires.columns, c.requires.run.within)) (omega (arith, c.requires.rows, c.requires.run.row)) c.loop-q.invariant.span

pub loop-q-preserved : goal.loop-q-preserved
loop-q-preserved c =
    let a = c.args in
    let b = a.block.now in
    let f = a.face.now in
    let q = c.loop-q.q in
    let column : q < b.width = omega (arith, c.loop-q-test.true, c.requires.run.within) in
    let here = subst (λ (v : List ℕ). IfSome (face_hit f (b.left + q) (b.first + a.run.now.r)) (λ h. v ≡ h.colour)) (sym c.colour_of.ensures)
    (span_shade f (b.left + q) (b.first + a.run.now.r) c.loop-q.span c.shade-shade.result c.requires.bytes c.loop-q.invariant.span c.shade-shade.ensures) in
    record {
      painted = span_written (λ (x : List ℕ). x) [] b (colour_in b a.colours.now) c.loop-q.colours (shaded_within f b) a.run.now.r a.run.now.start q c.place-place.result c.colour_of.result
          c.loop-q.invariant.painted (omega (arith, c.requires.colours)) (omega arith) column c.requires.run.row c.place-place.ensures here;
      span = subst (λ (n : ℕ). IsSpanAt f n (b.first + a.run.now.r) c.advance.new.self) (omega arith)
          (span_after f (b.left + q) (b.first + a.run.now.r) c.loop-q.span c.advance.new.self c.loop-q.invariant.span c.advance.ensures);
    }

pub returns : goal.returns
returns c =
    let a = c.args in
    let b = a.block.now in
    subst (λ (n : ℕ). SpanRelates b (colour_in b a.colours.now) (colour_in b c.loop-q.colours) (shaded_within a.face.now b) a.run.now.r a.run.now.start n) (omega (arith, c.requires.run.some)) c.loop-q.invariant.painted
