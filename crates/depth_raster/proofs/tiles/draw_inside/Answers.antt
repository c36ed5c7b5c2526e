use Rattle.std.proofs.Common.{ℕ, ◌+◌, ◌-◌, ◌<◌, List, get_or, refl, sym, subst, arith}
use Rattle.depth_raster.specs.Around.{IsWithin}
use Rattle.depth_raster.specs.Narrow.{AreNarrowAt}
use Rattle.depth_raster.specs.Following.{SpanRelates}
use Rattle.depth_raster.specs.Spans.{becomes}
use Rattle.depth_raster.specs.Marks.{no_mark}
use Rattle.depth_raster.specs.Tiles.{mark_in, within, face_over}
use Rattle.depth_raster.specs.declared.marks.Mark.{Mark}
use Rattle.depth_raster.specs.Weighed.{IsInnerSumAt}
use Rattle.depth_raster.proofs.Weighed.{inner_sum_at, inner_values}
use Rattle.depth_raster.proofs.Following.{none_spanned, span_written}
use Rattle.depth_raster.proofs.Narrowed.{narrow_next, narrow_fits}
use Rattle.depth_raster.proofs.tiles.draw_inside.Goals as goal

pub loop-q-init : goal.loop-q-init
loop-q-init c =
    let a = c.args in
    let b = a.block.now in
    record {
      drawn = none_spanned b (mark_in b a.marks.now) (becomes (within b (face_over a.lens.now a.piece.now.face))) a.run.now.r a.run.now.start;
      values = c.requires.line.start;
    }

pub sum-requires : goal.sum-requires
sum-requires c =
    let a = c.args in
    let b = a.block.now in
    let q = c.loop-q.q in
    inner_values a.face.now (b.left + q) (b.first + a.run.now.r) c.loop-q.values c.loop-q.invariant.values
    (c.requires.inner (b.left + q) (omega (arith, c.loop-q.auto.q)) (omega (arith, c.loop-q-test.true)))

pub loop-q-preserved : goal.loop-q-preserved
loop-q-preserved c =
    let a = c.args in
    let b = a.block.now in
    let f = a.face.now in
    let r = a.run.now.r in
    let q = c.loop-q.q in
    let v = c.loop-q.values in
    let are = c.loop-q.invariant.values in
    let column : q < b.width = omega (arith, c.loop-q-test.true, c.requires.run.within) in
    let inside : IsWithin a.piece.now.extent (b.left + q) (b.first + r) = record {
      left = omega (arith, c.requires.inside.left, c.loop-q.auto.q);
      right = omega (arith, c.requires.inside.right, c.loop-q-test.true);
      top = c.requires.inside.top;
      bottom = c.requires.inside.bottom;
    } in
    let sum = subst (λ (s : ℕ). IsInnerSumAt f (b.left + q) (b.first + r) s) (sym c.from.ensures) (inner_sum_at f (b.left + q) (b.first + r) v c.sum.result are c.sum.ensures) in
    let g = within b (face_over a.lens.now a.piece.now.face) in
    let place = c.place.result in
    let here = c.draw.ensures a.piece.now f a.lens.now (b.left + q) (b.first + r) c.requires.stamp c.requires.face (omega (arith, column, c.requires.block.columns)) (omega (arith, c.requires.run.row, c.requires.block.rows)) c.requires.ready inside sum in
    record {
      drawn = subst (λ (ms : List Mark). SpanRelates b (mark_in b a.marks.now) (mark_in b ms) (becomes g) r a.run.now.start (q + 1)) (sym here)
          (span_written (λ (m : Mark). m) no_mark b (mark_in b a.marks.now) c.loop-q.marks (becomes g) r a.run.now.start q place (g q r (get_or c.loop-q.marks place no_mark))
          c.loop-q.invariant.drawn (omega (arith, c.requires.len)) (omega (arith, c.loop-q.auto.q)) column c.requires.run.row c.place.ensures refl);
      values = subst (λ (n : ℕ). AreNarrowAt f n (b.first + r) c.plus-values.result) (omega arith)
          (narrow_next f (b.left + q) (b.first + r) v a.line.now.steps c.plus-values.result are c.requires.line.steps c.plus-values.ensures);
    }

pub plus-values-requires : goal.plus-values-requires
plus-values-requires c =
    let a = c.args in
    let b = a.block.now in
    narrow_fits a.face.now (b.left + a.run.now.start) (b.left + (a.run.now.end - 1)) (b.first + a.run.now.r) (c.loop-q.q - a.run.now.start) c.loop-q.values a.line.now
    (omega (arith, c.loop-q-test.true, c.requires.run.within, c.requires.block.columns, a.lens.now.in_range.most_width)) c.requires.line
    (subst (λ (n : ℕ). AreNarrowAt a.face.now n (b.first + a.run.now.r) c.loop-q.values) (omega (arith, c.loop-q.auto.q)) c.loop-q.invariant.values)

pub returns : goal.returns
returns c =
    let a = c.args in
    let b = a.block.now in
    subst (λ (n : ℕ). SpanRelates b (mark_in b a.marks.now) (mark_in b c.loop-q.marks) (becomes (within b (face_over a.lens.now a.piece.now.face))) a.run.now.r a.run.now.start n) (omega (arith, c.requires.run.some)) c.loop-q.invariant.drawn
