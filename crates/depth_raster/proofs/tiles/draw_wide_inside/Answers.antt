use Rattle.std.proofs.Common.{ℕ, ◌+◌, ◌<◌, List, get_or, refl, sym, ◌∙◌, subst, arith}
use Rattle.std.specs.Prelude.{ℤ, pos, ◌≤ℤ◌}
use Rattle.depth_raster.specs.Around.{IsWithin}
use Rattle.depth_raster.specs.Following.{SpanRelates}
use Rattle.depth_raster.specs.Means.{IsWeightAt}
use Rattle.depth_raster.specs.Spans.{becomes}
use Rattle.depth_raster.specs.Marks.{no_mark}
use Rattle.depth_raster.specs.Tiles.{mark_in, within, face_over}
use Rattle.depth_raster.specs.declared.marks.Mark.{Mark}
use Rattle.depth_raster.proofs.Edged.{stepped, value_fits}
use Rattle.depth_raster.proofs.Following.{none_spanned, span_written}
use Rattle.depth_raster.proofs.Weighed.{sum_inner, sum_alone}
use Rattle.depth_raster.proofs.tiles.draw_wide_inside.Goals as goal

pub loop-q-init : goal.loop-q-init
loop-q-init c =
    let a = c.args in
    let b = a.block.now in
    record {
      drawn = none_spanned b (mark_in b a.marks.now) (becomes (within b (face_over a.lens.now a.piece.now.face))) a.run.now.r a.run.now.start;
      weight = c.weight_at-weight.ensures;
    }

pub natural-requires : goal.natural-requires
natural-requires c =
    let a = c.args in
    let b = a.block.now in
    let q = c.loop-q.q in
    let inner = c.requires.inner (b.left + q) (omega (arith, c.loop-q.auto.q)) (omega (arith, c.loop-q-test.true)) in
    subst (λ (z : ℤ). pos 0 ≤ℤ z) (sym c.loop-q.invariant.weight.here_is) (sum_inner a.face.now (b.left + q) (b.first + a.run.now.r) inner)

pub loop-q-preserved : goal.loop-q-preserved
loop-q-preserved c =
    let a = c.args in
    let b = a.block.now in
    let f = a.face.now in
    let r = a.run.now.r in
    let q = c.loop-q.q in
    let is = c.loop-q.invariant.weight in
    let column : q < b.width = omega (arith, c.loop-q-test.true, c.requires.run.within) in
    let inside : IsWithin a.piece.now.extent (b.left + q) (b.first + r) = record {
      left = omega (arith, c.requires.inside.left, c.loop-q.auto.q);
      right = omega (arith, c.requires.inside.right, c.loop-q-test.true);
      top = c.requires.inside.top;
      bottom = c.requires.inside.bottom;
    } in
    let inner = c.requires.inner (b.left + q) (omega (arith, c.loop-q.auto.q)) (omega (arith, c.loop-q-test.true)) in
    let sum = sum_alone f (b.left + q) (b.first + r) c.natural.result inner (c.natural.ensures.value ∙ is.here_is) in
    let g = within b (face_over a.lens.now a.piece.now.face) in
    let place = c.place.result in
    let here = c.draw.ensures a.piece.now f a.lens.now (b.left + q) (b.first + r) c.requires.stamp c.requires.face (omega (arith, column, c.requires.block.columns)) (omega (arith, c.requires.run.row, c.requires.block.rows)) c.requires.ready inside sum in
    record {
      drawn = subst (λ (ms : List Mark). SpanRelates b (mark_in b a.marks.now) (mark_in b ms) (becomes g) r a.run.now.start (q + 1)) (sym here)
          (span_written (λ (m : Mark). m) no_mark b (mark_in b a.marks.now) c.loop-q.marks (becomes g) r a.run.now.start q place (g q r (get_or c.loop-q.marks place no_mark))
          c.loop-q.invariant.drawn (omega (arith, c.requires.len)) (omega (arith, c.loop-q.auto.q)) column c.requires.run.row c.place.ensures refl);
      weight = subst (λ (n : ℕ). IsWeightAt f n (b.first + r) c.advance.new.self) (omega arith) (record {
        here_is = c.advance.ensures.here ∙ stepped f.edges.sum (b.left + q) (b.first + r) c.loop-q.weight.here c.loop-q.weight.step is.here_is is.step_is;
        step_is = c.advance.ensures.step ∙ is.step_is;
      });
    }

pub advance-requires : goal.advance-requires
advance-requires c =
    let a = c.args in
    let b = a.block.now in
    let is = c.loop-q.invariant.weight in
    value_fits a.face.now.edges.sum (b.left + c.loop-q.q) (b.first + a.run.now.r) c.loop-q.weight.here c.loop-q.weight.step is.here_is is.step_is
    (omega (arith, c.loop-q-test.true, c.requires.run.within, c.requires.block.columns, a.lens.now.in_range.most_width)) (omega (arith, c.requires.run.row, c.requires.block.rows, a.lens.now.in_range.most_height))

pub returns : goal.returns
returns c =
    let a = c.args in
    let b = a.block.now in
    subst (λ (n : ℕ). SpanRelates b (mark_in b a.marks.now) (mark_in b c.loop-q.marks) (becomes (within b (face_over a.lens.now a.piece.now.face))) a.run.now.r a.run.now.start n) (omega (arith, c.requires.run.some)) c.loop-q.invariant.drawn
