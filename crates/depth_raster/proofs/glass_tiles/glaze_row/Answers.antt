use Rattle.std.proofs.Common.{ℕ, ◌+◌, ◌<◌, List, [], get_or, ap, ◌∙◌, subst, arith}
use Rattle.depth_raster.specs.Around.{IsWithin}
use Rattle.depth_raster.specs.Blocks.{colour_in}
use Rattle.depth_raster.specs.Edges.{AreValuesAt}
use Rattle.depth_raster.specs.Marks.{no_mark, behind_as}
use Rattle.depth_raster.specs.Means.{AreMeansAt}
use Rattle.depth_raster.specs.Tiles.{mark_in, glass_within, face_glazes}
use Rattle.depth_raster.proofs.Edged.{values_next, values_fit}
use Rattle.depth_raster.proofs.Following.{pixel_written}
use Rattle.depth_raster.proofs.Mixed.{means_small, means_fit}
use Rattle.depth_raster.proofs.Skipped.{glazed_missed, pixels_skipped, pixels_rest}
use Rattle.depth_raster.proofs.glass_tiles.glaze_row.Goals as goal

pub loop-q-init : goal.loop-q-init
loop-q-init c =
    let a = c.args in
    let b = a.block.now in
    let f = a.piece.now.face in
    record {
      drawn = pixels_skipped b (colour_in b a.colours.now) (glass_within b a.marks.now (face_glazes a.lens.now f)) a.r c.columns_from-start.result
          (λ q before column. glazed_missed a.lens.now (b.left + q) (b.first + a.r) f (behind_as (mark_in b a.marks.now q a.r)) (colour_in b a.colours.now q a.r)
          (c.requires.ready.extent.left_of (b.left + q) (b.first + a.r) (omega (arith, column, c.requires.block.columns)) (omega (arith, c.requires.row, c.requires.block.rows)) (omega (arith, before, c.columns_from-start.ensures))));
      values = c.values_at-values.ensures;
      means = c.at-means.ensures;
    }

pub glazed-glazed-requires-clause-small : goal.glazed-glazed-requires-clause-small
glazed-glazed-requires-clause-small c =
    let a = c.args in
    let b = a.block.now in
    means_small a.face.now (b.left + c.loop-q.q) (b.first + a.r) c.loop-q.means
    (omega (arith, c.loop-q-test.true, c.columns_to-end.ensures, c.requires.block.columns, a.lens.now.in_range.most_width)) (omega (arith, c.requires.row, c.requires.block.rows, a.lens.now.in_range.most_height)) c.loop-q.invariant.means

pub loop-q-preserved : goal.loop-q-preserved
loop-q-preserved c =
    let a = c.args in
    let b = a.block.now in
    let q = c.loop-q.q in
    let place = c.place-place.result in
    let column : q < b.width = omega (arith, c.columns_to-end.ensures) in
    let inside : IsWithin a.piece.now.extent (b.left + q) (b.first + a.r) = record {
      left = omega (arith, c.columns_from-start.ensures, c.loop-q.auto.q);
      right = omega (arith, c.columns_to-end.ensures, c.loop-q-test.true);
      top = c.requires.top;
      bottom = c.requires.bottom;
    } in
    let here = c.glazed-glazed.ensures.colour a.lens.now (b.left + q) (b.first + a.r) (omega (arith, column, c.requires.block.columns)) (omega (arith, c.requires.row, c.requires.block.rows)) c.requires.ready inside c.loop-q.invariant.values c.loop-q.invariant.means in
    record {
      drawn = pixel_written (λ (x : List ℕ). x) [] b (colour_in b a.colours.now) c.loop-q.colours (glass_within b a.marks.now (face_glazes a.lens.now a.piece.now.face))
          a.r q place c.glazed-glazed.result c.loop-q.invariant.drawn (omega arith) column c.requires.row c.place-place.ensures
          (here
          ∙ ap (λ (j : ℕ). face_glazes a.lens.now a.piece.now.face (b.left + q) (b.first + a.r) (get_or a.marks.now j no_mark) (get_or c.loop-q.colours place []))
          c.place-place.ensures);
      values = subst (λ (n : ℕ). AreValuesAt a.face.now n (b.first + a.r) c.plus-values.result) (omega arith)
          (values_next a.face.now (b.left + q) (b.first + a.r) c.loop-q.values c.steps_of-steps.result c.plus-values.result c.loop-q.invariant.values c.steps_of-steps.ensures c.plus-values.ensures);
      means = subst (λ (n : ℕ). AreMeansAt a.face.now n (b.first + a.r) c.advance.new.self) (omega arith)
          (c.advance.ensures a.face.now (b.left + q) (b.first + a.r) (c.glazed-glazed.ensures.means (b.left + q) (b.first + a.r) c.loop-q.invariant.means));
    }

pub plus-values-requires : goal.plus-values-requires
plus-values-requires c =
    let a = c.args in
    let b = a.block.now in
    values_fit a.face.now (b.left + c.loop-q.q) (b.first + a.r) c.loop-q.values c.steps_of-steps.result c.loop-q.invariant.values c.steps_of-steps.ensures
    (omega (arith, c.columns_to-end.ensures, c.requires.block.columns, a.lens.now.in_range.most_width)) (omega (arith, c.requires.row, c.requires.block.rows, a.lens.now.in_range.most_height))

pub advance-requires : goal.advance-requires
advance-requires c =
    let a = c.args in
    let b = a.block.now in
    means_fit a.face.now (b.left + c.loop-q.q) (b.first + a.r) c.glazed-glazed.new.means
    (omega (arith, c.loop-q-test.true, c.columns_to-end.ensures, c.requires.block.columns, a.lens.now.in_range.most_width)) (omega (arith, c.requires.row, c.requires.block.rows, a.lens.now.in_range.most_height))
    (c.glazed-glazed.ensures.means (b.left + c.loop-q.q) (b.first + a.r) c.loop-q.invariant.means)

pub returns-then-end-start : goal.returns-then-end-start
returns-then-end-start c =
    let a = c.args in
    let b = a.block.now in
    let f = a.piece.now.face in
    let g = glass_within b a.marks.now (face_glazes a.lens.now f) in
    let skipped = pixels_skipped b (colour_in b a.colours.now) g a.r c.columns_from-start.result
    (λ q before column. glazed_missed a.lens.now (b.left + q) (b.first + a.r) f (behind_as (mark_in b a.marks.now q a.r)) (colour_in b a.colours.now q a.r)
    (c.requires.ready.extent.left_of (b.left + q) (b.first + a.r) (omega (arith, column, c.requires.block.columns)) (omega (arith, c.requires.row, c.requires.block.rows)) (omega (arith, before, c.columns_from-start.ensures)))) in
    pixels_rest b (colour_in b a.colours.now) (colour_in b a.colours.now) g a.r c.columns_from-start.result skipped
    (λ q behind column. glazed_missed a.lens.now (b.left + q) (b.first + a.r) f (behind_as (mark_in b a.marks.now q a.r)) (colour_in b a.colours.now q a.r)
    (c.requires.ready.extent.right_of (b.left + q) (b.first + a.r) (omega (arith, column, c.requires.block.columns)) (omega (arith, c.requires.row, c.requires.block.rows)) (omega (arith, behind, column, c.columns_to-end.ensures))))

pub returns : goal.returns
returns c =
    let a = c.args in
    let b = a.block.now in
    let f = a.piece.now.face in
    pixels_rest b (colour_in b a.colours.now) (colour_in b c.loop-q.colours) (glass_within b a.marks.now (face_glazes a.lens.now f)) a.r c.loop-q.q c.loop-q.invariant.drawn
    (λ q behind column. glazed_missed a.lens.now (b.left + q) (b.first + a.r) f (behind_as (mark_in b a.marks.now q a.r)) (colour_in b a.colours.now q a.r)
    (c.requires.ready.extent.right_of (b.left + q) (b.first + a.r) (omega (arith, column, c.requires.block.columns)) (omega (arith, c.requires.row, c.requires.block.rows)) (omega (arith, behind, column, c.loop-q-test.false, c.columns_to-end.ensures))))
