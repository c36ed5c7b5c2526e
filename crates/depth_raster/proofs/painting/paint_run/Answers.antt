use Rattle.std.proofs.Common.{◌≡◌, ℕ, ◌+◌, ◌-◌, ◌<◌, Some, length, get_or, ap, sym, ◌∙◌, subst, arith}
use Rattle.std.proofs.lemmas.Option.{slice_get-get_or}
use Rattle.depth_raster.specs.Blocks.{colour_in}
use Rattle.depth_raster.specs.Marks.{no_mark}
use Rattle.depth_raster.specs.Pieces.{IsRanked}
use Rattle.depth_raster.specs.Tiles.{mark_in, painted_within, kept_within, hit_within}
use Rattle.depth_raster.specs.declared.pieces.Piece.{Piece}
use Rattle.depth_raster.proofs.Following.{span_kept, span_weaker}
use Rattle.depth_raster.proofs.Painted.{hit_coloured, old_coloured, unranked_coloured}
use Rattle.depth_raster.proofs.painting.paint_run.Goals as goal

pub returns-then-rank-eq0 : goal.returns-then-rank-eq0
returns-then-rank-eq0 c =
    let a = c.args in
    let b = a.block.now in
    let run = a.run.now in
    span_weaker b (colour_in b a.colours.now) (colour_in b c.paint_old.new.colours) (kept_within a.back b a.marks.now) (painted_within a.lens.now a.back a.pieces.now b a.marks.now) run.r run.start run.end c.paint_old.ensures
    (λ q lo hi column before after kept.
    let rank = (get_or a.marks.now c.place-place.result no_mark).rank in
    let same : (mark_in b a.marks.now q run.r).rank ≡ rank = c.requires.ranks q lo hi ∙ ap (λ (i : ℕ). (get_or a.marks.now i no_mark).rank) (sym c.place-place.ensures) in
    old_coloured a.lens.now (b.left + q) (b.first + run.r) a.back a.pieces.now (mark_in b a.marks.now q run.r) before after (omega (arith, same)) kept)

pub returns-then-rank-pieces : goal.returns-then-rank-pieces
returns-then-rank-pieces c =
    let a = c.args in
    let b = a.block.now in
    let run = a.run.now in
    let p = c.index-pieces-index.result in
    span_weaker b (colour_in b a.colours.now) (colour_in b c.paint_piece.new.colours) (hit_within a.lens.now p b) (painted_within a.lens.now a.back a.pieces.now b a.marks.now) run.r run.start run.end c.paint_piece.ensures
    (λ q lo hi column before after shaded.
    let rank = (get_or a.marks.now c.place-place.result no_mark).rank in
    let same : (mark_in b a.marks.now q run.r).rank ≡ rank = c.requires.ranks q lo hi ∙ ap (λ (i : ℕ). (get_or a.marks.now i no_mark).rank) (sym c.place-place.ensures) in
    let ranked : IsRanked a.pieces.now p (mark_in b a.marks.now q run.r).rank =
    subst (λ (n : ℕ). IsRanked a.pieces.now p n) (sym same)
    (record { some = omega arith; at = slice_get-get_or a.pieces.now (rank - 1) p (omega arith) ∙ ap (λ (r : Piece). Some r) (sym c.index-pieces-index.is) }) in
    hit_coloured a.lens.now (b.left + q) (b.first + run.r) a.back a.pieces.now (mark_in b a.marks.now q run.r) before after p ranked shaded)

pub returns-else-rank-pieces : goal.returns-else-rank-pieces
returns-else-rank-pieces c =
    let a = c.args in
    let b = a.block.now in
    let run = a.run.now in
    span_kept b (colour_in b a.colours.now) (painted_within a.lens.now a.back a.pieces.now b a.marks.now) run.r run.start run.end
    (λ q lo hi column.
    let rank = (get_or a.marks.now c.place-place.result no_mark).rank in
    let same : (mark_in b a.marks.now q run.r).rank ≡ rank = c.requires.ranks q lo hi ∙ ap (λ (i : ℕ). (get_or a.marks.now i no_mark).rank) (sym c.place-place.ensures) in
    let beyond : length a.pieces.now < (mark_in b a.marks.now q run.r).rank = omega (arith, same) in
    unranked_coloured a.lens.now (b.left + q) (b.first + run.r) a.back a.pieces.now (mark_in b a.marks.now q run.r) (colour_in b a.colours.now q run.r) (colour_in b a.colours.now q run.r) beyond)
