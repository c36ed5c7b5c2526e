use Rattle.std.proofs.Common.{ℕ, ◌+◌, ◌-◌, Some, ap, sym, ◌∙◌, subst, arith}
use Rattle.std.proofs.lemmas.Option.{slice_get-get_or}
use Rattle.depth_raster.specs.Blocks.{colour_in}
use Rattle.depth_raster.specs.Pieces.{IsRanked}
use Rattle.depth_raster.specs.Tiles.{mark_in}
use Rattle.depth_raster.specs.declared.pieces.Piece.{Piece}
use Rattle.depth_raster.proofs.Owing.{kept_before}
use Rattle.depth_raster.proofs.Painted.{hit_coloured, old_coloured, unranked_coloured}
use Rattle.depth_raster.proofs.covered.paint_covered.Goals as goal

pub returns-then-rank-eq0 : goal.returns-then-rank-eq0
returns-then-rank-eq0 c = λ back marks shown q r column row.
    let a = c.args in
    let b = a.block.now in
    let m = mark_in b marks q r in
    let is = shown q r column row in
    let colour = colour_in b a.colours.now q r in
    old_coloured a.lens.now (b.left + q) (b.first + r) back a.pieces.now m colour colour (omega (arith, is.rank_is)) (sym (kept_before back m colour is.before))

pub returns-then-pieces-rank : goal.returns-then-pieces-rank
returns-then-pieces-rank c = λ back marks shown q r column row.
    let a = c.args in
    let b = a.block.now in
    let colour = colour_in b a.colours.now q r in
    unranked_coloured a.lens.now (b.left + q) (b.first + r) back a.pieces.now (mark_in b marks q r) colour colour (omega (arith, (shown q r column row).rank_is))

pub returns : goal.returns
returns c = λ back marks shown q r column row.
    let a = c.args in
    let b = a.block.now in
    let m = mark_in b marks q r in
    let is = shown q r column row in
    let p = c.index-pieces-rank.result in
    let ranked : IsRanked a.pieces.now p m.rank = subst (λ (n : ℕ). IsRanked a.pieces.now p n) (sym is.rank_is)
    (record { some = omega arith; at = slice_get-get_or a.pieces.now (a.rank - 1) p (omega arith) ∙ ap (λ (x : Piece). Some x) (sym c.index-pieces-rank.is) }) in
    hit_coloured a.lens.now (b.left + q) (b.first + r) back a.pieces.now m (colour_in b a.colours.now q r) (colour_in b c.paint_whole.new.colours q r) p ranked (c.paint_whole.ensures q r column row)
