use Rattle.std.proofs.Common.{ℕ, ◌≤◌, ap, arith, ⊎_elim}
use Rattle.std.proofs.lemmas.Bool.{cases_eq}
use Rattle.depth_raster.specs.Tiles.{mark_in}
use Rattle.depth_raster.specs.declared.marks.Mark.{Mark}
use Rattle.depth_raster.proofs.Topped.{all_marks}
use Rattle.depth_raster.proofs.tiles.greatest_within.Goals as goal

pub loop-r-preserved : goal.loop-r-preserved
loop-r-preserved c =
    let a = c.args in
    let b = a.block.now in
    λ q s column below. ⊎_elim
    (λ same. omega (arith, c.greatest_in_row-depth.ensures q column, c.greater-greatest.ensures.second, ap (λ (n : ℕ). (mark_in b a.marks.now q n).depth) same))
    (λ apart. omega (arith, c.loop-r.invariant q s column (omega (arith, apart, below)), c.greater-greatest.ensures.first))
    (cases_eq s c.loop-r.r)

pub returns : goal.returns
returns c = all_marks (λ (m : Mark). m.depth ≤ c.loop-r.greatest) c.args.block.now c.args.marks.now c.requires.len
    (λ q s column below. c.loop-r.invariant q s column (omega (arith, below)))
