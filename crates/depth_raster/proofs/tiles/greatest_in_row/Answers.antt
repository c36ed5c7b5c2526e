use Rattle.std.proofs.Common.{ℕ, ◌≤◌, get_or, ap, arith, ⊎_elim}
use Rattle.std.proofs.lemmas.Bool.{cases_eq}
use Rattle.depth_raster.specs.Marks.{no_mark}
use Rattle.depth_raster.specs.Tiles.{mark_in}
use Rattle.depth_raster.proofs.tiles.greatest_in_row.Goals as goal

pub loop-q-preserved : goal.loop-q-preserved
loop-q-preserved c =
    let a = c.args in
    let b = a.block.now in
    let here : (mark_in b a.marks.now c.loop-q.q a.r).depth ≤ c.greater-greatest.result =
    omega (arith, c.greater-greatest.ensures.second, ap (λ (i : ℕ). (get_or a.marks.now i no_mark).depth) c.place-place.ensures) in
    λ k below. ⊎_elim
    (λ same. omega (arith, here, ap (λ (n : ℕ). (mark_in b a.marks.now n a.r).depth) same))
    (λ apart. omega (arith, c.loop-q.invariant k (omega (arith, apart, below)), c.greater-greatest.ensures.first))
    (cases_eq k c.loop-q.q)
