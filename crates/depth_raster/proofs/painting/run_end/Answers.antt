use Rattle.std.proofs.Common.{◌≡◌, ℕ, ap, ◌∙◌, arith, ⊎_elim}
use Rattle.std.proofs.lemmas.Bool.{cases_eq}
use Rattle.depth_raster.specs.Tiles.{mark_in}
use Rattle.depth_raster.proofs.painting.run_end.Goals as goal

pub loop-q-init : goal.loop-q-init
loop-q-init c = λ k lo hi.
    let a = c.args in
    ap (λ (n : ℕ). (mark_in a.block.now a.marks.now n a.r).rank) (omega (arith, lo, hi))

pub loop-q-preserved : goal.loop-q-preserved
loop-q-preserved c =
    let a = c.args in
    let b = a.block.now in
    let here : (mark_in b a.marks.now c.loop-q.q a.r).rank ≡ (mark_in b a.marks.now a.start a.r).rank = cc in
    λ k lo hi. ⊎_elim
    (λ same. ap (λ (n : ℕ). (mark_in b a.marks.now n a.r).rank) same ∙ here)
    (λ apart. c.loop-q.invariant k lo (omega (arith, apart, hi)))
    (cases_eq k c.loop-q.q)

pub returns-clause-ranks : goal.returns-clause-ranks
returns-clause-ranks c = λ k lo hi. c.loop-q.invariant k lo (omega (arith, lo, hi))

pub overflow_step-q : goal.overflow_step-q
overflow_step-q c = omega (arith, c.requires.column, c.requires.narrow)
