use Rattle.std.proofs.Common.{◌≡◌, ℕ, ◌∙◌, arith, rules, w64, FitsSigned, to_z, of_z}
use Rattle.std.specs.Prelude.{ℤ, pos, ◌≤ℤ◌, ◌<ℤ◌}
use Rattle.std.proofs.lemmas.Int.{ints, to_z-of_z}
use Rattle.tri_cover.specs.Extents.{least_of, greatest_of}
use Rattle.tri_cover.proofs.Ceilings.{less_of}
use Rattle.tri_cover.proofs.seen.span_of.Goals as goal

none_between : (least greatest : ℤ) (p : ℕ) → greatest <ℤ least → least ≤ℤ pos p → pos p ≤ℤ greatest → ⊥
none_between least greatest p h a b = omega (arith, ints, h, a, b)

pub returns-then-greatest-least : goal.returns-then-greatest-least
returns-then-greatest-least c =
    let first : FitsSigned w64 c.least-least.result = search rules in
    let last : FitsSigned w64 c.greatest-greatest.result = search rules in
    let p0 : FitsSigned w64 c.args.p.first = search rules in
    let q0 : FitsSigned w64 c.args.q.first = search rules in
    let r0 : FitsSigned w64 c.args.r.first = search rules in
    let p1 : FitsSigned w64 c.args.p.last = search rules in
    let q1 : FitsSigned w64 c.args.q.last = search rules in
    let r1 : FitsSigned w64 c.args.r.last = search rules in
    let least : to_z w64 (of_z w64 c.least-least.result) ≡ least_of c.args.p.first c.args.q.first c.args.r.first =
    to_z-of_z w64 _ first ∙ rw (to_z-of_z w64 _ p0, to_z-of_z w64 _ q0, to_z-of_z w64 _ r0) at c.least-least.ensures in
    let greatest : to_z w64 (of_z w64 c.greatest-greatest.result) ≡ greatest_of c.args.p.last c.args.q.last c.args.r.last =
    to_z-of_z w64 _ last ∙ rw (to_z-of_z w64 _ p1, to_z-of_z w64 _ q1, to_z-of_z w64 _ r1) at c.greatest-greatest.ensures in
    λ p fits a b. none_between _ _ p (less_of _ _ _ _ greatest least c.if-greatest-least.true) a b
