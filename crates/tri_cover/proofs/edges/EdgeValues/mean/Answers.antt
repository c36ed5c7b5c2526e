use Rattle.std.proofs.Common.{◌≡◌, ℤ, pos, ◌+ℤ◌, ◌*ℤ◌, arith, sym, subst}
use Rattle.std.proofs.lemmas.Int.{ints, to_z-of_z}
use Rattle.fx_math.specs.Fixed.{floor_div}
use Rattle.fx_math.specs.Hit.{sum_of}
use Rattle.tri_cover.specs.Edges.{edges_of}
use Rattle.tri_cover.proofs.Weights.{IsByte, mean_is_byte}
use Rattle.tri_cover.proofs.edges.EdgeValues.mean.Goals as goal

pub overflow_cast-result : goal.overflow_cast-result
overflow_cast-result c =
    let e = edges_of c.args.self.now in
    let some : sum_of e ≡ pos 0 → ⊥ = λ h. c.requires.some (grind arith) in
    let is : c.floor_div.result ≡ floor_div (pos c.args.c0 *ℤ e.e0 +ℤ pos c.args.c1 *ℤ e.e1 +ℤ pos c.args.c2 *ℤ e.e2) (sum_of e) = grind (arith, to_z-of_z) in
    let byte : IsByte c.floor_div.result = subst (λ (z : ℤ). IsByte z) (sym is) (mean_is_byte e c.args.c0 c.args.c1 c.args.c2 c.requires.signs some (omega arith) (omega arith) (omega arith)) in
    omega (arith, ints)
