use Rattle.std.proofs.Common.{◌≡◌, ◌^◌, ◌<◌, ap, ◌∙◌, arith, rules, w64, FitsSigned, to_z, of_z}
use Rattle.std.specs.Prelude.{ℤ, pos, ◌+ℤ◌, ◌*ℤ◌, ◌≤ℤ◌, unsigned_abs}
use Rattle.std.proofs.lemmas.Int.{ints, to_z-of_z}
use Rattle.fx_math.specs.Within.{IsWithin}
use Rattle.fx_math.specs.Fixed.{floor_div}
use Rattle.tri_cover.proofs.Ceilings.{ceil_same, ceil_next, quotient_small, multiple_small, less_of, not_less_of}
use Rattle.tri_cover.proofs.seen.around.Goals as goal

-- what the numbers of a division keep in 64 bits
record AreKept (n d q : ℤ) : Type 0 where
  dividend : to_z w64 (of_z w64 n) ≡ n
  divisor : to_z w64 (of_z w64 d) ≡ d
  quotient : to_z w64 (of_z w64 q) ≡ q
  is : q ≡ floor_div n d
  bound : IsWithin (2 ^ 60) q
  within : IsWithin (2 ^ 61) (d *ℤ q)
  product : to_z w64 (of_z w64 (to_z w64 (of_z w64 d) *ℤ to_z w64 (of_z w64 q))) ≡ d *ℤ q

fits : (z : ℤ) → IsWithin (2 ^ 61) z → FitsSigned w64 z
fits z h = omega (arith, ints, h.size)

kept : (n d q : ℤ) → FitsSigned w64 n → FitsSigned w64 d → FitsSigned w64 q → pos 1 ≤ℤ d → IsWithin (2 ^ 32) d → unsigned_abs n < 2 ^ 60
    → q ≡ floor_div (to_z w64 (of_z w64 n)) (to_z w64 (of_z w64 d)) → AreKept n d q
kept n d q fn fd fq some divisor small e =
    let is : q ≡ floor_div n d = e ∙ ap (λ (x : ℤ). floor_div x (to_z w64 (of_z w64 d))) (to_z-of_z w64 n fn) ∙ ap (λ (x : ℤ). floor_div n x) (to_z-of_z w64 d fd) in
    let within : IsWithin (2 ^ 61) (d *ℤ q) = multiple_small n d q some divisor is small in
    record {
      dividend = to_z-of_z w64 n fn;
      divisor = to_z-of_z w64 d fd;
      quotient = to_z-of_z w64 q fq;
      is = is;
      bound = quotient_small n d q some is small;
      within = within;
      product = rw (to_z-of_z w64 d fd, to_z-of_z w64 q fq) (to_z-of_z w64 (d *ℤ q) (fits (d *ℤ q) within));
    }

pub overflow_mul-d : goal.overflow_mul-d
overflow_mul-d c =
    let q : FitsSigned w64 c.floor_quotient-last.result = search rules in
    let k : AreKept c.args.n c.args.d c.floor_quotient-last.result =
    kept _ _ _ c.ranges.n c.ranges.d q c.requires.some c.requires.divisor c.requires.small c.floor_quotient-last.ensures in
    rw (k.divisor, k.quotient) (fits _ k.within)

pub overflow_add-first : goal.overflow_add-first
overflow_add-first c =
    let q : FitsSigned w64 c.floor_quotient-last.result = search rules in
    let k : AreKept c.args.n c.args.d c.floor_quotient-last.result =
    kept _ _ _ c.ranges.n c.ranges.d q c.requires.some c.requires.divisor c.requires.small c.floor_quotient-last.ensures in
    omega (arith, ints, k.bound.size, k.quotient)

pub returns-then-d-last-clause-first : goal.returns-then-d-last-clause-first
returns-then-d-last-clause-first c =
    let q : FitsSigned w64 c.floor_quotient-last.result = search rules in
    let k : AreKept c.args.n c.args.d c.floor_quotient-last.result =
    kept _ _ _ c.ranges.n c.ranges.d q c.requires.some c.requires.divisor c.requires.small c.floor_quotient-last.ensures in
    let next : to_z w64 (of_z w64 (to_z w64 (of_z w64 c.floor_quotient-last.result) +ℤ pos 1)) ≡ c.floor_quotient-last.result +ℤ pos 1 = omega (arith, ints, k.bound.size, k.quotient) in
    next ∙ ceil_next c.args.n c.args.d c.floor_quotient-last.result c.requires.some k.is (less_of _ _ _ _ k.product k.dividend c.if-d-last.true)

pub returns-else-d-last-clause-first : goal.returns-else-d-last-clause-first
returns-else-d-last-clause-first c =
    let q : FitsSigned w64 c.floor_quotient-last.result = search rules in
    let k : AreKept c.args.n c.args.d c.floor_quotient-last.result =
    kept _ _ _ c.ranges.n c.ranges.d q c.requires.some c.requires.divisor c.requires.small c.floor_quotient-last.ensures in
    k.quotient ∙ ceil_same c.args.n c.args.d c.floor_quotient-last.result c.requires.some k.is (not_less_of _ _ _ _ k.product k.dividend c.if-d-last.false)
