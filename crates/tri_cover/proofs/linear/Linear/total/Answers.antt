use Rattle.std.proofs.Common.{arith}
use Rattle.std.proofs.lemmas.Int.{ints}
use Rattle.tri_cover.proofs.linear.Linear.total.Goals as goal

pub returns : goal.returns
returns c = record {
  a_is = omega (arith, ints, c.slope.ensures.value);
  b_is = omega (arith, ints, c.slope-2.ensures.value);
  c_is = omega (arith, ints, c.constant.ensures.value);
}
