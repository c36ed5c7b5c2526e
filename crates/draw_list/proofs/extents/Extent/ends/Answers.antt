use Rattle.std.proofs.Common.{◌≡◌, to_z, of_z, w32, arith}
use Rattle.std.specs.Prelude.{pos, ◌≤ℤ◌}
use Rattle.std.proofs.lemmas.Int.{ints, to_z-of_z}
use Rattle.draw_list.proofs.ExtentLaws.{least_in_order, greatest_in_order, least_turned_round, greatest_turned_round}
use Rattle.draw_list.proofs.extents.Extent.ends.Goals as goal

pub returns-then-factor-lt0-clause-least : goal.returns-then-factor-lt0-clause-least
returns-then-factor-lt0-clause-least c =
    let at : to_z w32 (of_z w32 c.args.factor) ≡ c.args.factor = to_z-of_z w32 c.args.factor c.ranges.factor in
    let sign : c.args.factor ≤ℤ pos 0 = omega (arith, ints, at, c.if-factor-lt0.true) in
    grind (arith, to_z-of_z, least_turned_round c.args.self.lo c.args.self.hi c.args.factor c.args.self.ordered sign)

pub returns-then-factor-lt0-clause-greatest : goal.returns-then-factor-lt0-clause-greatest
returns-then-factor-lt0-clause-greatest c =
    let at : to_z w32 (of_z w32 c.args.factor) ≡ c.args.factor = to_z-of_z w32 c.args.factor c.ranges.factor in
    let sign : c.args.factor ≤ℤ pos 0 = omega (arith, ints, at, c.if-factor-lt0.true) in
    grind (arith, to_z-of_z, greatest_turned_round c.args.self.lo c.args.self.hi c.args.factor c.args.self.ordered sign)

pub returns-clause-least : goal.returns-clause-least
returns-clause-least c =
    let at : to_z w32 (of_z w32 c.args.factor) ≡ c.args.factor = to_z-of_z w32 c.args.factor c.ranges.factor in
    let sign : pos 0 ≤ℤ c.args.factor = omega (arith, ints, at, c.if-factor-lt0.false) in
    grind (arith, to_z-of_z, least_in_order c.args.self.lo c.args.self.hi c.args.factor c.args.self.ordered sign)

pub returns-clause-greatest : goal.returns-clause-greatest
returns-clause-greatest c =
    let at : to_z w32 (of_z w32 c.args.factor) ≡ c.args.factor = to_z-of_z w32 c.args.factor c.ranges.factor in
    let sign : pos 0 ≤ℤ c.args.factor = omega (arith, ints, at, c.if-factor-lt0.false) in
    grind (arith, to_z-of_z, greatest_in_order c.args.self.lo c.args.self.hi c.args.factor c.args.self.ordered sign)
