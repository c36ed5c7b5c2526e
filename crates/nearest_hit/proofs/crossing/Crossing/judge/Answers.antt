use Rattle.std.proofs.Common.{◌≡◌, ◌∙◌, true, sym, subst, arith, ℤ}
use Rattle.std.proofs.lemmas.Int.{ints, to_z-of_z}
use Rattle.nearest_hit.specs.Crossings.{is_crossed}
use Rattle.nearest_hit.specs.Crossed.{edges_of}
use Rattle.nearest_hit.proofs.Crossed.{IsTime, crossed_sum, time_in_range, judged_crossed, judged_missed}
use Rattle.nearest_hit.proofs.crossing.Crossing.judge.Goals as goal

pub time-requires : goal.time-requires
time-requires c = crossed_sum c.args.self.now.volume (edges_of c.args.self.now) (sym c.is_crossed.ensures ∙ c.if-is_crossed.true)

pub overflow_cast-result : goal.overflow_cast-result
overflow_cast-result c =
    let range : IsTime c.time.result =
    subst (λ (z : ℤ). IsTime z) (sym c.time.ensures) (time_in_range c.args.self.now.volume (edges_of c.args.self.now) (sym c.is_crossed.ensures ∙ c.if-is_crossed.true)) in
    omega (arith, ints)

pub returns-then-is_crossed-clause-value : goal.returns-then-is_crossed-clause-value
returns-then-is_crossed-clause-value c =
    let crossed : is_crossed c.args.self.now.volume (edges_of c.args.self.now) ≡ true = sym c.is_crossed.ensures ∙ c.if-is_crossed.true in
    let range : IsTime c.time.result =
    subst (λ (z : ℤ). IsTime z) (sym c.time.ensures) (time_in_range c.args.self.now.volume (edges_of c.args.self.now) crossed) in
    grind (arith, to_z-of_z, judged_crossed c.args.self.now.volume (edges_of c.args.self.now) crossed, c.time.ensures)

pub returns-then-is_crossed-clause-bound : goal.returns-then-is_crossed-clause-bound
returns-then-is_crossed-clause-bound c =
    let range : IsTime c.time.result =
    subst (λ (z : ℤ). IsTime z) (sym c.time.ensures) (time_in_range c.args.self.now.volume (edges_of c.args.self.now) (sym c.is_crossed.ensures ∙ c.if-is_crossed.true)) in
    omega (arith, ints)

pub returns-else-is_crossed-clause-value : goal.returns-else-is_crossed-clause-value
returns-else-is_crossed-clause-value c =
    sym (judged_missed c.args.self.now.volume (edges_of c.args.self.now) (sym c.is_crossed.ensures ∙ c.if-is_crossed.false))
