use Rattle.std.proofs.Common.{◌≡◌, ◌<◌, ◌≤◌, ℕ, ◌+◌, ◌*◌, ◌/◌, get_or, arith, sym, ap, ◌∙◌, subst}
use Rattle.std.proofs.Math.Nat.{div-mul-le_self}
use mathlib.Core.Logic.{dite}
use native.Mathlib.Decide.{ℕ_discrete}
use Rattle.geo_lease.proofs.Tracking.{some_free}
use Rattle.geo_lease.proofs.keeper.Keeper.lowest_free.Goals as goal

pub loop-slot-preserved : goal.loop-slot-preserved
loop-slot-preserved g c j low below =
    let keeper = c.args.self.now in
    let taken : keeper.seen < get_or keeper.last.items c.loop-slot.slot 0 = c.if-is_free.ensures in
    dite (ℕ_discrete j c.loop-slot.slot)
    (λ e. subst (λ (k : ℕ). keeper.seen < get_or keeper.last.items k 0) (sym e) taken)
    (λ n. c.loop-slot.invariant j low (omega arith))

pub returns-then-is_free-clause-lowest : goal.returns-then-is_free-clause-lowest
returns-then-is_free-clause-lowest g c j lt its =
    let keeper = c.args.self.now in
    let wide : c.args.geode * (c.from-width.result + 1) ≡ c.args.geode * (keeper.ahead + 1) = ap (λ (n : ℕ). c.args.geode * (n + 1)) c.from-width.ensures in
    let low : j / (keeper.ahead + 1) * (keeper.ahead + 1) ≤ j = div-mul-le_self j (keeper.ahead + 1) in
    let same : j / (keeper.ahead + 1) * (keeper.ahead + 1) ≡ c.args.geode * (keeper.ahead + 1) = ap (λ (n : ℕ). n * (keeper.ahead + 1)) its in
    let first : c.args.geode * (c.from-width.result + 1) ≤ j = subst (λ (n : ℕ). n ≤ j) (same ∙ sym wide) low in
    c.loop-slot.invariant j first lt

pub unreachable-requires : goal.unreachable-requires
unreachable-requires g c =
    let keeper = c.args.self.now in
    let width : c.from-width.result ≡ keeper.ahead = c.from-width.ensures in
    some_free keeper.seat.me.0 keeper.ahead keeper.seen keeper.granted keeper.current.items keeper.last.items keeper.tracks c.args.geode
    (λ j low below. c.loop-slot.invariant j
    (subst (λ (n : ℕ). c.args.geode * (n + 1) ≤ j) (sym width) low)
    (let top : c.args.geode * (c.from-width.result + 1) + (c.from-width.result + 1) ≤ c.loop-slot.slot = c.loop-slot-test.false in
    let end : j < c.args.geode * (c.from-width.result + 1) + (c.from-width.result + 1) = subst (λ (n : ℕ). j < c.args.geode * (n + 1) + (n + 1)) (sym width) below in
    omega arith))
