use Rattle.std.proofs.Common.{◌≡◌, ℕ, false, not, eqb, sym, ◌∙◌, subst, arith}
use Rattle.std.proofs.lemmas.Bool.Decides.{nat_tests}
use Rattle.seat_lock.specs.Log.{Adds}
use Rattle.seat_lock.proofs.Told.{turned_by}
use Rattle.seat_lock.proofs.lock.SeatLock.turn.Goals as goal

same_length : (a b : ℕ) → not (eqb a b) ≡ false → a ≡ b
same_length a b e = grind (arith, nat_tests)

pub returns-clause-turned : goal.returns-clause-turned
returns-clause-turned g c =
    let v = c.args.pass.now.seat.me.0 in
    let log = g.T.Logged.log in
    let x = c.take-value.result in
    let y = c.act-reply.new.value in
    let number = sym c.args.pass.now.numbered.0 in
    turned_by log (g.A.Act.does c.args.act v.number) v c.take-value.new.seat.me c.hand_back.new.seat.me c.take-value.ensures.serving.0 x y c.act-reply.result _
    c.args.pass.now.rests.0 c.take-value.ensures.finds c.take-value.ensures.serving.1
    (subst (λ (k : ℕ). g.A.Act.does c.args.act k x y c.act-reply.result) number c.act-reply.ensures.does)
    (subst (λ (k : ℕ). Adds k (log x) (log y)) number c.act-reply.ensures.adds)
    (λ e. sym c.entries.ensures ∙ (same_length c.entries.result c.entries-before.result e ∙ c.entries-before.ensures))
    c.hand_back.ensures.noted
