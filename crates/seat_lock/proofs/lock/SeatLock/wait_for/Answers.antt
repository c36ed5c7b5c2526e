use Rattle.std.proofs.Common.{◌≡◌, ◌∙◌, sym, ap, rules}
use Rattle.seat_lock.specs.declared.view.Phase.TheVariants.{Waiting}
use Rattle.seat_lock.proofs.Turning.{polls}
use Rattle.seat_lock.proofs.lock.SeatLock.wait_for.Goals as goal

pub load-served-requires : goal.load-served-requires
load-served-requires g c =
    let t = c.requires.waits.0 in
    let waits : c.loop.seat.me.0.phase ≡ Waiting t = ap (λ m. m.0.phase) c.loop.invariant.3 ∙ c.requires.waits.2 in
    (search rules, search rules, polls g.T.Logged.log _ c.loop.seat.id c.loop.seat.me t waits)

pub loop-preserved : goal.loop-preserved
loop-preserved g c =
    let t = c.requires.waits.0 in
    let waits : c.loop.seat.me.0.phase ≡ Waiting t = ap (λ m. m.0.phase) c.loop.invariant.3 ∙ c.requires.waits.2 in
    let told = c.load-served.ensures.2 t waits in
    (tt, tt, search rules, told.0 (λ e. c.if-served-ticket.false (e ∙ sym c.requires.waits.1)) ∙ c.loop.invariant.3)
