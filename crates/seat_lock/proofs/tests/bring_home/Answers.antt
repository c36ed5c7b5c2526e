use Rattle.std.proofs.Common.{◌≡◌, ℕ, ◌+◌, ◌<◌, arith, subst}
use Rattle.seat_lock.specs.declared.view.View.{View}
use Rattle.seat_lock.specs.Log.{Found}
use Rattle.seat_lock.specs.View.{answering}
use Rattle.seat_lock.proofs.Logs.{found-trans}
use Rattle.seat_lock.proofs.tests.bring_home.Goals as goal

pub returns-clause-first : goal.returns-clause-first
returns-clause-first g c =
    let v : View ℕ = c.into_pass-into.result.seat.me.0 in
    let w : View ℕ = c.into_pass-other.result.seat.me.0 in
    let u : View ℕ = c.join.new.into.seat.me.0 in
    let own : 0 < answering v.number v = c.into_pass-into.ensures.sound.own in
    let sum : answering v.number u ≡ answering v.number v + answering v.number w = c.join.ensures.numbers v.number in
    subst (λ (z : View ℕ). Found z.number z.seen c.close.result.entries.items) c.into_pass-into.ensures.view
    (found-trans v.number v.seen u.seen c.close.result.entries.items (c.join.ensures.found v.number own) (c.close.ensures.found v.number (omega arith)))

pub returns-clause-second : goal.returns-clause-second
returns-clause-second g c =
    let v : View ℕ = c.into_pass-into.result.seat.me.0 in
    let w : View ℕ = c.into_pass-other.result.seat.me.0 in
    let u : View ℕ = c.join.new.into.seat.me.0 in
    let own : 0 < answering w.number w = c.into_pass-other.ensures.sound.own in
    let sum : answering w.number u ≡ answering w.number v + answering w.number w = c.join.ensures.numbers w.number in
    subst (λ (z : View ℕ). Found z.number z.seen c.close.result.entries.items) c.into_pass-other.ensures.view
    (found-trans w.number w.seen u.seen c.close.result.entries.items (c.join.ensures.other_found w.number own) (c.close.ensures.found w.number (omega arith)))
