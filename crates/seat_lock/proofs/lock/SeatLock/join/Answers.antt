use Rattle.std.proofs.Common.{rules, ap}
use Rattle.seat_lock.proofs.Sharing.{unites}
use Rattle.seat_lock.proofs.lock.SeatLock.join.Goals as goal

pub returns-clause-numbers : goal.returns-clause-numbers
returns-clause-numbers g c =
    (unites c.args.into.now.seat.me.0 c.args.other.seat.me.0 c.recall.new.seat.me.0 c.recall-2.new.seat.me.0 c.recall-3.new.seat.me.0
    (ap (λ m. m.0) c.recall.ensures.same) (ap (λ m. m.0) c.recall-2.ensures.same) (search rules)
    c.recall.ensures.sound c.recall-2.ensures.sound c.recall-3.ensures.sound).numbers

pub returns-clause-kept : goal.returns-clause-kept
returns-clause-kept g c =
    (unites c.args.into.now.seat.me.0 c.args.other.seat.me.0 c.recall.new.seat.me.0 c.recall-2.new.seat.me.0 c.recall-3.new.seat.me.0
    (ap (λ m. m.0) c.recall.ensures.same) (ap (λ m. m.0) c.recall-2.ensures.same) (search rules)
    c.recall.ensures.sound c.recall-2.ensures.sound c.recall-3.ensures.sound).kept

pub returns-clause-gained : goal.returns-clause-gained
returns-clause-gained g c =
    (unites c.args.into.now.seat.me.0 c.args.other.seat.me.0 c.recall.new.seat.me.0 c.recall-2.new.seat.me.0 c.recall-3.new.seat.me.0
    (ap (λ m. m.0) c.recall.ensures.same) (ap (λ m. m.0) c.recall-2.ensures.same) (search rules)
    c.recall.ensures.sound c.recall-2.ensures.sound c.recall-3.ensures.sound).gained

pub returns-clause-front : goal.returns-clause-front
returns-clause-front g c =
    (unites c.args.into.now.seat.me.0 c.args.other.seat.me.0 c.recall.new.seat.me.0 c.recall-2.new.seat.me.0 c.recall-3.new.seat.me.0
    (ap (λ m. m.0) c.recall.ensures.same) (ap (λ m. m.0) c.recall-2.ensures.same) (search rules)
    c.recall.ensures.sound c.recall-2.ensures.sound c.recall-3.ensures.sound).front

pub returns-clause-other_front : goal.returns-clause-other_front
returns-clause-other_front g c =
    (unites c.args.into.now.seat.me.0 c.args.other.seat.me.0 c.recall.new.seat.me.0 c.recall-2.new.seat.me.0 c.recall-3.new.seat.me.0
    (ap (λ m. m.0) c.recall.ensures.same) (ap (λ m. m.0) c.recall-2.ensures.same) (search rules)
    c.recall.ensures.sound c.recall-2.ensures.sound c.recall-3.ensures.sound).other_front

pub returns-clause-found : goal.returns-clause-found
returns-clause-found g c =
    (unites c.args.into.now.seat.me.0 c.args.other.seat.me.0 c.recall.new.seat.me.0 c.recall-2.new.seat.me.0 c.recall-3.new.seat.me.0
    (ap (λ m. m.0) c.recall.ensures.same) (ap (λ m. m.0) c.recall-2.ensures.same) (search rules)
    c.recall.ensures.sound c.recall-2.ensures.sound c.recall-3.ensures.sound).found

pub returns-clause-other_found : goal.returns-clause-other_found
returns-clause-other_found g c =
    (unites c.args.into.now.seat.me.0 c.args.other.seat.me.0 c.recall.new.seat.me.0 c.recall-2.new.seat.me.0 c.recall-3.new.seat.me.0
    (ap (λ m. m.0) c.recall.ensures.same) (ap (λ m. m.0) c.recall-2.ensures.same) (search rules)
    c.recall.ensures.sound c.recall-2.ensures.sound c.recall-3.ensures.sound).other_found
