-- A frame is begun, or not.
use Rattle.std.proofs.Common.{sym, subst}
use Rattle.frame_stages.specs.AppWorks.{AppWork, work_of}
use Rattle.frame_stages.specs.AppAnswers.{around, MayWant, Polled}
use Rattle.frame_stages.proofs.AppPolled.{out}
use Rattle.frame_stages.proofs.AppTakes.{load_waits, taken_none, taken_some}
use Rattle.frame_stages.proofs.application.Application.frame.Goals as goal

pub returns-in_default-clause-polled : goal.returns-in_default-clause-polled
returns-in_default-clause-polled g c = λ ends.
    out (g.D.Desk.number c.args.desk.now) (work_of c.args.self.now) (work_of (record c.args.self.now { flight = c.make_room.new.self })) (g.D.Desk.seen c.args.desk.now) (g.D.Desk.seen c.stop.new.desk) (g.D.Desk.told c.args.desk.now) (g.D.Desk.told c.stop.new.desk) ends (subst MayWant (sym c.requires.next) tt) c.requires.bare
    c.stop.ensures.marks (λ holds right. c.stop.ensures.counted holds) (taken_none c.args.self.now c.make_room.new.self c.make_room.ensures.same)

pub returns-in-None-clause-polled : goal.returns-in-None-clause-polled
returns-in-None-clause-polled g c = λ ends.
    load_waits (g.D.Desk.number c.args.desk.now) c.args.self.now c.make_room.new.self c.take_load.new.self (g.D.Desk.seen c.args.desk.now) (g.D.Desk.told c.args.desk.now) ends c.requires.bare c.requires.next c.requires.synced
    c.make_room.ensures.same c.in-None.ensures.none.1 c.in-None.ensures.none.0

pub returns-then-is_for-clause-polled : goal.returns-then-is_for-clause-polled
returns-then-is_for-clause-polled g c = λ ends.
    subst (λ (v : AppWork). Polled (g.D.Desk.number c.args.desk.now) c.frame_with.result v (work_of c.frame_with.new.self) (around (g.D.Desk.seen c.args.desk.now) (g.D.Desk.told c.args.desk.now) ends) (around (g.D.Desk.seen c.frame_with.new.desk) (g.D.Desk.told c.frame_with.new.desk) ends))
    (taken_some c.args.self.now c.make_room.new.self c.take_load.new.self c.in-Some.load c.make_room.ensures.same c.take_load.ensures.same c.in-Some.ensures.some) (c.frame_with.ensures.polled ends)

pub returns-else-is_for-clause-polled : goal.returns-else-is_for-clause-polled
returns-else-is_for-clause-polled g c = λ ends.
    subst (λ (v : AppWork). Polled (g.D.Desk.number c.args.desk.now) c.frame_anew.result v (work_of c.frame_anew.new.self) (around (g.D.Desk.seen c.args.desk.now) (g.D.Desk.told c.args.desk.now) ends) (around (g.D.Desk.seen c.frame_anew.new.desk) (g.D.Desk.told c.frame_anew.new.desk) ends))
    (taken_some c.args.self.now c.make_room.new.self c.take_load.new.self c.in-Some.load c.make_room.ensures.same c.take_load.ensures.same c.in-Some.ensures.some) (c.frame_anew.ensures.polled ends)
