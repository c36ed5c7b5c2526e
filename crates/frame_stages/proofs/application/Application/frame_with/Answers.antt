-- A frame is begun with a load, or not.
use Rattle.std.proofs.Common.{sym, subst}
use Rattle.frame_stages.specs.AppTurns.{Marks}
use Rattle.frame_stages.specs.AppWorks.{work_of, with_load}
use Rattle.frame_stages.proofs.AppGoes.{first_kept}
use Rattle.frame_stages.specs.AppAnswers.{MayWant}
use Rattle.frame_stages.proofs.AppPolled.{out, marks_later}
use Rattle.frame_stages.proofs.AppTakes.{frame_begun, frame_waits, frame_barred, put_same, put_again}
use Rattle.frame_stages.proofs.application.Application.frame_with.Goals as goal

pub returns-in-Entered-clause-polled : goal.returns-in-Entered-clause-polled
returns-in-Entered-clause-polled g c = λ ends.
    frame_begun (g.D.Desk.number c.args.desk.now) c.ahead.result c.args.self.now c.begin.new.self c.args.load c.args.load c.make_frame.new.load (g.D.Desk.seen c.args.desk.now) (g.D.Desk.seen c.make_frame.new.desk) (g.D.Desk.told c.args.desk.now) (g.D.Desk.told c.make_frame.new.desk) ends c.requires.bare c.requires.going c.requires.synced c.requires.next c.requires.waited
    c.requires.ready c.begin.ensures c.ahead.ensures c.in-Entered.ensures.came c.make_frame.ensures.counted

pub returns-in-NotNow-clause-polled : goal.returns-in-NotNow-clause-polled
returns-in-NotNow-clause-polled g c = λ ends.
    let t = c.in-NotNow.ensures.came in
    frame_waits (g.D.Desk.number c.args.desk.now) (with_load c.args.load (work_of c.args.self.now)) (work_of (record c.args.self.now { flight = c.put_back.new.self })) (g.D.Desk.seen c.args.desk.now) (g.D.Desk.seen c.make_frame.new.desk) (g.D.Desk.told c.args.desk.now) (g.D.Desk.told c.make_frame.new.desk) ends c.requires.bare c.requires.next c.requires.synced
    (put_same c.args.self.now c.put_back.new.self c.args.load c.make_frame.new.load t.0 c.put_back.ensures) (frame_barred (g.D.Desk.number c.args.desk.now) c.ahead.result c.args.self.now.flight.ahead c.args.load (g.D.Desk.seen c.args.desk.now) (g.D.Desk.seen c.make_frame.new.desk) (g.D.Desk.told c.args.desk.now) (g.D.Desk.told c.make_frame.new.desk) c.args.self.now.channels c.ahead.ensures c.requires.ready.lists t.1)

pub returns-in-NoMemory-clause-polled : goal.returns-in-NoMemory-clause-polled
returns-in-NoMemory-clause-polled g c = λ ends.
    let t = c.in-NoMemory.ensures.came in
    out (g.D.Desk.number c.args.desk.now) (with_load c.args.load (work_of c.args.self.now)) (work_of (record c.args.self.now { flight = c.put_back-in-NoMemory.new.self })) (g.D.Desk.seen c.args.desk.now) (g.D.Desk.seen c.stop.new.desk) (g.D.Desk.told c.args.desk.now) (g.D.Desk.told c.stop.new.desk) ends (subst MayWant (sym c.requires.next) tt) c.requires.bare
    (marks_later (g.D.Desk.number c.args.desk.now) (g.D.Desk.seen c.args.desk.now) (g.D.Desk.seen c.make_frame.new.desk) (g.D.Desk.seen c.stop.new.desk) (g.D.Desk.told c.args.desk.now) (g.D.Desk.told c.make_frame.new.desk) (g.D.Desk.told c.stop.new.desk) t.2
    (subst (λ k. Marks k (g.D.Desk.seen c.make_frame.new.desk) (g.D.Desk.told c.make_frame.new.desk) (g.D.Desk.seen c.stop.new.desk) (g.D.Desk.told c.stop.new.desk)) c.make_frame.ensures.number c.stop.ensures.marks))
    (λ holds right. c.stop.ensures.counted (c.make_frame.ensures.counted holds))
    (put_again c.args.self.now c.put_back-in-NoMemory.new.self c.args.load c.make_frame.new.load c.put_back-in-NoMemory.ensures)

pub put_back-requires-in-NoMemory-clause-first : goal.put_back-requires-in-NoMemory-clause-first
put_back-requires-in-NoMemory-clause-first g c =
    first_kept c.make_frame.new.load.lists c.args.load.lists c.in-NoMemory.ensures.came.0 c.requires.ready.first
