-- The closing Sync is made, or not.
use Rattle.std.proofs.Common.{inl, inr, rules, None, sym, subst, arith}
use Rattle.pf_scene.specs.Acts.{MaySync}
use Rattle.frame_stages.specs.AppTurns.{Marks}
use Rattle.frame_stages.specs.AppWorks.{work_of}
use Rattle.frame_stages.specs.AppAnswers.{MayWant}
use Rattle.frame_stages.proofs.AppTakes.{closed, close_waits, barred, unsent, wanting}
use Rattle.frame_stages.proofs.application.Application.close_turn.Goals as goal

pub returns-then-is_away-clause-polled : goal.returns-then-is_away-clause-polled
returns-then-is_away-clause-polled g c = λ ends back.
    let away = c.is_away.ensures.yes (search rules) in
    close_waits (g.D.Desk.number c.args.desk.now) (work_of c.args.self.now) (g.D.Desk.seen c.args.desk.now) (g.D.Desk.told c.args.desk.now) ends c.requires.bare c.requires.next (inl (back away, away))

pub returns-then-merges-self-clause-polled : goal.returns-then-merges-self-clause-polled
returns-then-merges-self-clause-polled g c = λ ends back.
    close_waits (g.D.Desk.number c.args.desk.now) (work_of c.args.self.now) (g.D.Desk.seen c.args.desk.now) (g.D.Desk.told c.args.desk.now) ends c.requires.bare c.requires.next (inr (inl (omega arith)))

pub returns-then-not-has_room-clause-polled : goal.returns-then-not-has_room-clause-polled
returns-then-not-has_room-clause-polled g c = λ ends back.
    close_waits (g.D.Desk.number c.args.desk.now) (work_of c.args.self.now) (g.D.Desk.seen c.args.desk.now) (g.D.Desk.told c.args.desk.now) ends c.requires.bare c.requires.next (inr (inr (inl (back, c.has_room.ensures.no (search rules)))))

pub returns-in-Entered-clause-polled : goal.returns-in-Entered-clause-polled
returns-in-Entered-clause-polled g c = λ ends back.
    closed (g.D.Desk.number c.args.desk.now) c.args.self.now c.sync.new.self (g.D.Desk.seen c.args.desk.now) (g.D.Desk.seen c.sync.new.desk) (g.D.Desk.told c.args.desk.now) (g.D.Desk.told c.sync.new.desk) ends c.requires.bare c.requires.going c.requires.whole c.requires.next c.requires.waited
    (c.is_away.ensures.no (search rules)) (c.has_room.ensures.yes (search rules)) (omega arith) c.sync.ensures.same c.in-Entered.ensures.home c.in-Entered.ensures.came c.sync.ensures.counted

pub returns-in-NotNow-clause-polled : goal.returns-in-NotNow-clause-polled
returns-in-NotNow-clause-polled g c = λ ends back.
    barred (g.D.Desk.number c.args.desk.now) (work_of c.args.self.now) (work_of (record c.args.self.now { flight = c.sync.new.self })) (λ s. MaySync s c.args.self.now.flight.written) (g.D.Desk.seen c.args.desk.now) (g.D.Desk.seen c.sync.new.desk) (g.D.Desk.told c.args.desk.now) (g.D.Desk.told c.sync.new.desk) ends None c.requires.bare c.requires.next
    (unsent c.args.self.now c.sync.new.self c.sync.ensures.same c.in-NotNow.ensures.home) c.in-NotNow.ensures.came (λ bars. inr (inr (inr bars)))

pub returns-in-NoMemory-clause-polled : goal.returns-in-NoMemory-clause-polled
returns-in-NoMemory-clause-polled g c = λ ends back.
    wanting (g.D.Desk.number c.args.desk.now) (work_of c.args.self.now) (work_of (record c.args.self.now { flight = c.sync.new.self })) (g.D.Desk.seen c.args.desk.now) (g.D.Desk.seen c.sync.new.desk) (g.D.Desk.seen c.stop.new.desk)
    (g.D.Desk.told c.args.desk.now) (g.D.Desk.told c.sync.new.desk) (g.D.Desk.told c.stop.new.desk) ends (subst MayWant (sym c.requires.next) tt) c.requires.bare (unsent c.args.self.now c.sync.new.self c.sync.ensures.same c.in-NoMemory.ensures.home) c.in-NoMemory.ensures.came
    (subst (λ k. Marks k (g.D.Desk.seen c.sync.new.desk) (g.D.Desk.told c.sync.new.desk) (g.D.Desk.seen c.stop.new.desk) (g.D.Desk.told c.stop.new.desk)) c.sync.ensures.number c.stop.ensures.marks)
    (λ holds right. c.stop.ensures.counted (c.sync.ensures.counted (right c.requires.whole) holds))
