-- A Sync is made, or not.
use Rattle.std.proofs.Common.{rules, subst}
use Rattle.frame_stages.specs.AppTurns.{Marks}
use Rattle.frame_stages.specs.Scripts.{next_step}
use Rattle.frame_stages.specs.AppWorks.{work_of}
use Rattle.frame_stages.proofs.AppTakes.{synced, sync_waits, sync_barred, unsent, sync_wants, wanting}
use Rattle.frame_stages.proofs.application.Application.sync_turn.Goals as goal

pub returns-then-not-has_room-clause-polled : goal.returns-then-not-has_room-clause-polled
returns-then-not-has_room-clause-polled g c = λ ends back.
    sync_waits (g.D.Desk.number c.args.desk.now) c.args.asked (work_of c.args.self.now) (g.D.Desk.seen c.args.desk.now) (g.D.Desk.told c.args.desk.now) ends c.requires.bare c.requires.next back
    (c.has_room.ensures.no (search rules))

pub returns-in-Entered-clause-polled : goal.returns-in-Entered-clause-polled
returns-in-Entered-clause-polled g c = λ ends back.
    synced c.args.asked (g.D.Desk.number c.args.desk.now) c.args.self.now c.note_sync.new.self c.sync.new.self (g.D.Desk.seen c.args.desk.now) (g.D.Desk.seen c.sync.new.desk) (g.D.Desk.told c.args.desk.now) (g.D.Desk.told c.sync.new.desk) ends back c.requires.bare c.requires.going c.requires.whole c.requires.next c.requires.waited
    (c.has_room.ensures.yes (search rules)) c.sync.ensures.same c.in-Entered.ensures.home c.note_sync.ensures c.in-Entered.ensures.came c.sync.ensures.counted

pub returns-in-NotNow-clause-polled : goal.returns-in-NotNow-clause-polled
returns-in-NotNow-clause-polled g c = λ ends back.
    sync_barred (g.D.Desk.number c.args.desk.now) c.args.asked (work_of c.args.self.now) (work_of (record c.args.self.now { flight = c.sync.new.self })) (g.D.Desk.seen c.args.desk.now) (g.D.Desk.seen c.sync.new.desk) (g.D.Desk.told c.args.desk.now) (g.D.Desk.told c.sync.new.desk) ends c.requires.bare c.requires.next
    (unsent c.args.self.now c.sync.new.self c.sync.ensures.same c.in-NotNow.ensures.home) c.in-NotNow.ensures.came

pub returns-in-NoMemory-clause-polled : goal.returns-in-NoMemory-clause-polled
returns-in-NoMemory-clause-polled g c = λ ends back.
    wanting (g.D.Desk.number c.args.desk.now) (work_of c.args.self.now) (work_of (record c.args.self.now { flight = c.sync.new.self })) (g.D.Desk.seen c.args.desk.now) (g.D.Desk.seen c.sync.new.desk) (g.D.Desk.seen c.stop.new.desk)
    (g.D.Desk.told c.args.desk.now) (g.D.Desk.told c.sync.new.desk) (g.D.Desk.told c.stop.new.desk) ends
    (sync_wants c.args.asked c.args.self.now.synced (next_step c.args.self.now.script.rest) c.requires.next) c.requires.bare (unsent c.args.self.now c.sync.new.self c.sync.ensures.same c.in-NoMemory.ensures.home) c.in-NoMemory.ensures.came
    (subst (λ k. Marks k (g.D.Desk.seen c.sync.new.desk) (g.D.Desk.told c.sync.new.desk) (g.D.Desk.seen c.stop.new.desk) (g.D.Desk.told c.stop.new.desk)) c.sync.ensures.number c.stop.ensures.marks)
    (λ holds right. c.stop.ensures.counted (c.sync.ensures.counted (right c.requires.whole) holds))
