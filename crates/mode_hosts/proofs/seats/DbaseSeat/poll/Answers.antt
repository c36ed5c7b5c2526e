use Rattle.mode_hosts.specs.Seats.{dbase_site}
use Rattle.mode_hosts.proofs.Polls.{dbase_goes, base_waits, same_desk}
use Rattle.mode_hosts.proofs.seats.DbaseSeat.poll.Goals as goal

pub returns-clause-goes : goal.returns-clause-goes
returns-clause-goes g c =
    dbase_goes (dbase_site c.args.self.now) (dbase_site {R = g.row.R.Denot} (record { stage = c.poll.new.self; desk = c.poll.new.desk }))
    (same_desk _ _ c.poll.ensures.desk) c.poll.ensures.adds c.poll.ensures.part

pub returns-clause-waits : goal.returns-clause-waits
returns-clause-waits g c = λ is. base_waits _ c.poll.result _ _ _ _ is c.poll.ensures.answer
