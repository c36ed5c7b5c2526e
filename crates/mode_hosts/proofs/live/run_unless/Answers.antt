use Rattle.std.proofs.Common.{OnErr}
use Rattle.mode_hosts.specs.Seats.{app_site}
use Rattle.mode_hosts.proofs.Goes.{app_self}
use Rattle.mode_hosts.proofs.Lives.{whole_on, blamed_on}
use Rattle.mode_hosts.proofs.live.run_unless.Goals as goal

pub returns-in-Ok-clause-uncut : goal.returns-in-Ok-clause-uncut
returns-in-Ok-clause-uncut g c = λ whole.
    let fine : OnErr c.args.came ⊥ = rw c.in-Ok.is tt in
    whole_on c.args.came c.run_here.result (app_site c.args.app.now).work.state.fault (app_site c.run_here.new.app).work.state.fault fine whole
    c.run_here.ensures.uncut

pub returns-in-Ok-clause-blames : goal.returns-in-Ok-clause-blames
returns-in-Ok-clause-blames g c = λ before calm.
    let fine : OnErr c.args.came ⊥ = rw c.in-Ok.is tt in
    blamed_on c.args.came c.run_here.result before (g.O.Sink.faults c.args.frames.now) (g.O.Sink.faults c.run_here.new.frames)
    (g.O.Sink.at_fault c.args.frames.now) (g.O.Sink.written c.args.frames.now) (g.O.Sink.at_fault c.run_here.new.frames)
    (g.O.Sink.written c.run_here.new.frames) fine calm c.run_here.ensures.blames

pub returns-in-Err-clause-goes : goal.returns-in-Err-clause-goes
returns-in-Err-clause-goes g c = app_self (app_site c.args.app.now) (g.O.Sink.written c.args.frames.now)
