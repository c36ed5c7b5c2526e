use Rattle.std.proofs.Common.{rules, ◌≡◌}
use Rattle.pf_io.specs.Memory.{reach}
use Rattle.pf_io.proofs.Reaching.{reach_most, reach_some}
use Rattle.pf_io.proofs.faults.Faults.reach.Goals as goal

pub returns-clause-bound : goal.returns-clause-bound
returns-clause-bound c =
    let exact : c.fold.result ≡ reach c.args.self.now c.args.place c.args.most = search rules in
    rw exact (reach_most c.args.self.now c.args.place c.args.most)

pub returns-clause-moves : goal.returns-clause-moves
returns-clause-moves c some =
    let exact : c.fold.result ≡ reach c.args.self.now c.args.place c.args.most = search rules in
    rw exact (reach_some c.args.self.now c.args.place c.args.most some)
