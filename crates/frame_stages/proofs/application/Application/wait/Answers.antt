-- A wait is passed, or not.
use Rattle.std.proofs.Common.{arith}
use Rattle.frame_stages.specs.AppWorks.{work_of}
use Rattle.frame_stages.proofs.AppTakes.{wait_waits, waited}
use Rattle.frame_stages.proofs.application.Application.wait.Goals as goal

pub returns-then-merges-wanted-clause-polled : goal.returns-then-merges-wanted-clause-polled
returns-then-merges-wanted-clause-polled c = λ k seen told ends same.
    wait_waits k c.args.wanted (work_of c.args.self.now) seen told ends c.requires.bare c.requires.next (omega arith)

pub returns-clause-polled : goal.returns-clause-polled
returns-clause-polled c = λ k seen told ends same.
    waited k c.args.wanted c.args.self.now c.pass_wait.new.self seen told ends c.requires.bare c.requires.going c.requires.next (omega arith) (omega arith) c.pass_wait.ensures
