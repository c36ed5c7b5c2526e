use Rattle.std.proofs.Common.{◌≡◌, ◌∙◌, ◌++◌, rules, ap₂}
use Rattle.std.specs.Prelude.{codes, decimal}
use Rattle.program_ends.proofs.Telling.{told_same, stuck_line}
use Rattle.program_ends.proofs.messages.say_stuck.Goals as goal

pub returns : goal.returns
returns g c =
    let app : c.as_bytes-wait.result.now ≡ decimal c.args.app = search rules in
    let dbase : c.as_bytes-await_line.result.now ≡ decimal c.args.dbase = search rules in
    told_same (g.R.Sink.written c.args.report.now) (g.R.Sink.written c.say.new.report) (g.R.Sink.faults c.args.report.now) (g.R.Sink.faults c.say.new.report) _ _
    (ap₂ (λ x y. codes "perfly: stuck app " ++ (x ++ (codes " dbase " ++ (y ++ codes "\n")))) app dbase ∙ stuck_line (decimal c.args.app) (decimal c.args.dbase))
    c.say.ensures
