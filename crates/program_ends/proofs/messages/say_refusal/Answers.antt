use Rattle.std.proofs.Common.{◌≡◌, ◌∙◌, ◌++◌, rules, ap₂}
use Rattle.std.specs.Prelude.{codes, decimal}
use Rattle.play_format.specs.Messages.{cause_text}
use Rattle.program_ends.proofs.Telling.{told_same, refusal_line}
use Rattle.program_ends.proofs.messages.say_refusal.Goals as goal

pub returns : goal.returns
returns g c =
    let line : c.as_bytes-line.result.now ≡ decimal c.args.refusal.line = search rules in
    told_same (g.R.Sink.written c.args.report.now) (g.R.Sink.written c.say.new.report) (g.R.Sink.faults c.args.report.now) (g.R.Sink.faults c.say.new.report) _ _
    (ap₂ (λ x y. codes "perfly: line " ++ (x ++ (codes ": " ++ (y ++ codes "\n")))) line c.cause.ensures ∙ refusal_line (decimal c.args.refusal.line) (cause_text c.args.refusal.why))
    c.say.ensures
