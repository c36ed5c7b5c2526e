use Rattle.std.proofs.Common.{◌∙◌, sym}
use Rattle.pf_edits.proofs.Tights.{tight_still, lost_judged}
use Rattle.pf_edits.proofs.work.Work.edit.Goals as goal

pub returns-in-Some-clause-tight : goal.returns-in-Some-clause-tight
returns-in-Some-clause-tight c = tight_still c.args.self.now c.judge.new.self c.judge.ensures.told c.judge.ensures.fewer c.requires.tight

pub returns-in-Ok-clause-lost : goal.returns-in-Ok-clause-lost
returns-in-Ok-clause-lost c =
    lost_judged c.args.self.now c.judge.new.self c.apply.new.self c.args.e.now c.in-Ok.undo c.judge.ensures.working c.judge.ensures.told c.judge.ensures.fewer c.requires.tight
    (sym c.judge.ensures.fault ∙ c.in_default.is) c.in-Ok.ensures.after c.in-Ok.ensures.grown c.in-Ok.ensures.undo

pub returns-in-Err-clause-tight : goal.returns-in-Err-clause-tight
returns-in-Err-clause-tight c =
    tight_still c.args.self.now c.apply.new.self (c.in-Err.ensures.unchanged ∙ c.judge.ensures.told) (λ b p h. c.judge.ensures.fewer b p (c.in-Err.ensures.fewer b p h)) c.requires.tight
