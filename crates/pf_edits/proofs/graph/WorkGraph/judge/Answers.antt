use Rattle.pf_edits.proofs.Tights.{tight_still}
use Rattle.pf_edits.proofs.graph.WorkGraph.judge.Goals as goal

pub invariant_of-self : goal.invariant_of-self
invariant_of-self c = record {
  working = c.judge.ensures.working;
  tight = tight_still c.self.inside.work c.judge.new.self c.judge.ensures.told c.judge.ensures.fewer c.self.invariant.tight;
}
