use Rattle.pf_model.proofs.EditLimits.{limits_after}
use Rattle.pf_model.proofs.Histories.{limits_empty, limits_merge, limits_next}
use Rattle.pf_model.proofs.laws.graphs_stay_within_limits.Goals as goal

pub returns-clause-empty : goal.returns-clause-empty
returns-clause-empty c = limits_empty

pub returns-clause-edit : goal.returns-clause-edit
returns-clause-edit c = limits_after

pub returns-clause-merge : goal.returns-clause-merge
returns-clause-merge c = limits_merge

pub returns-clause-frame : goal.returns-clause-frame
returns-clause-frame c = limits_next
