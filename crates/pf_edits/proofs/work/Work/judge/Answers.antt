use Rattle.pf_edits.proofs.work.Work.judge.Goals as goal

pub returns-in-Add-clause-fault : goal.returns-in-Add-clause-fault
returns-in-Add-clause-fault c = rw c.in-Add.is c.judge_add.ensures.fault

pub returns-in-Insert-clause-fault : goal.returns-in-Insert-clause-fault
returns-in-Insert-clause-fault c = rw c.in-Insert.is c.judge_insert.ensures.fault

pub returns-in-Replace-clause-fault : goal.returns-in-Replace-clause-fault
returns-in-Replace-clause-fault c = rw c.in-Replace.is c.judge_replace.ensures.fault
