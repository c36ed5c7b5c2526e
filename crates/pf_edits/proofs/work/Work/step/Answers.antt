use Rattle.std.proofs.Common.{reverse}
use Rattle.pf_edits.proofs.Rollbacks.{undoable_still}
use Rattle.pf_edits.specs.Settling.{asked_link}
use Rattle.pf_edits.proofs.Tights.{ok_noted, ok_grows, err_fewer}
use Rattle.pf_edits.proofs.work.Work.step.Goals as goal

pub returns-in-Some-clause-undoable : goal.returns-in-Some-clause-undoable
returns-in-Some-clause-undoable c =
    undoable_still c.args.self.now c.judge.new.self (reverse c.args.done.now.items) c.judge.ensures.told c.judge.ensures.kept c.requires.undoable

pub apply_noted-requires-clause-undoable : goal.apply_noted-requires-clause-undoable
apply_noted-requires-clause-undoable c =
    undoable_still c.args.self.now c.judge.new.self (reverse c.args.done.now.items) c.judge.ensures.told c.judge.ensures.kept c.requires.undoable

pub returns-clause-noted : goal.returns-clause-noted
returns-clause-noted c =
    ok_noted c.apply_noted.result c.args.self.now c.judge.new.self c.apply_noted.new.self c.args.done.now.items c.apply_noted.new.done.items
    c.judge.ensures.told c.judge.ensures.kept c.judge.ensures.fewer c.apply_noted.ensures.noted

pub returns-clause-grown : goal.returns-clause-grown
returns-clause-grown c =
    ok_grows c.apply_noted.result (asked_link c.args.e.now) c.args.self.now c.judge.new.self c.apply_noted.new.self c.judge.ensures.fewer c.apply_noted.ensures.grown

pub returns-clause-fewer : goal.returns-clause-fewer
returns-clause-fewer c = err_fewer c.apply_noted.result c.args.self.now c.judge.new.self c.apply_noted.new.self c.judge.ensures.fewer c.apply_noted.ensures.fewer
