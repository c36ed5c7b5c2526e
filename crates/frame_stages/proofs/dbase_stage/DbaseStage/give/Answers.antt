-- Whole buffers are given.
use Rattle.std.proofs.Common.{◌++◌, sym, ◌∙◌, subst}
use Rattle.frame_stages.specs.DbaseWorks.{DbaseWork, DbaseHolds}
use Rattle.frame_stages.proofs.DbaseGiven.{dropped, holds_more, put_state, put_holds}
use Rattle.frame_stages.proofs.dbase_stage.DbaseStage.give.Goals as goal

pub returns-then-has_failed-clause-state : goal.returns-then-has_failed-clause-state
returns-then-has_failed-clause-state c =
    dropped c.args.self.now c.args.more.items (sym c.has_failed.ensures ∙ c.if-has_failed.true)

pub returns-then-has_failed-clause-holds : goal.returns-then-has_failed-clause-holds
returns-then-has_failed-clause-holds c = λ lines channels seat log holds.
    subst (λ (x : DbaseWork). DbaseHolds (lines ++ c.args.more.items) channels seat x log)
    (sym (dropped c.args.self.now c.args.more.items (sym c.has_failed.ensures ∙ c.if-has_failed.true)))
    (holds_more lines c.args.more.items channels seat c.args.self.now log holds)

pub returns-clause-state : goal.returns-clause-state
returns-clause-state c =
    put_state c.put_behind.result c.args.self.now c.put_behind.new.self c.args.more.items
    (sym c.has_failed.ensures ∙ c.if-has_failed.false) c.put_behind.ensures.state

pub returns-clause-holds : goal.returns-clause-holds
returns-clause-holds c =
    put_holds c.put_behind.result c.args.self.now c.put_behind.new.self c.args.more.items (returns-clause-state c)
