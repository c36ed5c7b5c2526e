-- Whole buffers are put behind the lines left.
use Rattle.frame_stages.proofs.DbaseGiven.{in_order_put, put_same}
use Rattle.frame_stages.proofs.dbase_stage.DbaseStage.put_behind.Goals as goal

pub invariant_of-self : goal.invariant_of-self
invariant_of-self c =
    in_order_put _ _ c.args.more.items c.queue_of-block.result.items c.append.new.self.items c.self.view_is c.self.invariant
    c.requires.runs c.requires.few c.requires.fit c.requires.order c.queue_of-block.ensures c.in-Ok.ensures.items

pub returns-in-Ok-clause-state : goal.returns-in-Ok-clause-state
returns-in-Ok-clause-state c =
    put_same _ _ c.args.more.items c.queue_of-block.result.items c.append.new.self.items c.self.view_is c.queue_of-block.ensures
    c.in-Ok.ensures.items
