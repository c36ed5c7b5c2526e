-- The line of a merge is passed.
use Rattle.frame_stages.proofs.DbaseOrder.{merged_in_order}
use Rattle.frame_stages.proofs.dbase_stage.DbaseStage.pass_merge.Goals as goal

pub invariant_of-self : goal.invariant_of-self
invariant_of-self g c =
    merged_in_order _ c.args.self.now c.pop_front.new.self.items c.replace.new.dest c.self.view_is c.self.invariant c.requires.next
    c.pop_front.ensures.rest c.replace.ensures.after
