use Rattle.update_lists.proofs.MarkTable.{marks_new}
use Rattle.update_lists.proofs.dirty.Dirty.new.Goals as goal

pub invariant_of-result : goal.invariant_of-result
invariant_of-result c = rw (c.in_ok-no_marks.ensures.0, c.in_ok-no_marks.ensures.1, c.in_ok-no_ids.ensures.0, c.in_ok-no_ids.ensures.1) marks_new
