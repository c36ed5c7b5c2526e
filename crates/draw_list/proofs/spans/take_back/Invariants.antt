use Rattle.std.proofs.Common.{None, is_some}
use Rattle.draw_list.proofs.Listed.{IsTakenBack}
use Rattle.draw_list.proofs.spans.take_back.Given as goal

abbrev pub invariant-loop-id : goal.invariant-loop-id
invariant-loop-id l = IsTakenBack is_some None l.initial.spans l.ids l.id-index l.spans
