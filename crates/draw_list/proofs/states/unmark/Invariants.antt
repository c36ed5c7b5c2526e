use Rattle.std.proofs.Common.{false}
use Rattle.draw_list.proofs.Listed.{IsTakenBack}
use Rattle.draw_list.proofs.states.unmark.Given as goal

abbrev pub invariant-loop-state : goal.invariant-loop-state
invariant-loop-state l = IsTakenBack (λ m. m) false l.initial.marks l.states l.state-index l.marks
