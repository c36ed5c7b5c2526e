use Rattle.std.proofs.Common.{false, refl, arith}
use Rattle.draw_list.proofs.Listed.{back_none, back_more, back_all}
use Rattle.draw_list.proofs.states.unmark.Goals as goal

pub loop-state-init : goal.loop-state-init
loop-state-init c = back_none (λ m. m) false c.args.marks.now c.args.states.now c.requires

pub loop-state-preserved : goal.loop-state-preserved
loop-state-preserved c =
    back_more (λ m. m) false c.args.marks.now c.args.states.now c.loop-state.state-index c.loop-state.marks refl (omega arith)
    (omega (arith, c.requires.below c.loop-state.state-index (omega arith), c.loop-state.invariant.same_length)) c.loop-state.invariant

pub returns-clause-none : goal.returns-clause-none
returns-clause-none c = back_all (λ m. m) false c.args.marks.now c.args.states.now c.loop-state.state-index c.loop-state.marks (omega arith) c.loop-state.invariant
