-- What a refusal leaves above the serials of these edits.
use Rattle.std.proofs.Common.{◌∙◌, ap}
use Rattle.cycle_buffer.specs.Cycles.{CyclesState, written_at}
use Rattle.pf_scene.proofs.Loops.{preparing_above}
use Rattle.pf_scene.proofs.stock.prepare.Goals as goal

pub returns-in_err-add_edit-clause-above : goal.returns-in_err-add_edit-clause-above
returns-in_err-add_edit-clause-above c = λ s l.
    ap (λ (k : CyclesState). written_at k s) c.in_err-add_edit.ensures.unchanged
    ∙ preparing_above _ _ _ _ _ _ c.loop-e.invariant.preparing s l
