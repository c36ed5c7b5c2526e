use Rattle.std.proofs.Common.{None, is_some, get_or, refl, arith}
use Rattle.draw_list.proofs.Listed.{back_none, back_more, back_all, none_of}
use Rattle.draw_list.proofs.spans.take_back.Goals as goal

pub loop-id-init : goal.loop-id-init
loop-id-init c = back_none is_some None c.args.spans.now c.args.ids.now c.requires

pub loop-id-preserved : goal.loop-id-preserved
loop-id-preserved c =
    back_more is_some None c.args.spans.now c.args.ids.now c.loop-id.id-index c.loop-id.spans refl (omega arith)
    (omega (arith, c.requires.below c.loop-id.id-index (omega arith), c.loop-id.invariant.same_length)) c.loop-id.invariant

pub returns-clause-none : goal.returns-clause-none
returns-clause-none c = λ id. none_of (get_or c.loop-id.spans id None) (back_all is_some None c.args.spans.now c.args.ids.now c.loop-id.id-index c.loop-id.spans (omega arith) c.loop-id.invariant id)
