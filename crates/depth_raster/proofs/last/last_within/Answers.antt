use Rattle.std.proofs.Common.{◌≡◌, false, List, take, subst, arith}
use Rattle.std.proofs.lemmas.List.{take_all}
use Rattle.std.proofs.lemmas.List.Elements.{All-more, All-weaker}
use Rattle.depth_raster.specs.declared.marks.Mark.{Mark}
use Rattle.depth_raster.specs.Later.{ComesLast}
use Rattle.depth_raster.specs.Marks.{goes_before, no_mark}
use Rattle.depth_raster.proofs.MarkOrder.{before_chain}
use Rattle.depth_raster.proofs.last.last_within.Goals as goal

pub loop-mark-preserved : goal.loop-mark-preserved
loop-mark-preserved c =
    let marks = c.args.marks.now in
    let last = c.later-last.result in
    All-more (λ (m : Mark). goes_before last m ≡ false) marks c.loop-mark.mark-index no_mark (omega arith)
    (All-weaker (λ (m : Mark). goes_before c.loop-mark.last m ≡ false) (λ (m : Mark). goes_before last m ≡ false)
    (λ m h. before_chain m c.loop-mark.last last h c.later-last.ensures.first) (take c.loop-mark.mark-index marks) c.loop-mark.invariant)
    c.later-last.ensures.second

pub returns : goal.returns
returns c = subst (λ (ms : List Mark). ComesLast c.loop-mark.last ms) (take_all c.loop-mark.mark-index c.args.marks.now (omega arith)) c.loop-mark.invariant
