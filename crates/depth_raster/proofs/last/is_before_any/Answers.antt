use Rattle.std.proofs.Common.{◌≡◌, false, List, sym, ◌∙◌, subst, arith}
use Rattle.std.proofs.lemmas.List.{take_all}
use Rattle.std.proofs.lemmas.List.Elements.{All-more}
use Rattle.depth_raster.specs.declared.marks.Mark.{Mark}
use Rattle.depth_raster.specs.Later.{ComesLast}
use Rattle.depth_raster.specs.Marks.{goes_before, no_mark}
use Rattle.depth_raster.proofs.last.is_before_any.Goals as goal

pub loop-other-preserved : goal.loop-other-preserved
loop-other-preserved c =
    All-more (λ (m : Mark). goes_before c.args.mark.now m ≡ false) c.args.marks.now c.loop-other.other-index no_mark (omega arith) c.loop-other.invariant
    (sym c.goes_before.ensures ∙ c.if-goes_before.false)

pub returns : goal.returns
returns c = λ none. subst (λ (ms : List Mark). ComesLast c.args.mark.now ms) (take_all c.loop-other.other-index c.args.marks.now (omega arith)) c.loop-other.invariant
