use Rattle.std.proofs.Common.{FitsSigned, ⊎_elim, rules}
use mir.Syntax.{w64}
use Rattle.edge_values.proofs.Passed.{not_below}
use Rattle.edge_values.proofs.narrow.NarrowLine.is_outside.Goals as goal

pub returns : goal.returns
returns c =
    let l = c.args.self.now in
    let first : FitsSigned w64 l.start.first = search rules in
    let second : FitsSigned w64 l.start.second = search rules in
    let third : FitsSigned w64 l.start.third = search rules in
    let last_first : FitsSigned w64 l.last.first = search rules in
    let last_second : FitsSigned w64 l.last.second = search rules in
    let last_third : FitsSigned w64 l.last.third = search rules in (
      λ t. cc,
      λ outside. absurd (⊎_elim
          (not_below l.start.first l.last.first c.are_below.result first last_first c.if-are_below.false c.are_below.ensures)
          (⊎_elim
          (not_below l.start.second l.last.second c.are_below-2.result second last_second c.if-are_below-2.false c.are_below-2.ensures)
          (not_below l.start.third l.last.third c.are_below-3.result third last_third c.if-are_below-3.false c.are_below-3.ensures))
          outside),
    )
