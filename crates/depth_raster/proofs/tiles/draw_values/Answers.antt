use Rattle.std.proofs.Common.{ℕ, Option, get_or, set, ap, sym, ◌∙◌, subst}
use Rattle.std.specs.Option.{IfSome, IfNone}
use Rattle.std.proofs.lemmas.List.{set-get_or}
use Rattle.depth_raster.specs.Marks.{no_mark}
use Rattle.edge_values.specs.Weights.{AreInner, IsInnerSum}
use Rattle.depth_raster.proofs.Looking.{not_inner}
use Rattle.depth_raster.proofs.Readied.{face_hits}
use Rattle.depth_raster.proofs.Skipped.{mark_missed}
use Rattle.depth_raster.specs.Weighed.{IsInnerSumAt}
use Rattle.depth_raster.proofs.Weighed.{inner_sum_at, inner_values}
use Rattle.depth_raster.proofs.tiles.draw_values.Goals as goal

pub returns-in-Some : goal.returns-in-Some
returns-in-Some c = λ p f lens px py stamp face column row ready inside are.
    let v = c.args.values.now in
    let some = subst (λ (o : Option ℕ). IfSome o (IsInnerSum v.first v.second v.third)) c.in-Some.is c.inner_sum.ensures.some in
    c.draw.ensures p f lens px py stamp face column row ready inside (subst (λ (s : ℕ). IsInnerSumAt f px py s) (sym c.from.ensures) (inner_sum_at f px py v c.in-Some.sum are some))

pub returns-in_default : goal.returns-in_default
returns-in_default c = λ p f lens px py stamp face column row ready inside are.
    let a = c.args in
    let v = a.values.now in
    let m = get_or a.marks.now a.place no_mark in
    let none = subst (λ (o : Option ℕ). IfNone o (AreInner v.first v.second v.third → ⊥)) c.in_default.is c.inner_sum.ensures.none in
    let missed = not_inner f px py (λ is. none (inner_values f px py v are is)) in
    sym (set-get_or a.marks.now a.place no_mark)
    ∙ ap (set a.marks.now a.place) (sym (mark_missed lens px py p.face m (face_hits lens p f ready face px py column row ∙ missed)))
