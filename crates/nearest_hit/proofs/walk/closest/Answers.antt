use Rattle.std.proofs.Common.{List, Option, ap, sym, ◌∙◌, arith}
use Rattle.std.specs.Prelude.{fold, filter_map}
use Rattle.std.specs.List.{enumerate_from}
use Rattle.std.specs.Option.{option_map_or}
use Rattle.pf_model.specs.declared.geometry.Tri.{Tri}
use Rattle.pf_model.specs.Surfaces.{surface_as_plain}
use Rattle.pf_model.specs.Walks.{Instance}
use Rattle.nearest_hit.specs.declared.found.Near.{Near}
use Rattle.nearest_hit.specs.Ways.{steps_along}
use Rattle.nearest_hit.specs.Nearest.{hit_at, closer}
use Rattle.nearest_hit.specs.Working.{bare}
use Rattle.nearest_hit.proofs.Folding.{fold_numbered_more, fold_numbered_all}
use Rattle.nearest_hit.proofs.walk.closest.Goals as goal

pub loop-number-preserved : goal.loop-number-preserved
loop-number-preserved g c =
    let a = c.args in
    let x : Instance = bare a.id (steps_along a.way.now) a.place (surface_as_plain a.surface.now) in
    let at = hit_at a.segment.now x in (
      c.with_tri-closest.ensures
          ∙ ap (λ (b : Option Near). option_map_or (closer b) (at (c.loop-number.number, c.index-tris-number.result)) b) c.loop-number.invariant.0
          ∙ sym (fold_numbered_more closer at a.best c.as_slice-tris.result.now c.loop-number.number c.index-tris-number.result (omega arith) c.index-tris-number.is),
      omega (arith, c.tick.ensures, c.loop-number.invariant.1),
    )

pub returns-clause-best : goal.returns-clause-best
returns-clause-best g c =
    let a = c.args in
    let x : Instance = bare a.id (steps_along a.way.now) a.place (surface_as_plain a.surface.now) in
    let at = hit_at a.segment.now x in
    c.loop-number.invariant.0
    ∙ fold_numbered_all closer at a.best c.as_slice-tris.result.now c.loop-number.number (omega arith)
    ∙ ap (λ (ts : List Tri). fold closer a.best (filter_map at (enumerate_from 0 ts))) c.as_slice-tris.ensures.value
