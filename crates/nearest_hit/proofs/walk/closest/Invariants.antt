use Rattle.std.proofs.Common.{◌≡◌, ◌+◌, take}
use Rattle.std.specs.Prelude.{fold, filter_map}
use Rattle.std.specs.List.{enumerate_from}
use Rattle.pf_model.specs.Surfaces.{surface_as_plain}
use Rattle.pf_model.specs.Walks.{Instance}
use Rattle.nearest_hit.specs.Ways.{steps_along}
use Rattle.nearest_hit.specs.Nearest.{hit_at, closer}
use Rattle.nearest_hit.specs.Working.{bare}
use Rattle.nearest_hit.proofs.walk.closest.Given as goal

abbrev pub invariant-loop-number : goal.invariant-loop-number
invariant-loop-number g l =
    let x : Instance = bare l.id (steps_along l.way) l.place (surface_as_plain l.fn.surface) in
    (l.closest ≡ fold closer l.fn.best (filter_map (hit_at l.segment x) (take l.number (enumerate_from 0 l.tris))))
    × (l.steps ≡ l.initial.steps + l.number)
