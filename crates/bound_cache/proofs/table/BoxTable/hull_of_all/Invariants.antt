use Rattle.std.proofs.Common.{◌≡◌, take}
use Rattle.std.specs.Prelude.{map, option_map}
use Rattle.fx_math.specs.Views.{bounds_of}
use Rattle.pf_model.specs.Boxes.{hull_of_all}
use Rattle.bound_cache.specs.Views.{table_of}
use Rattle.bound_cache.proofs.table.BoxTable.hull_of_all.Given as goal

abbrev pub invariant-loop-id : goal.invariant-loop-id
invariant-loop-id l = option_map bounds_of l.around ≡ hull_of_all (map (table_of l.self).boxes (take l.id-index l.ids))
