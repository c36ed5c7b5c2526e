use Rattle.std.proofs.Common.{◌≡◌, map, take}
use Rattle.std.specs.Option.{option_map}
use Rattle.fx_math.specs.Views.{point_of, bounds_of}
use Rattle.fx_math.specs.Fixed.{hull_of}
use Rattle.fx_math.proofs.hulls.hull_of.Given as goal

abbrev pub invariant-loop-v : goal.invariant-loop-v
invariant-loop-v l = option_map bounds_of l.around ≡ hull_of (map point_of (take l.v-index l.vs))
