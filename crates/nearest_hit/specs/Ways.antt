-- The steps along a way to the eye.
use Rattle.std.specs.Prelude.{List, [], ◌++◌, map}
use Rattle.fx_math.specs.Plain.{Matrix}
use Rattle.fx_math.specs.Views.{matrix_of}
use Rattle.nearest_hit.specs.declared.way.OwnSteps.{OwnSteps}
use Rattle.nearest_hit.specs.declared.way.OwnSteps.TheVariants.{Nothing, One, Euler}
use Rattle.nearest_hit.specs.declared.way.Way.{Way, View, Below'}

abbrev pub matrices : OwnSteps → List Matrix
matrices Nothing = []
matrices (One steps) = map matrix_of steps
matrices (Euler steps) = map matrix_of steps

-- the steps of the nodes above, nearest first, and then those of the view
abbrev pub steps_along : Way → List Matrix
steps_along (View steps) = map matrix_of steps
steps_along (Below' own pointer above) = matrices own ++ steps_along above
