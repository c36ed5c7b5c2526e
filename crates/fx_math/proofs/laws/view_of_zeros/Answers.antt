use Rattle.fx_math.specs.Views.{point_of}
use Rattle.fx_math.proofs.Still.{carry-view_of_zeros}
use Rattle.fx_math.proofs.laws.view_of_zeros.Goals as goal

pub returns : goal.returns
returns c = λ v. carry-view_of_zeros (point_of v) v.in_range
