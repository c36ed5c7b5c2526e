use Rattle.fx_math.specs.Views.{point_of}
use Rattle.fx_math.proofs.Still.{apply-identity}
use Rattle.fx_math.proofs.laws.identity.Goals as goal

pub returns-clause-still : goal.returns-clause-still
returns-clause-still c = λ v. apply-identity (point_of v) v.in_range
