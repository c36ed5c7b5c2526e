use Rattle.depth_raster.specs.Mixing.{change_of, number_at}
use Rattle.depth_raster.proofs.Mixed.{settled_shade}
use Rattle.depth_raster.proofs.means.Means.settle.Goals as goal

pub returns-clause-kept : goal.returns-clause-kept
returns-clause-kept c = λ f px py at. record {
  weight = at.weight;
  red = c.settle.ensures.kept (number_at f px py 0) (change_of f 0) at.red;
  green = c.settle-2.ensures.kept (number_at f px py 1) (change_of f 1) at.green;
  blue = c.settle-3.ensures.kept (number_at f px py 2) (change_of f 2) at.blue;
  bytes = at.bytes;
}

pub returns-clause-colour : goal.returns-clause-colour
returns-clause-colour c = λ f px py at.
    settled_shade f px py _ (returns-clause-kept c f px py at)
    (λ channel. c.settle.ensures.settled (number_at f px py 0) (change_of f 0) at.red channel)
    (λ channel. c.settle-2.ensures.settled (number_at f px py 1) (change_of f 1) at.green channel)
    (λ channel. c.settle-3.ensures.settled (number_at f px py 2) (change_of f 2) at.blue channel)
