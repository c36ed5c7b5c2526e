use Rattle.std.proofs.Common.{ap}
use Rattle.pf_model.specs.Graphs.{Look, height_of, size_of, is_below}
use Rattle.pf_model.specs.Walks.{walk, instances}
use Rattle.pf_model.specs.Boxes.{box_of}
use Rattle.pf_model.proofs.Places.{funext}
use Rattle.pf_model.proofs.laws.equal_looks_agree.Goals as goal

pub returns : goal.returns
returns c = λ f g same. record {
  heights = λ id. ap (λ (look : Look). height_of look id) (funext f g same);
  sizes = λ id. ap (λ (look : Look). size_of look id) (funext f g same);
  below = λ a b. ap (λ (look : Look). is_below look a b) (funext f g same);
  boxes = λ id. ap (λ (look : Look). box_of look id) (funext f g same);
  walks = λ time v. ap (λ (look : Look). walk look time v) (funext f g same);
  instances = λ time v. ap (λ (look : Look). instances look time v) (funext f g same);
}
