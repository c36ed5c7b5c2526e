use Rattle.pf_model.specs.Boxes.{box_of}
use Rattle.pf_model.proofs.Levels.{box_is_step}
use Rattle.pf_model.proofs.Nesting.{box_is_box, children_lie}
use Rattle.pf_model.proofs.laws.boxes_nest.Goals as goal

pub returns : goal.returns
returns c = λ look low. record {
  step = λ id. box_is_step look id (low id);
  are_boxes = λ id. box_is_box 32 look id;
  lie = λ id n found none. children_lie look (box_of look) (λ id. box_is_step look id (low id)) (λ id. box_is_box 32 look id) id n found none;
}
