use Rattle.pf_model.specs.Walks.{walk}
use Rattle.pf_model.specs.Boxes.{box_of}
use Rattle.std.specs.Prelude.{filter}
use Rattle.pf_model.proofs.Numbering.{places_rise}
use Rattle.draw_list.specs.Shown.{is_in_sight}
use Rattle.cull_walk.proofs.Sight.{shown_are}
use Rattle.cull_walk.proofs.laws.shown_instances_are_those_in_sight.Goals as goal

pub returns : goal.returns
returns c = record {
  are = shown_are;
  rise = λ look time v lens. places_rise look (filter (is_in_sight lens (box_of look)) (walk look time v));
}
