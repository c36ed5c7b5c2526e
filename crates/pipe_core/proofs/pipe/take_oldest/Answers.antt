use Rattle.std.proofs.Common.{◌∙◌, ap}
use Rattle.pf_scene.specs.Scenes.{SceneState}
use Rattle.pipe_core.proofs.Telling.{turn_tells}
use Rattle.pipe_core.proofs.pipe.take_oldest.Goals as goal

pub returns : goal.returns
returns c =
    turn_tells c.told-told.result c.args.desk.now c.turn.new.self c.turn.result
    (c.told-told.ensures ∙ ap (λ (s : SceneState). s.told) c.value.ensures) c.turn.ensures.turned
