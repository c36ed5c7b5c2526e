use Rattle.std.proofs.Common.{◌∙◌, ap, refl}
use Rattle.play_gen.specs.Draws.{state_after}
use Rattle.play_gen.proofs.DrawLemmas.{after_is}
use Rattle.play_gen.proofs.texts.push_geode.Goals as goal

pub returns-clause-state : goal.returns-clause-state
returns-clause-state c =
    c.in_ok-push_triangles.ensures.state ∙ ap (state_after 288) c.below.ensures.state ∙ after_is 1 288 289 c.args.draws.now.state refl
