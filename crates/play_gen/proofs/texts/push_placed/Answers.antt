use Rattle.std.proofs.Common.{◌∙◌, ap, refl}
use Rattle.play_gen.specs.Draws.{state_after}
use Rattle.play_gen.proofs.DrawLemmas.{after_is}
use Rattle.play_gen.proofs.texts.push_placed.Goals as goal

pub returns-clause-state : goal.returns-clause-state
returns-clause-state c =
    c.in_ok-push_heading.ensures.state ∙ ap (state_after 1) c.in_ok-push_place.ensures.state ∙ after_is 3 1 4 c.args.draws.now.state refl
