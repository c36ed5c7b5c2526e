use Rattle.std.proofs.Common.{◌≡◌, [], ◌∷◌, rules, arith}
use Rattle.std.proofs.lemmas.Grind.{common_steps}
use Rattle.pf_model.specs.Graphs.{scene_node}
use Rattle.multibuffer.proofs.Taking.{opened}
use Rattle.multibuffer.proofs.stage_copy.StageCopy.new.Goals as goal

pub returns-clause-right : goal.returns-clause-right
returns-clause-right c =
    let nodes : c.replace.new.self ≡ ((0, scene_node) ∷ []) = first_of (search rules, grind (arith, common_steps)) in
    (opened c.replace.new.self c.in_ok-cache.cache c.touch.new.self c.refresh.new.cache nodes c.in_ok-cache.ensures.boxes c.touch.ensures.boxes c.touch.ensures.touched c.refresh.ensures.right c.refresh.ensures.noted c.refresh.ensures.untouched).right

pub invariant_of-result : goal.invariant_of-result
invariant_of-result c =
    let nodes : c.replace.new.self ≡ ((0, scene_node) ∷ []) = first_of (search rules, grind (arith, common_steps)) in
    (opened c.replace.new.self c.in_ok-cache.cache c.touch.new.self c.refresh.new.cache nodes c.in_ok-cache.ensures.boxes c.touch.ensures.boxes c.touch.ensures.touched c.refresh.ensures.right c.refresh.ensures.noted c.refresh.ensures.untouched).tended
