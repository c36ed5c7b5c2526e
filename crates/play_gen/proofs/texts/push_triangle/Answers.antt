use Rattle.std.proofs.Common.{◌≡◌, ◌++◌, [], ◌∷◌, ◌∙◌, ap, refl, rules}
use Rattle.play_gen.specs.Draws.{state_after}
use Rattle.play_gen.proofs.DrawLemmas.{after_is}
use Rattle.play_gen.proofs.TextLemmas.{triangle_text}
use Rattle.play_gen.proofs.texts.push_triangle.Goals as goal

pub returns-clause-text : goal.returns-clause-text
returns-clause-text c =
    let start = c.args.draws.now.state in
    let first : c.push.new.self.items ≡ c.args.out.now.items ++ 116 ∷ [] = search rules in
    let last : c.push-2.new.self.items ≡ c.push_corner-3.new.out.items ++ 10 ∷ [] = search rules in
    let third = c.push_corner-2.ensures.state ∙ ap (state_after 6) c.push_corner.ensures.state ∙ after_is 6 6 12 start refl in
    triangle_text c.args.out.now.items c.push.new.self.items c.push_corner.new.out.items c.push_corner-2.new.out.items c.push_corner-3.new.out.items c.push-2.new.self.items
    start c.push_corner.new.draws.state c.push_corner-2.new.draws.state first c.in_ok-push_corner.ensures.text c.in_ok-push_corner-2.ensures.text c.in_ok-push_corner-3.ensures.text last
    c.push_corner.ensures.state third

pub returns-clause-state : goal.returns-clause-state
returns-clause-state c =
    let start = c.args.draws.now.state in
    c.push_corner-3.ensures.state ∙ ap (state_after 6) (c.push_corner-2.ensures.state ∙ ap (state_after 6) c.push_corner.ensures.state
    ∙ after_is 6 6 12 start refl)
    ∙ after_is 12 6 18 start refl
