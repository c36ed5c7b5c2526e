use Rattle.std.proofs.Common.{◌≡◌, ◌++◌, ◌+◌, ◌*◌, [], ◌∷◌, ◌∙◌, ap, refl, pos, rules}
use Rattle.play_format.specs.declared.commands.Form.TheVariants as form
use Rattle.play_format.specs.declared.commands.Command.TheVariants as command
use Rattle.play_gen.specs.Draws.{state_after}
use Rattle.play_gen.specs.Texts.{entry_text}
use Rattle.play_gen.proofs.DrawLemmas.{after_is}
use Rattle.play_gen.proofs.TextLemmas.{buffer_text}
use Rattle.play_gen.proofs.texts.push_buffer.Goals as goal

pub returns-clause-text : goal.returns-clause-text
returns-clause-text c =
    let i = c.args.i in
    let await : c.push_line.new.out.items ≡ c.args.out.now.items ++ entry_text (command.Await, pos i ∷ []) = search rules in
    let buffer : c.push_line-2.new.out.items ≡ c.push_line.new.out.items ++ entry_text (command.Buffer, []) = search rules in
    let dcs : c.push_line-3.new.out.items ≡ c.push_line-2.new.out.items ++ entry_text
    (command.Edit form.Dcs, pos (100 + 2 * i) ∷ []) = search rules in
    buffer_text c.args.out.now.items c.push_line.new.out.items c.push_line-2.new.out.items c.push_line-3.new.out.items c.push_geode.new.out.items c.push_placed.new.out.items
    i c.args.draws.now.state c.push_geode.new.draws.state await buffer dcs c.in_ok-push_geode.ensures.text c.in_ok-push_placed.ensures.text c.in_ok-push_geode.ensures.state

pub returns-clause-state : goal.returns-clause-state
returns-clause-state c =
    c.in_ok-push_placed.ensures.state ∙ ap (state_after 4) c.in_ok-push_geode.ensures.state ∙ after_is 289 4 293 c.args.draws.now.state refl
