use Rattle.std.proofs.Common.{◌≡◌, ◌++◌, [], ◌∷◌, rules}
use Rattle.play_format.specs.declared.commands.Command.TheVariants as command
use Rattle.play_format.specs.declared.places.Version.TheVariants as version
use Rattle.play_format.specs.Spelling.{version_line}
use Rattle.play_gen.specs.Texts.{entry_text}
use Rattle.play_gen.proofs.TextLemmas.{whole_text}
use Rattle.play_gen.proofs.texts.generated_text.Goals as goal

pub returns : goal.returns
returns c =
    let first : c.push_version.new.out.items ≡ version_line version.One ++ 10 ∷ [] = search rules in
    let frame : c.push_line.new.out.items ≡ c.push_turns.new.out.items ++ entry_text (command.Frame, []) = search rules in
    let dbase : c.push_line-2.new.out.items ≡ c.push_line.new.out.items ++ entry_text (command.Dbase, []) = search rules in
    whole_text c.push_version.new.out.items c.push_opening.new.out.items c.push_turns.new.out.items c.push_line.new.out.items c.push_line-2.new.out.items c.push_buffers.new.out.items c.args.n
    first c.in_ok-push_opening.ensures c.in_ok-push_turns.ensures frame dbase c.in_ok-push_buffers.ensures
