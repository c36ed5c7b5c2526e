use Rattle.std.proofs.Common.{◌≡◌, ◌++◌, ◌∙◌, ap, List, ℕ, append_assoc, rules}
use Rattle.play_format.specs.Commands.{form_text}
use Rattle.play_format.specs.Spelling.{edit_form, edit_numbers}
use Rattle.play_format.specs.Texts.{numbers_text, tail_text}
use Rattle.play_format.proofs.WriterLemmas.{edit_line}
use Rattle.play_format.proofs.spelling.push_edit.Goals as goal

pub returns : goal.returns
returns c =
    let form = edit_form c.args.edit.now in
    let numbers = numbers_text (edit_numbers c.args.edit.now) in
    let pieces : c.extend_from_slice-2.new.self.items ≡ c.args.out.now.items ++ form_text form ++ numbers ++ tail_text form = search rules in
    pieces
    ∙ append_assoc (c.args.out.now.items ++ form_text form) numbers (tail_text form)
    ∙ append_assoc c.args.out.now.items (form_text form) (numbers ++ tail_text form)
    ∙ ap (λ (t : List ℕ). c.args.out.now.items ++ t) (edit_line form (edit_numbers c.args.edit.now))
