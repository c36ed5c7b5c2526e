use Rattle.std.proofs.Common.{◌≡◌, ◌++◌, ◌∙◌, [], ◌∷◌, List, ℕ, ap, sym, append_assoc, rules}
use Rattle.play_format.specs.Texts.{numbers_text}
use Rattle.play_gen.proofs.TextLemmas.{word_line_is}
use Rattle.play_gen.proofs.lines.push_line.Goals as goal

pub returns : goal.returns
returns c =
    let out = c.args.out.now.items in
    let word = c.args.word.now in
    let numbers = numbers_text c.args.numbers.now in
    let pieces : c.push.new.self.items ≡ ((out ++ word) ++ numbers) ++ 10 ∷ [] = search rules in
    pieces ∙ append_assoc (out ++ word) numbers (10 ∷ []) ∙ append_assoc out word (numbers ++ 10 ∷ [])
    ∙ ap (λ (t : List ℕ). out ++ t) (sym (word_line_is word c.args.numbers.now))
