use Rattle.std.proofs.Common.{rules, ◌≡◌, ◌∙◌, ◌∷◌, arith, refl, ap, length, true, List, ℕ, Ok}
use Rattle.std.specs.Prelude.{codes}
use Rattle.std.specs.Str.{bytes_eq}
use Rattle.play_format.specs.declared.commands.Command.TheVariants as command
use Rattle.play_format.specs.Words.{words}
use Rattle.play_format.specs.Commands.{limits_of}
use Rattle.play_format.specs.Grammar.{numbers_at}
use Rattle.play_format.specs.Rests.{left_words}
use Rattle.play_format.proofs.ReadingLemmas.{bytes_yes}
use Rattle.play_format.proofs.EarlyLemmas.{triangle_line}
use Rattle.play_format.proofs.early.is_triangle_line.Goals as goal

pub returns-in-Ok-None : goal.returns-in-Ok-None
returns-in-Ok-None c =
    let ws = left_words c.first_word.result.1 in
    let zs = c.read_numbers.new.numbers.items in
    let same : bytes_eq c.first_word.result.0.now (codes "t") ≡ true = search rules in
    let split : words c.args.line.now ≡ codes "t" ∷ ws = c.first_word.ensures ∙ ap (λ (w : List ℕ). w ∷ ws) (bytes_yes c.first_word.result.0.now (codes "t") same) in
    let eighteen : length (limits_of 1 command.Triangle) ≡ 18 = refl in
    let none : length (left_words c.in-Ok-None.field-0) ≡ 0 = ap (λ o. length (left_words o)) c.in-Ok-None.field-0-is in
    let count : length ws ≡ 18 = omega (arith, c.in-Ok-None.ensures.left, ap length c.limits.ensures, eighteen, none) in
    let numbers : numbers_at (limits_of 1 command.Triangle) ws ≡ Ok zs = rw c.limits.ensures at c.in-Ok-None.ensures.read in
    λ _. triangle_line c.args.line.now ws zs c.if-line-gt-MAX_LINE_LEN.false split count numbers
