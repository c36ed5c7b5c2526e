use Rattle.std.proofs.Common.{◌∙◌, ap, rules, sym}
use Rattle.std.specs.String.{string_bytes}
use Rattle.program_words.specs.Meaning.{meaning_of_values}
use Rattle.program_words.proofs.Meanings.{dashes_mean_nothing, values_mean}
use Rattle.program_words.proofs.reading.read_words.Goals as goal

pub returns-then-has_dashes-clause-wrong : goal.returns-then-has_dashes-clause-wrong
returns-then-has_dashes-clause-wrong c = λ _. dashes_mean_nothing string_bytes c.args.words.now (sym c.has_dashes.ensures ∙ c.if-has_dashes.true)

pub returns-clause-right : goal.returns-clause-right
returns-clause-right c =
    let values = values_mean string_bytes c.args.words.now (sym c.has_dashes.ensures ∙ c.if-has_dashes.false) c.in_ok-matches.ensures.0 in
    let meant = c.meaning.ensures.value ∙ ap meaning_of_values c.in_ok-matches.ensures.1 ∙ sym values in
    search rules
