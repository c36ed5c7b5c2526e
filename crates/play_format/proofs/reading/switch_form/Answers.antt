use Rattle.std.proofs.Common.{sym, ◌∙◌, ap, ◌≡◌, ◌∷◌}
use Rattle.play_format.specs.Words.{words}
use Rattle.play_format.proofs.ReadingLemmas.{switch_words}
use Rattle.play_format.proofs.reading.switch_form.Goals as goal
use Rattle.play_format.specs.Rests.{left_words}

pub returns-in-Some-1₀ : goal.returns-in-Some-1₀
returns-in-Some-1₀ c =
    let e : words c.in-Some.line.now ≡ c.first_word.result.0.now ∷ words c.in-Some-1₀.value.now = c.first_word.ensures ∙ ap (λ r. c.first_word.result.0.now ∷ left_words r) c.in-Some-1₀.is in
    rw (c.in-Some.is, e) (c.switched.ensures ∙ sym (switch_words c.first_word.result.0.now c.in-Some-1₀.value.now))
