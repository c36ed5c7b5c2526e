use Rattle.std.proofs.Common.{◌≡◌, ◌∙◌, sym, ap, false, eqb, inl, inr, ◌⊎◌}
use Rattle.std.specs.Prelude.{slice_index, min}
use Rattle.std.specs.Str.Parse.{digits_value}
use Rattle.play_format.proofs.FrontLemmas.{natural_yes}
use Rattle.play_format.proofs.numbers.natural.Goals as goal
use Rattle.play_format.proofs.numbers.natural.Goals.{then-len-ne1, else-len-ne1}

pub returns : goal.returns
returns c =
    let one : (c.digits-value.result.1 ≡ 1) ⊎ (eqb (slice_index c.args.text.now 0) 48 ≡ false) = elim c.if-len-ne1.branch [
      | then-len-ne1 w ↦ inr (sym w.begins_with.ensures ∙ sym w.value-is ∙ c.if-begins_with.false)
      | else-len-ne1 w ↦ inl w.if-len-ne1.false
    ] in
    let k = natural_yes c.args.text.now c.digits-value.result.1 c.digits-value.ensures.len c.in_ok-rest.ensures.0 c.if-len-eq0.false one in
    (k.0, c.digits-value.ensures.value ∙ ap (λ w. min (digits_value 10 w) 1099511627776) (sym k.1), c.in_ok-rest.ensures.1)
