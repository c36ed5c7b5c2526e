use mir.Val.{bool_byte}
use Rattle.std.proofs.Common.{Bool, ◌≡◌, ◌∙◌, ◌-◌, ℕ, List, refl, sym, ap, length, drop, take, cond, eqb, true, false, rules}
use Rattle.std.specs.Prelude.{FitsSigned, slice_index}
use Rattle.std.specs.Int.{w64}
use Rattle.std.proofs.lemmas.Int.{to_z-of_z}
use Rattle.play_format.proofs.LineLemmas.{rest_is}
use Rattle.play_format.proofs.FrontLemmas.{signed_yes, unsigned}
use Rattle.play_format.proofs.numbers.signed.Goals as goal
use Rattle.play_format.proofs.numbers.signed.Goals.{else-is_negative-via-then-is_negative+else-begins_with, else-is_negative-via-else-is_negative}

one_or_none : (b : Bool) → bool_byte b ≡ cond b 1 0
one_or_none true = refl
one_or_none false = refl

pub returns : goal.returns
returns c =
    let text = c.args.text.now in
    let sign = c.begins_with-is_negative.result in
    let left : take (length text - c.from.result) (drop c.from.result text) ≡ unsigned text sign = rest_is text c.from.result ∙ ap (λ (k : ℕ). drop k text) (c.from.ensures ∙ one_or_none sign) in
    let no_zero : sign ≡ true → eqb (slice_index (unsigned text sign) 0) 48 ≡ false = elim c.else-is_negative.branch [
      | else-is_negative-via-then-is_negative+else-begins_with w ↦ λ _. ap (λ (t : List ℕ). eqb (slice_index t 0) 48) (sym left) ∙ sym w.begins_with.ensures ∙ w.if-begins_with.false
      | else-is_negative-via-else-is_negative w ↦ λ e. let f = w.if-is_negative.false in absurd cc
    ] in
    let read = rw left at c.in_ok-n.ensures in
    let fits : FitsSigned w64 c.with_sign.result = search rules in
    let all = signed_yes text sign c.in_ok-n.n c.in_ok-n.rest (sym c.begins_with-is_negative.ensures) no_zero read.0 read.1 read.2 in
    rw (to_z-of_z w64 c.with_sign.result fits) (all.0, c.with_sign.ensures ∙ all.1, all.2)
