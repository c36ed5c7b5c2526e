use Rattle.std.proofs.Common.{◌≡◌, ◌∙◌, ◌+◌, ℕ, arith, refl, sym, subst, drop, get_or, eqb, true, false, ◌∷◌}
use Rattle.std.proofs.lemmas.Bool.{eq-eqb, ne_eqb}
use Rattle.play_format.specs.Words.{words}
use Rattle.play_format.proofs.LineLemmas.{rest_is}
use Rattle.play_format.proofs.FrontLemmas.{front_ends, front_goes_on, front_alone, front_first}
use Rattle.play_format.proofs.numbers.behind.Goals as goal
use Rattle.play_format.specs.Rests.{front_word, front_len}

pub returns-then-len-text : goal.returns-then-len-text
returns-then-len-text c =
    let ends : front_len c.args.text.now ≡ c.args.len = front_ends c.args.text.now (λ lt. absurd (omega (arith, lt, c.requires.digits, c.if-len-text.true))) ∙ sym c.requires.digits in
    (ends, front_alone c.args.text.now (ends ∙ c.if-len-text.true))

pub returns-then-text-len-eq32 : goal.returns-then-text-len-eq32
returns-then-text-len-eq32 c =
    let text = c.args.text.now in
    let space : eqb (get_or text c.args.len 0) 32 ≡ true = eq-eqb _ _ c.if-text-len-eq32.true in
    let ends : front_len text ≡ c.args.len = front_ends text (λ _. rw (← c.requires.digits) space) ∙ sym c.requires.digits in
    let P : ℕ → Type 0 = λ k. words text ≡ front_word text ∷ words (drop (k + 1) text) in
    let first : words text ≡ front_word text ∷ words (drop (c.args.len + 1) text) = subst P ends (front_first text (omega (arith, ends, c.requires.bound, c.if-len-text.false))) in
    rw (rest_is text (c.args.len + 1)) (ends, first)

pub returns-else-text-len-eq32 : goal.returns-else-text-len-eq32
returns-else-text-len-eq32 c =
    let text = c.args.text.now in
    let other : eqb (get_or text c.args.len 0) 32 ≡ false = ne_eqb _ _ c.if-text-len-eq32.false in
    (refl, front_goes_on text (omega (arith, c.requires.digits, c.requires.bound, c.if-len-text.false)) (rw (← c.requires.digits) other))
