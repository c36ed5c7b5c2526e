-- The text of an edit, piece by piece.
use Rattle.std.proofs.Common.{◌≡◌, ℕ, List, [], ◌∷◌, ◌++◌, map, append-nil, refl, sym, ◌∙◌, ap, ℤ}
use Rattle.std.specs.List.{flat_map, join_with_byte}
use Rattle.std.specs.Fmt.{signed_decimal}
use Rattle.std.proofs.lemmas.List.Concat.{flat_map-append}
use Rattle.play_format.specs.declared.commands.Form.{Form}
use Rattle.play_format.specs.declared.commands.Command.TheVariants as command
use Rattle.play_format.specs.Commands.{form_text, form_tail}
use Rattle.play_format.specs.Spelling.{line_of}
use Rattle.play_format.specs.Texts.{numbers_text, tail_text}

-- a word behind a space
abbrev spaced : List ℕ → List ℕ
spaced w = 32 ∷ w

join_first : (w : List ℕ) (ws : List (List ℕ)) → join_with_byte 32 (w ∷ ws) ≡ w ++ flat_map spaced ws
join_first w [] = sym (append-nil w)
join_first w (v ∷ ws) = ap (λ (t : List ℕ). w ++ (32 ∷ t)) (join_first v ws)

spaced_numbers : (zs : List ℤ) → flat_map spaced (map signed_decimal zs) ≡ numbers_text zs
spaced_numbers [] = refl
spaced_numbers (z ∷ zs) = ap (λ (t : List ℕ). (32 ∷ signed_decimal z) ++ t) (spaced_numbers zs)

-- its word, its numbers and its closing word make the line of an edit
pub edit_line : (f : Form) (zs : List ℤ) → form_text f ++ (numbers_text zs ++ tail_text f) ≡ line_of (command.Edit f, zs)
edit_line f zs =
    ap (λ (t : List ℕ). form_text f ++ (t ++ tail_text f)) (sym (spaced_numbers zs))
    ∙ ap (λ (t : List ℕ). form_text f ++ t) (sym (flat_map-append spaced (map signed_decimal zs) (form_tail f)))
    ∙ sym (join_first (form_text f) (map signed_decimal zs ++ form_tail f))
