-- What is written of a line, piece by piece.
use Rattle.std.specs.Prelude.{ℕ, List, ◌∷◌, ℤ}
use Rattle.std.specs.List.{flat_map}
use Rattle.std.specs.Fmt.{signed_decimal}
use Rattle.play_format.specs.declared.commands.Form.{Form}
use Rattle.play_format.specs.Commands.{form_tail}

-- a number behind a space
abbrev pub number_text : ℤ → List ℕ
number_text z = 32 ∷ signed_decimal z

abbrev pub numbers_text : List ℤ → List ℕ
numbers_text zs = flat_map number_text zs

-- the closing word of an edit behind a space, where it has one
abbrev pub tail_text : Form → List ℕ
tail_text f = flat_map (λ w. 32 ∷ w) (form_tail f)
