-- What is written of a generated play, piece by piece.
use Rattle.std.specs.Prelude.{ℕ, List, [], ◌∷◌, ◌++◌, map, ℤ}
use Rattle.std.specs.List.{flat_map, join_with_byte}
use Rattle.std.specs.Fmt.{signed_decimal}
use Rattle.play_format.specs.Commands.{Entry}
use Rattle.play_format.specs.Spelling.{line_of}

-- a line of a word and numbers, with its line feed
abbrev pub word_line : List ℕ → List ℤ → List ℕ
word_line word zs = join_with_byte 32 (word ∷ map signed_decimal zs) ++ 10 ∷ []

-- the text of a line, and of lines
abbrev pub entry_text : Entry → List ℕ
entry_text e = line_of e ++ 10 ∷ []

abbrev pub lines_text : List Entry → List ℕ
lines_text es = flat_map entry_text es
