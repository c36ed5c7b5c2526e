-- Lines of a text and words of a line.
use Rattle.std.specs.Prelude.{ℕ, ◌==◌, List}
use Rattle.std.specs.List.{slice_split}

-- the pieces round each line feed: the lines, and then what stands behind the last line feed
abbrev pub pieces : List ℕ → List (List ℕ)
pieces text = slice_split (λ b. b == 10) text

-- the pieces round each single space: a doubled, leading or trailing space makes an empty word
abbrev pub words : List ℕ → List (List ℕ)
words line = slice_split (λ b. b == 32) line
