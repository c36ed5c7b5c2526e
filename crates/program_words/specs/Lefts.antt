-- What is left of a probe's text while it is read. No public clause speaks of it.
use Rattle.std.specs.Prelude.{ℤ, List, [], ◌∷◌, Option, Some, None}
use Rattle.std.specs.Borrow.{Bor}
use Rattle.std.specs.Option.{option_map}
use Rattle.fx_math.specs.declared.vectors.Vec3.{Vec3}
use Rattle.clap.specs.Words.{Text}
use Rattle.program_words.specs.Probes.{pieces, coordinate_in, point_of}

-- the pieces of what is left, where anything is left
abbrev pub left_pieces : Option (Bor Text) → List Text
left_pieces None = []
left_pieces (Some text) = pieces text.now

-- a value, and the pieces behind it
abbrev pub with_left : {X : Type 0} → List Text → Option X → Option (X × List Text)
with_left left x = option_map (λ y. (y, left)) x

-- the coordinate of the first piece
abbrev pub next_coordinate : List Text → Option (ℤ × List Text)
next_coordinate (x ∷ left) = with_left left (coordinate_in x)
next_coordinate _ = None

-- the point of the first three pieces
abbrev pub next_point : List Text → Option (Vec3 × List Text)
next_point (x ∷ y ∷ z ∷ left) = with_left left (point_of (coordinate_in x) (coordinate_in y) (coordinate_in z))
next_point _ = None
