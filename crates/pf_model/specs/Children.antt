-- Changes of a list of children.
use Rattle.std.specs.Prelude.{ℕ, ◌==◌, if◌then◌else◌, List, [], ◌∷◌}

-- the first x replaced by y
abbrev pub replace_first : ℕ → ℕ → List ℕ → List ℕ
replace_first x y [] = []
replace_first x y (z ∷ zs) = if z == x then y ∷ zs else z ∷ replace_first x y zs

-- the first x taken out
abbrev pub drop_first : ℕ → List ℕ → List ℕ
drop_first x [] = []
drop_first x (z ∷ zs) = if z == x then zs else z ∷ drop_first x zs
