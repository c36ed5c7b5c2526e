-- The fragments of least key of a list.
use Rattle.std.specs.Prelude.{◌≡◌, List, [], ◌∷◌, ◌++◌, Option, Some, None, Contains, true, false}
use Rattle.std.specs.List.{All}
use Rattle.tri_cover.specs.Picture.{Fragment, is_less}

-- the fragment is one of the list, and none of the list has a lesser key
pub record IsLeast (fs : List Fragment) (f : Fragment) : Type 0 where
  pub among : Contains fs f
  pub least : All (λ g. is_less g.key f.key ≡ false) fs

-- the fragment is the first of those of least key: each before it has a greater one, and none after it a lesser one
pub record IsFirstLeast (fs : List Fragment) (f : Fragment) : Type 0 where
  pub before : List Fragment
  pub after : List Fragment
  pub stands : fs ≡ before ++ f ∷ after
  pub greater : All (λ g. is_less f.key g.key ≡ true) before
  pub least : All (λ g. is_less g.key f.key ≡ false) after

-- the first of those of least key, or none of an empty list
abbrev pub IsNearest : List Fragment → Option Fragment → Type 0
IsNearest fs None = fs ≡ []
IsNearest fs (Some f) = IsFirstLeast fs f
