-- What a picture owes the labels of its instances: their places, ids and states.
use Rattle.std.specs.Prelude.{◌≡◌, ⊤, ℕ, List, [], ◌∷◌, map, nat_lt}
use Rattle.std.specs.List.{AllZip, enumerate_from}
use Rattle.fx_math.specs.declared.lenses.Lens.{Lens}
use Rattle.pf_model.specs.Limits.{IsRising}
use Rattle.pf_model.specs.Walks.{Instance}
use Rattle.tri_cover.specs.Hits.{hit}

-- the two instances differ in no more than their places, ids and states
pub record IsRelabelled (x y : Instance) : Type 0 where
  pub tint : x.tint ≡ y.tint
  pub shift : x.shift ≡ y.shift
  pub steps : x.steps ≡ y.steps
  pub tris : x.tris ≡ y.tris
  pub far : x.far ≡ y.far

-- triangle by triangle, the two instances have the same hits at the pixel
abbrev pub HaveOneHit : Lens → (px py : ℕ) → Instance → Instance → Type 0
HaveOneHit lens px py x y = AllZip (λ t u. hit lens px py x.steps t ≡ hit lens px py y.steps u) x.tris y.tris

-- the two instances look alike at the pixel
pub record IsSeenAlike (lens : Lens) (px py : ℕ) (x y : Instance) : Type 0 where
  pub tint : x.tint ≡ y.tint
  pub shift : x.shift ≡ y.shift
  pub far : x.far ≡ y.far
  pub hits : HaveOneHit lens px py x y

-- p stands to r as q to s: below it, at it, or above it
pub record AreInOneOrder (p q r s : ℕ) : Type 0 where
  pub below : nat_lt p r ≡ nat_lt q s
  pub above : nat_lt r p ≡ nat_lt s q

-- the places of two lists are in the same order
abbrev pub PlacesAgree : List Instance → List Instance → Type 0
PlacesAgree [] ys = ⊤
PlacesAgree (x ∷ xs) [] = ⊤
PlacesAgree (x ∷ xs) (y ∷ ys) =
    AllZip (λ v w. AreInOneOrder x.place y.place v.place w.place) xs ys × PlacesAgree xs ys

-- each place is greater than those that stand earlier
abbrev pub PlacesRise : List Instance → Type 0
PlacesRise xs = IsRising (map (λ x. x.place) xs)

-- an instance with another place
abbrev pub placed : ℕ × Instance → Instance
placed (place, x) = record x { place = place }

-- the instances with the places 0, 1, 2 ..
abbrev pub renumbered : List Instance → List Instance
renumbered xs = map placed (enumerate_from 0 xs)
