-- Instances whose triangles are in eye coordinates.
use Rattle.std.specs.Prelude.{◌≡◌, ℕ, ◌-◌, List, [], fold, filter_map, Option}
use Rattle.std.specs.List.{enumerate_from, AllZip}
use Rattle.std.specs.Option.{option_map}
use Rattle.fx_math.specs.Plain.{Matrix}
use Rattle.fx_math.specs.declared.lenses.Lens.{Lens}
use Rattle.pf_model.specs.declared.geometry.Tri.{Tri}
use Rattle.pf_model.specs.Walks as walks
use Rattle.tri_cover.specs.declared.hit.Hit.{Hit}
use Rattle.tri_cover.specs.Hits.{hit, HitsAs}
use Rattle.tri_cover.specs.Glass.{alpha_of}
use Rattle.tri_cover.specs.Picture as pictures
use Rattle.pf_picture.specs.declared.shapes.Shape.{Shape}

-- each triangle of the second list is hit as that of the first is after the steps
abbrev pub AreCarried : List Matrix → List Tri → List Tri → Type 0
AreCarried steps tris carried = AllZip (λ t c. HitsAs t steps c) tris carried

-- what a hit of the triangle of a number gives
abbrev pub fragment_in : Shape → ℕ → Hit → pictures.Fragment
fragment_in s number h =
    record { key = record { depth = h.depth - s.shift; place = s.place; number = number }; colour = h.colour }

abbrev pub fragment_at : Lens → (px py : ℕ) → Shape → ℕ × Tri → Option pictures.Fragment
fragment_at lens px py s (number, tri) = option_map (fragment_in s number) (hit lens px py [] tri)

abbrev pub fragments : Lens → (px py : ℕ) → Shape → List pictures.Fragment
fragments lens px py s = filter_map (fragment_at lens px py s) (enumerate_from 0 s.tris.items)

unfoldable pub nearest_of : Lens → (px py : ℕ) → Option pictures.Fragment → Shape → Option pictures.Fragment
nearest_of lens px py best s = fold pictures.nearer best (fragments lens px py s)

unfoldable pub glazed_by : Lens → (px py : ℕ) → Option pictures.Fragment → List ℕ → Shape → List ℕ
glazed_by lens px py behind under s = fold (pictures.glazed behind s.alpha) under (fragments lens px py s)

-- the shape of an instance
pub record IsShapeOf (x : walks.Instance) (s : Shape) : Type 0 where
  pub alpha : alpha_of x ≡ s.alpha
  pub seen : (lens : Lens) (px py : ℕ) → fragments lens px py s ≡ pictures.fragments lens px py x
