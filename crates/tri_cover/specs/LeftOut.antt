-- What a picture owes the instances that hit nothing.
use Rattle.std.specs.Prelude.{◌≡◌, ℕ, List, Bool, false, None}
use Rattle.std.specs.List.{All}
use Rattle.fx_math.specs.Plain.{Matrix}
use Rattle.fx_math.specs.Fixed.{carry}
use Rattle.fx_math.specs.Hit.{is_hit}
use Rattle.fx_math.specs.declared.lenses.Lens.{Lens}
use Rattle.pf_model.specs.declared.geometry.Tri.{Tri}
use Rattle.pf_model.specs.Walks.{Instance}
use Rattle.tri_cover.specs.Hits.{vertex, hit}

-- the pixel's ray meets the triangle after the steps, between the lens's depths
abbrev pub is_hit_by : Lens → (px py : ℕ) → List Matrix → Tri → Bool
is_hit_by lens px py steps t =
    is_hit lens px py (carry steps (vertex t 0)) (carry steps (vertex t 1)) (carry steps (vertex t 2))

-- the pixel's ray meets no triangle of the instance between the lens's depths
abbrev pub IsMissed : Lens → (px py : ℕ) → Instance → Type 0
IsMissed lens px py x = All (λ t. is_hit_by lens px py x.steps t ≡ false) x.tris

-- no triangle of the instance has a hit at the pixel
abbrev pub HasNoHit : Lens → (px py : ℕ) → Instance → Type 0
HasNoHit lens px py x = All (λ t. hit lens px py x.steps t ≡ None) x.tris

-- each instance that the test leaves out has no hit at the pixel
abbrev pub LeavesOutNoHit : Lens → (px py : ℕ) → (keep : Instance → Bool) → List Instance → Type 0
LeavesOutNoHit lens px py keep xs = All (λ x. keep x ≡ false → HasNoHit lens px py x) xs
