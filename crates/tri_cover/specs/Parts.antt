-- The triangles of a list of instances, one by one.
use Rattle.std.specs.Prelude.{◌≡◌, ℕ, ◌<◌, List, map, filter, flat_map, Option, Some, true, false}
use Rattle.std.specs.List.{enumerate_from, slice_get}
use Rattle.std.specs.Option.{option_and_then}
use Rattle.fx_math.specs.declared.lenses.Lens.{Lens}
use Rattle.pf_model.specs.declared.geometry.Tri.{Tri}
use Rattle.pf_model.specs.Walks.{Instance}
use Rattle.tri_cover.specs.Glass.{is_opaque}
use Rattle.tri_cover.specs.Picture.{Fragment, is_less, fragment_at}

-- a triangle of an instance, and its number there
pub record Part : Type 0 where
  pub instance : Instance
  pub number : ℕ
  pub tri : Tri

abbrev pub part_of : Instance → ℕ × Tri → Part
part_of x (number, tri) = record { instance = x; number = number; tri = tri }

-- the triangles of the opaque instances, as the list stands
abbrev pub opaque_parts : List Instance → List Part
opaque_parts xs = flat_map (λ x. map (part_of x) (enumerate_from 0 x.tris)) (filter is_opaque xs)

-- the fragment of a triangle at a pixel, where it hits
abbrev pub fragment_in : Lens → (px py : ℕ) → Part → Option Fragment
fragment_in lens px py p = fragment_at lens px py p.instance (p.number, p.tri)

-- the fragment of the triangle that stands at i, where there is one and it hits
abbrev pub fragment_standing : Lens → (px py : ℕ) → List Part → ℕ → Option Fragment
fragment_standing lens px py ps i = option_and_then (fragment_in lens px py) (slice_get ps i)

-- the triangle that stands at i has this fragment: none has a lesser key, and those that stand before it a greater one
pub record IsFirstHit (lens : Lens) (px py : ℕ) (ps : List Part) (i : ℕ) (f : Fragment) : Type 0 where
  pub hits : fragment_standing lens px py ps i ≡ Some f
  pub least : (j : ℕ) (g : Fragment) → fragment_standing lens px py ps j ≡ Some g → is_less g.key f.key ≡ false
  pub first : (j : ℕ) (g : Fragment) → j < i → fragment_standing lens px py ps j ≡ Some g
      → is_less f.key g.key ≡ true
