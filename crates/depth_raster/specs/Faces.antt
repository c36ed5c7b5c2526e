-- What the face of a triangle shows at a pixel.
use Rattle.std.specs.Prelude.{◌≡◌, ℕ, ◌-◌, List, [], Option}
use Rattle.std.specs.Option.{option_map, option_map_or}
use Rattle.fx_math.specs.declared.lenses.Lens.{Lens}
use Rattle.fx_math.specs.Plain.{Matrix}
use Rattle.pf_model.specs.declared.geometry.Tri.{Tri}
use Rattle.pf_model.specs.Walks.{Instance}
use Rattle.draw_list.specs.declared.items.Item.{Item}
use Rattle.draw_list.specs.Items.{instance_of_item}
use Rattle.tri_cover.specs.declared.hit.Hit.{Hit}
use Rattle.tri_cover.specs.Glass.{alpha_of}
use Rattle.tri_cover.specs.Hits.{hit, HitsAs}
use Rattle.tri_cover.specs.Picture.{Fragment, glazed}
use Rattle.depth_raster.specs.declared.faces.Face.{Face}

-- what a hit of the face gives
abbrev pub fragment_in : Face → Hit → Fragment
fragment_in f h =
    record { key = record { depth = h.depth - f.shift; place = f.place; number = f.number }; colour = h.colour }

-- the fragment of the face at a pixel, where it hits
unfoldable pub fragment_by : Lens → (px py : ℕ) → Face → Option Fragment
fragment_by lens px py f = option_map (fragment_in f) (hit lens px py [] f.tri)

-- the same, where its triangle has still to take steps to the eye
unfoldable pub fragment_after : List Matrix → Lens → (px py : ℕ) → Face → Option Fragment
fragment_after steps lens px py f = option_map (fragment_in f) (hit lens px py steps f.tri)

-- what a hit of the face, of glass, leaves of the colour under it
abbrev pub glazed_by_hit : Face → (behind : Option Fragment) → Option Hit → List ℕ → List ℕ
glazed_by_hit f behind h under = option_map_or (glazed behind f.alpha under) (option_map (fragment_in f) h) under

-- what the face, of glass, leaves of the colour under it
unfoldable pub glazed_by_face : Lens → (px py : ℕ) → Face → (behind : Option Fragment) → List ℕ → List ℕ
glazed_by_face lens px py f behind under = option_map_or (glazed behind f.alpha under) (fragment_by lens px py f) under

-- the face of an item's triangle of a number, of no rank yet
abbrev pub face_of_item : Item → (number : ℕ) → Tri → Face
face_of_item item number tri =
    record { tri = tri; place = item.place; shift = item.shift; number = number; rank = 0; alpha = alpha_of (instance_of_item [] [] item) }

-- the face stands for the triangle of a number of an instance
pub record IsFaceOf (x : Instance) (n : ℕ) (t : Tri) (f : Face) : Type 0 where
  pub tri : HitsAs t x.steps f.tri
  pub place : f.place ≡ x.place
  pub shift : f.shift ≡ x.shift
  pub number : f.number ≡ n
  pub alpha : f.alpha ≡ alpha_of x
