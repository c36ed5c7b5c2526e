-- The picture of a list of instances, pixel by pixel.
use Rattle.std.specs.Prelude.{ℕ, ◌-◌, List, fold, filter, filter_map, flat_map, if◌then◌else◌, Option, Some, None, Bool, false, nat_lt, ◌==◌, ◌&&◌, ◌||◌}
use Rattle.std.specs.List.{enumerate_from}
use Rattle.std.specs.Option.{option_map, option_map_or}
use Rattle.fx_math.specs.declared.lenses.Lens.{Lens}
use Rattle.pf_model.specs.declared.geometry.Tri.{Tri}
use Rattle.tri_cover.specs.declared.hit.Hit.{Hit}
use Rattle.tri_cover.specs.Hits.{hit}
use Rattle.pf_model.specs.Walks.{Instance}
use Rattle.tri_cover.specs.Glass.{is_opaque, is_glass, alpha_of, is_drawn_before, blend}
use Rattle.tri_cover.specs.Sorting.{sorted}

-- What decides between hits at one pixel: the depth less the decal shift, at least 0; the place of the instance; the
-- number of the triangle in it.
pub record Key : Type 0 where
  pub depth : ℕ
  pub place : ℕ
  pub number : ℕ

abbrev pub is_less : Key → Key → Bool
is_less a b =
    nat_lt a.depth b.depth
    || (a.depth == b.depth && (nat_lt a.place b.place || (a.place == b.place && nat_lt a.number b.number)))

-- the key of a hit of the triangle of a number
abbrev pub key_of : Instance → ℕ → Hit → Key
key_of x number h = record { depth = h.depth - x.shift; place = x.place; number = number }

-- a hit that stands for its triangle at a pixel
pub record Fragment : Type 0 where
  pub key : Key
  pub colour : List ℕ

abbrev pub fragment_of : Instance → ℕ → Hit → Fragment
fragment_of x number h = record { key = key_of x number h; colour = h.colour }

-- the fragment of the triangle of a number, where it hits
abbrev pub fragment_at : Lens → (px py : ℕ) → Instance → ℕ × Tri → Option Fragment
fragment_at lens px py x (number, tri) = option_map (fragment_of x number) (hit lens px py x.steps tri)

-- the fragments of an instance at a pixel, by rising number
abbrev pub fragments : Lens → (px py : ℕ) → Instance → List Fragment
fragments lens px py x = filter_map (fragment_at lens px py x) (enumerate_from 0 x.tris)

-- the one of the lesser key; at equal keys the first
abbrev pub nearer : Option Fragment → Fragment → Option Fragment
nearer None f = Some f
nearer (Some g) f = if is_less f.key g.key then Some f else Some g

-- the fragment of least key of a list, the first of them at equal keys; none of an empty list
abbrev pub nearest : List Fragment → Option Fragment
nearest fs = fold nearer None fs

-- the fragments at a pixel of the opaque instances
abbrev pub opaque_fragments : Lens → (px py : ℕ) → List Instance → List Fragment
opaque_fragments lens px py xs = flat_map (fragments lens px py) (filter is_opaque xs)

-- the opaque fragment that is drawn at a pixel
unfoldable pub nearest_opaque : Lens → (px py : ℕ) → List Instance → Option Fragment
nearest_opaque lens px py xs = nearest (opaque_fragments lens px py xs)

-- the fragment lies behind the opaque one that is drawn
abbrev pub is_hidden : Option Fragment → Fragment → Bool
is_hidden None f = false
is_hidden (Some g) f = nat_lt g.key.depth f.key.depth

-- what a fragment of glass leaves of the colour under it
abbrev pub glazed : Option Fragment → ℕ → List ℕ → Fragment → List ℕ
glazed behind alpha under f = if is_hidden behind f then under else blend alpha f.colour under

-- what an instance of glass leaves of the colour under it, triangle by triangle
unfoldable pub glazed_by : Lens → (px py : ℕ) → Option Fragment → List ℕ → Instance → List ℕ
glazed_by lens px py behind under x = fold (glazed behind (alpha_of x)) under (fragments lens px py x)

-- the colour under the glass: that of the opaque fragment, or the background where there is none
abbrev pub colour_under : (back : List ℕ) → Option Fragment → List ℕ
colour_under back behind = option_map_or (λ f. f.colour) behind back

-- The colour of the picture at the pixel (px, py): that of the opaque fragment or the background, under the glass.
unfoldable pub picture : Lens → (back : List ℕ) → List Instance → (px py : ℕ) → List ℕ
picture lens back xs px py =
    let behind = nearest_opaque lens px py xs in
    fold (glazed_by lens px py behind) (colour_under back behind) (sorted is_drawn_before (filter is_glass xs))
