-- What is drawn at the pixels of a picture.
use Rattle.std.specs.Prelude.{ℕ, List, fold, Option}
use Rattle.fx_math.specs.declared.lenses.Lens.{Lens}
use Rattle.pf_model.specs.Walks.{Instance}
use Rattle.tri_cover.specs.Picture.{Fragment, nearer, fragments, opaque_fragments, glazed_by}

-- what an opaque instance makes of what is drawn at a pixel
unfoldable pub instance_over : Lens → Instance → (px py : ℕ) → Option Fragment → Option Fragment
instance_over lens x px py drawn = fold nearer drawn (fragments lens px py x)

-- what a list of instances makes of it
unfoldable pub opaque_over : Lens → List Instance → (px py : ℕ) → Option Fragment → Option Fragment
opaque_over lens xs px py drawn = fold nearer drawn (opaque_fragments lens px py xs)

-- what an instance of glass makes of a colour, over what is drawn
abbrev pub instance_glazes : Lens → (behind : Option Fragment) → Instance → (px py : ℕ) → List ℕ → List ℕ
instance_glazes lens behind x px py under = glazed_by lens px py behind under x

-- what instances of glass, in this order, make of it
unfoldable pub glass_glazes : Lens → (behind : Option Fragment) → List Instance → (px py : ℕ) → List ℕ → List ℕ
glass_glazes lens behind xs px py under = fold (glazed_by lens px py behind) under xs
