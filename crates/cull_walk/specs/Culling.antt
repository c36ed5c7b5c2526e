-- What culling owes the picture.
use Rattle.std.specs.Prelude.{ℕ, ◌<◌, Bool, not, List}
use Rattle.fx_math.specs.declared.lenses.Lens.{Lens}
use Rattle.pf_model.specs.Walks.{Instance, instance_box}
use Rattle.draw_list.specs.Shown.{is_off}
use Rattle.tri_cover.specs.Orders.{HaveOneColour}

-- the instance's own eye box is not outside
abbrev pub is_instance_in_sight : Lens → Instance → Bool
is_instance_in_sight lens x = not (is_off lens (instance_box x))

-- through the lens the two lists have the same picture, before each background
abbrev pub HaveOnePictureThrough : Lens → List Instance → List Instance → Type 0
HaveOnePictureThrough lens xs ys = (px py : ℕ) → px < lens.w → py < lens.h → HaveOneColour lens px py xs ys
