-- Planes through the eye and two points, by their normals.
use Rattle.std.specs.Prelude.{◌≡◌, ℕ, ℤ, ◌+ℤ◌, ◌-ℤ◌, ◌*ℤ◌}
use Rattle.fx_math.specs.Plain.{Point, point}
use Rattle.fx_math.specs.Hit.{ray}
use Rattle.fx_math.specs.declared.lenses.Lens.{Lens}
use Rattle.tri_cover.specs.declared.linear.Linear.{Linear}
use Rattle.tri_cover.specs.declared.edge_functions.EdgeFunctions.{EdgeFunctions}
use Rattle.tri_cover.specs.declared.plane.Plane.{Plane}
use Rattle.tri_cover.specs.Linears.{value_at, IsNarrow}
use Rattle.tri_cover.specs.Normals.{turned}

abbrev pub normal_of : Plane → Point
normal_of k = point k.x k.y k.z

-- the normal of the plane through the eye and two points
unfoldable pub cross : Point → Point → Point
cross p q = point
    (p.y *ℤ q.z -ℤ p.z *ℤ q.y)
    (p.z *ℤ q.x -ℤ p.x *ℤ q.z)
    (p.x *ℤ q.y -ℤ p.y *ℤ q.x)

-- the scalar product of two points
unfoldable pub product : Point → Point → ℤ
product p q = p.x *ℤ q.x +ℤ p.y *ℤ q.y +ℤ p.z *ℤ q.z

-- the same of a point
abbrev pub turned_point : (sign : ℤ) → Point → Point
turned_point sign p = point (turned sign p.x) (turned sign p.y) (turned sign p.z)

-- at each pixel the function is the scalar product of its ray with the normal
pub record IsLinearOf (lens : Lens) (normal : Point) (g : Linear) : Type 0 where
  pub narrow : IsNarrow g
  pub value : (px py : ℕ) → value_at g px py ≡ product (ray lens px py) normal

-- the same of the three edge values, whose normals are turned where the determinant of the vertices is below 0
pub record AreEdgesOf (lens : Lens) (volume : ℤ) (first second third : Point) (g : EdgeFunctions) : Type 0 where
  pub first_is : IsLinearOf lens (turned_point volume first) g.e0
  pub second_is : IsLinearOf lens (turned_point volume second) g.e1
  pub third_is : IsLinearOf lens (turned_point volume third) g.e2
