-- What clauses see of the types: the plain record of each.
use Rattle.fx_math.specs.Plain.{Point, Matrix, Bounds, point, matrix}
use Rattle.fx_math.specs.declared.vectors.Vec3.{Vec3}
use Rattle.fx_math.specs.declared.matrices.Affine.{Affine}
use Rattle.fx_math.specs.declared.boxes.Box3.{Box3}

abbrev pub point_of : Vec3 → Point
point_of v = point v.x v.y v.z

abbrev pub matrix_of : Affine → Matrix
matrix_of m = matrix m.a (point_of m.t)

abbrev pub bounds_of : Box3 → Bounds
bounds_of b = record { lo = point_of b.lo; hi = point_of b.hi }
