-- Points that were carried to the eye.
use Rattle.std.specs.Prelude.{◌≡◌, List, All}
use Rattle.std.specs.Option.{ForSome}
use Rattle.fx_math.specs.Fixed.{carry}
use Rattle.fx_math.specs.Plain.{Matrix}
use Rattle.fx_math.specs.Views.{point_of}
use Rattle.draw_list.specs.Joints.{steps_at}
use Rattle.depth_raster.specs.declared.recent.Carried.{Carried}
use Rattle.depth_raster.specs.declared.recent.Recent.{Recent}

-- the point after the steps is the one in eye coordinates
abbrev pub IsCarried : List Matrix → Carried → Type 0
IsCarried steps c = point_of c.eye ≡ carry steps (point_of c.point)

-- all that are kept are so, by the steps of their joint
abbrev pub AreCarried : List (List Matrix) → Recent → Type 0
AreCarried lists r = All (λ o. ForSome o (IsCarried (steps_at lists r.joint))) r.points
