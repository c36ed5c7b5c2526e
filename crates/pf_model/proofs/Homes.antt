-- The view from the origin.
use Rattle.std.proofs.Common.{◌≡◌, ℤ, pos, ap}
use Rattle.std.proofs.Props.{props}
use Rattle.fx_math.specs.Within.{AreCoordinates}
use Rattle.fx_math.specs.Constants.{origin_vector}
use Rattle.pf_model.specs.Angles.{Viewpoint, home_view}

coordinates_once : (x y z : ℤ) → IsProp (AreCoordinates x y z)
coordinates_once x y z = hlevel props

-- it is the same however its coordinates are shown to be in range
pub home_is : (h : AreCoordinates (pos 0) (pos 0) (pos 0)) → record { eye = record { x = pos 0; y = pos 0; z = pos 0; in_range = h }; h = pos 0; p = pos 0; r = pos 0 } ≡ home_view
home_is h = ap from (coordinates_once (pos 0) (pos 0) (pos 0) h origin_vector.in_range)
  where
    from : AreCoordinates (pos 0) (pos 0) (pos 0) → Viewpoint
    from k = record { eye = record { x = pos 0; y = pos 0; z = pos 0; in_range = k }; h = pos 0; p = pos 0; r = pos 0 }
