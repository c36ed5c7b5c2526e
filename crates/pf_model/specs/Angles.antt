-- What clauses see of an Euler pose and of a view, and the ranges that their types keep.
use Rattle.std.specs.Prelude.{ℤ, pos}
use Rattle.fx_math.specs.Constants.{origin_vector}
use Rattle.fx_math.specs.Within.{IsWithin}
use Rattle.fx_math.specs.declared.vectors.Vec3.{Vec3}

-- A pose by a scale (1/65536), a heading, a pitch and a roll (tenths of a degree) and a translation.
pub record EulerPose : Type 0 where
  pub scale : ℤ
  pub h : ℤ
  pub p : ℤ
  pub r : ℤ
  pub t : Vec3

-- Where the eye stands, and its heading, pitch and roll (tenths of a degree).
pub record Viewpoint : Type 0 where
  pub eye : Vec3
  pub h : ℤ
  pub p : ℤ
  pub r : ℤ

-- from the origin along Y, with angles of 0
abbrev pub home_view : Viewpoint
home_view = record { eye = origin_vector; h = pos 0; p = pos 0; r = pos 0 }

-- three angles of at most a full turn either way
pub record AreAngles (h p r : ℤ) : Type 0 where
  pub heading : IsWithin 3600 h
  pub pitch : IsWithin 3600 p
  pub roll : IsWithin 3600 r

-- what the type of an Euler pose keeps: a scale of at most 16, and three angles
pub record IsEulerPose (scale h p r : ℤ) : Type 0 where
  pub small : IsWithin 1048576 scale
  pub angles : AreAngles h p r
