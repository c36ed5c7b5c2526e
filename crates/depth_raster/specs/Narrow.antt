-- The edge values of a face in 64 bits, along a row of pixels.
use Rattle.std.specs.Prelude.{◌≡◌, ℕ, ◌*◌, ◌^◌, ℤ, pos, ◌*ℤ◌}
use Rattle.tri_cover.specs.Linears.{value_at, step_of}
use Rattle.tri_cover.specs.declared.face.Face.{Face}
use Rattle.tri_cover.specs.declared.linear.Linear.{Linear}
use Rattle.edge_values.specs.Small.{AreWithin}
use Rattle.edge_values.specs.declared.narrow.NarrowLine.{NarrowLine}
use Rattle.edge_values.specs.declared.narrow.NarrowValues.{NarrowValues}

-- the values are those of the face at the pixel
pub record AreNarrowAt (f : Face) (px py : ℕ) (v : NarrowValues) : Type 0 where
  pub first_is : v.first ≡ value_at f.edges.e0 px py
  pub second_is : v.second ≡ value_at f.edges.e1 px py
  pub third_is : v.third ≡ value_at f.edges.e2 px py

-- by how much those of the face change from a pixel to the next one of its row
pub record AreNarrowSlopes (f : Face) (v : NarrowValues) : Type 0 where
  pub first_is : v.first ≡ step_of f.edges.e0
  pub second_is : v.second ≡ step_of f.edges.e1
  pub third_is : v.third ≡ step_of f.edges.e2

-- by how much the value changes from a pixel to the one below it
abbrev pub fall_of : Linear → ℤ
fall_of g = pos 2 *ℤ g.b

-- by how much the values of the face do
pub record AreNarrowFalls (f : Face) (v : NarrowValues) : Type 0 where
  pub first_is : v.first ≡ fall_of f.edges.e0
  pub second_is : v.second ≡ fall_of f.edges.e1
  pub third_is : v.third ≡ fall_of f.edges.e2

-- the line is that of the face from the pixel to another of its row
pub record IsLineAt (f : Face) (px end py : ℕ) (l : NarrowLine) : Type 0 where
  pub start : AreNarrowAt f px py l.start
  pub last : AreNarrowAt f end py l.last
  pub steps : AreNarrowSlopes f l.steps
  pub small : AreWithin (3 * 2 ^ 50) l.start.first l.start.second l.start.third
  pub small_steps : AreWithin (2 ^ 40) l.steps.first l.steps.second l.steps.third
