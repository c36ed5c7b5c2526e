-- What the steps of a play are like: a line can make them.
use Rattle.std.specs.Prelude.{◌≡◌, ℕ, List, [], ◌∷◌, ℤ, slice_index_or, slice_index, pos}
use Rattle.std.specs.List.{AllByRecursion}
use Rattle.fx_math.specs.Within.{entry, row_at}
use Rattle.fx_math.specs.Constants.{origin_vector}
use Rattle.pf_model.specs.Angles.{EulerPose}
use Rattle.pf_model.specs.declared.geometry.Tri.{Tri}
use Rattle.pf_model.specs.declared.nodes.Kind.{Kind}
use Rattle.pf_model.specs.declared.nodes.Kind.TheVariants as kind
use Rattle.pf_model.specs.declared.nodes.Pick.TheVariants as pick
use Rattle.pf_model.specs.declared.nodes.Run.TheVariants as run
use Rattle.pf_model.specs.declared.poses.Pose.TheVariants as pose
use Rattle.pf_model.specs.declared.edits.Edit.{Edit}
use Rattle.pf_model.specs.declared.edits.Edit.TheVariants as edit
use Rattle.pf_model.specs.declared.lines.AppStep.{AppStep}
use Rattle.pf_model.specs.declared.lines.AppStep.TheVariants as app_step
use Rattle.pf_model.specs.declared.lines.BaseStep.{BaseStep}
use Rattle.pf_model.specs.declared.lines.BaseStep.TheVariants as base_step

-- a matrix has three rows of three entries
pub record IsSquare (a : List (List ℤ)) : Type 0 where
  pub rows : a ≡ (entry (row_at a 0) 0 ∷ entry (row_at a 0) 1 ∷ entry (row_at a 0) 2 ∷ [])
      ∷ (entry (row_at a 1) 0 ∷ entry (row_at a 1) 1 ∷ entry (row_at a 1) 2 ∷ [])
      ∷ (entry (row_at a 2) 0 ∷ entry (row_at a 2) 1 ∷ entry (row_at a 2) 2 ∷ []) ∷ []

abbrev pub channel : List (List ℕ) → ℕ → ℕ → ℕ
channel c i j = slice_index (slice_index_or c i []) j

-- three colours have three numbers each
pub record AreColours (c : List (List ℕ)) : Type 0 where
  pub rows : c ≡ (channel c 0 0 ∷ channel c 0 1 ∷ channel c 0 2 ∷ [])
      ∷ (channel c 1 0 ∷ channel c 1 1 ∷ channel c 1 2 ∷ [])
      ∷ (channel c 2 0 ∷ channel c 2 1 ∷ channel c 2 2 ∷ []) ∷ []

abbrev pub AreTriangles : List Tri → Type 0
AreTriangles ts = AllByRecursion (λ t. AreColours t.c) ts

-- the pose of a new dynamic coordinate system: the scale 1, and all else 0
abbrev pub new_pose : EulerPose
new_pose = record { scale = pos 65536; h = pos 0; p = pos 0; r = pos 0; t = origin_vector }

-- A kind as a line makes it: a new switch is off, a new DCS has the pose of scale 1, a new LOD has the centre 0 and no
-- ranges, and a new sequence has no times and is held at place 0.
abbrev pub IsNew : Kind → Type 0
IsNew (kind.Switch p) = p ≡ pick.Off
IsNew (kind.Scs m) = IsSquare m.a
IsNew (kind.Dcs p) = p ≡ pose.Euler new_pose
IsNew (kind.Lod c rs) = (c ≡ origin_vector) × (rs ≡ [])
IsNew (kind.Seq ts r) = (ts ≡ []) × (r ≡ run.Held 0)
IsNew (kind.Geode s ts) = AreTriangles ts
IsNew (kind.Glass s a ts) = AreTriangles ts
IsNew _ = Unit {0}

abbrev pub IsWritten : Edit → Type 0
IsWritten (edit.Make id k) = IsNew k
IsWritten (edit.Mat id m) = IsSquare m.a
IsWritten (edit.Verts id ts) = AreTriangles ts
IsWritten _ = Unit {0}

-- a link that is asked for
abbrev pub IsLink : Edit → Type 0
IsLink (edit.Add p c) = Unit {0}
IsLink (edit.Remove p c) = Unit {0}
IsLink _ = ⊥

abbrev pub IsAppStep : AppStep → Type 0
IsAppStep (app_step.Edit e) = IsWritten e
IsAppStep _ = Unit {0}

abbrev pub IsBaseStep : BaseStep → Type 0
IsBaseStep (base_step.Edit e) = IsWritten e
IsBaseStep (base_step.Ask e) = IsLink e
IsBaseStep _ = Unit {0}
