-- The steps of joints, and the matrices that they stand for.
use Rattle.std.specs.Prelude.{List, [], ◌∷◌, Option, ℤ, pos, neg_ℤ}
use Rattle.std.specs.Option.{option_map_or}
use Rattle.fx_math.specs.Plain.{Matrix, point}
use Rattle.fx_math.specs.Views.{point_of, matrix_of}
use Rattle.fx_math.specs.Steps.{identity, origin, scaling, shift}
use Rattle.draw_list.specs.declared.steps.Step.{Step}
use Rattle.draw_list.specs.declared.steps.Step.TheVariants.{Still, Shift, Linear}
use Rattle.draw_list.specs.declared.euler_steps.Factor.{Factor}
use Rattle.draw_list.specs.declared.turns.Turn.{Turn}
use Rattle.draw_list.specs.declared.euler_steps.EulerSteps.{EulerSteps}
use Rattle.draw_list.specs.declared.view_steps.ViewSteps.{ViewSteps}
use Rattle.draw_list.specs.declared.joint_steps.JointSteps.{JointSteps}
use Rattle.draw_list.specs.declared.joint_steps.JointSteps.TheVariants.{One, Euler}

abbrev pub step_matrix : Step → Matrix
step_matrix Still = identity
step_matrix (Shift t) = shift (point_of t)
step_matrix (Linear m) = matrix_of m

-- the rows of a step that turns nothing
abbrev pub unit_rows : List (List ℤ)
unit_rows = (pos 65536 ∷ pos 0 ∷ pos 0 ∷ []) ∷ (pos 0 ∷ pos 65536 ∷ pos 0 ∷ []) ∷ (pos 0 ∷ pos 0 ∷ pos 65536 ∷ []) ∷ []

-- the roll, the pitch and the turn by an angle of this sine and cosine
abbrev pub rolled : ℤ → ℤ → Matrix
rolled s c = record {
  x = point c (pos 0) (neg_ℤ s);
  y = point (pos 0) (pos 65536) (pos 0);
  z = point s (pos 0) c;
  t = origin;
}

abbrev pub pitched : ℤ → ℤ → Matrix
pitched s c = record {
  x = point (pos 65536) (pos 0) (pos 0);
  y = point (pos 0) c s;
  z = point (pos 0) (neg_ℤ s) c;
  t = origin;
}

abbrev pub turned : ℤ → ℤ → Matrix
turned s c = record {
  x = point c s (pos 0);
  y = point (neg_ℤ s) c (pos 0);
  z = point (pos 0) (pos 0) (pos 65536);
  t = origin;
}

-- a part that is left out moves no point
abbrev pub scale_matrix : Option Factor → Matrix
scale_matrix f = option_map_or (λ k. scaling k.size) f identity

abbrev pub roll_matrix : Option Turn → Matrix
roll_matrix a = option_map_or (λ t. rolled t.sine t.cosine) a identity

abbrev pub pitch_matrix : Option Turn → Matrix
pitch_matrix a = option_map_or (λ t. pitched t.sine t.cosine) a identity

abbrev pub heading_matrix : Option Turn → Matrix
heading_matrix a = option_map_or (λ t. turned t.sine t.cosine) a identity

abbrev pub euler_matrices : EulerSteps → List Matrix
euler_matrices e =
    scale_matrix e.scale ∷ roll_matrix e.roll ∷ pitch_matrix e.pitch ∷ heading_matrix e.heading
    ∷ shift (point_of e.shift) ∷ []

abbrev pub view_matrices : ViewSteps → List Matrix
view_matrices v =
    shift (point_of v.shift) ∷ heading_matrix v.heading ∷ pitch_matrix v.pitch ∷ roll_matrix v.roll ∷ []

abbrev pub joint_matrices : JointSteps → List Matrix
joint_matrices (One s) = step_matrix s ∷ []
joint_matrices (Euler e) = euler_matrices e
