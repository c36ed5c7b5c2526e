-- Joints: lists of steps to the eye, each above another one.
use Rattle.std.specs.Prelude.{ℕ, ◌+◌, ◌-◌, ◌<◌, ⊤, ◌==◌, if◌then◌else◌, List, [], ◌∷◌, ◌++◌, fold, slice_index_or}
use Rattle.fx_math.specs.Plain.{Matrix}
use Rattle.draw_list.specs.Steps.{joint_matrices}
use Rattle.draw_list.specs.declared.joints.Joint.{Joint}

-- The steps to the eye of each joint, nearest first, and how many more joints have room. The joint 0 is the view.
pub record JointList : Type 0 where
  pub lists : List (List Matrix)
  pub spare : ℕ

-- the steps of a joint
abbrev pub steps_at : List (List Matrix) → ℕ → List Matrix
steps_at lists joint = slice_index_or lists joint []

-- a further joint, whose steps lead to the joint `up`
abbrev pub joint_above : List (List Matrix) → ℕ → List Matrix → List (List Matrix)
joint_above lists up steps = lists ++ (steps ++ steps_at lists up) ∷ []

-- the list with a further joint, where there is room
abbrev pub with_joint : ℕ → List Matrix → JointList → JointList
with_joint up steps d =
    if d.spare == 0 then d else record { lists = joint_above d.lists up steps; spare = d.spare - 1 }

abbrev pub grown : List (List Matrix) → Joint → List (List Matrix)
grown lists j = joint_above lists j.up (joint_matrices j.steps)

-- the steps of the view, and of each joint in turn
abbrev pub step_lists : List Matrix → List Joint → List (List Matrix)
step_lists view joints = fold grown (view ∷ []) joints

-- each joint leads to an earlier one, where the first has the number n
abbrev pub AreBefore : ℕ → List Joint → Type 0
AreBefore n [] = ⊤
AreBefore n (j ∷ js) = (j.up < n) × AreBefore (n + 1) js
