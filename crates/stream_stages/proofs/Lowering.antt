-- What a coordinate system adds to the joints of a list.
use Rattle.std.proofs.Common.{◌≡◌, ◌∙◌, ℕ, ◌+◌, ◌-◌, ◌≤◌, ◌<◌, List, [], ◌∷◌, ◌++◌, length, Bool, true, false, cond, Option, Some, None, ap, sym, refl, subst, arith, length-append}
use Rattle.std.specs.Prelude.{◌==◌, is_some}
use Rattle.std.specs.Option.{option_map_or}
use Rattle.std.proofs.lemmas.Bool.Decides.{nat_tests}
use Rattle.std.proofs.Math.ListN.{get_or-append}
use Rattle.std.proofs.Math.Seq.{get_or-append_seam}
use Rattle.fx_math.specs.Plain.{Matrix}
use Rattle.pf_model.specs.declared.nodes.Kind.{Kind}
use Rattle.pf_model.specs.declared.nodes.Kind.TheVariants.{Group, Switch, Scs, Dcs, Lod, Seq, Layer, Geode, Glass}
use Rattle.pf_model.specs.declared.poses.Pose.{Pose}
use Rattle.pf_model.specs.Kinds.{own_steps, pose_steps}
use Rattle.draw_list.specs.Joints.{JointList, steps_at, joint_above}
use Rattle.draw_list.specs.Lists.{Drawables}
use Rattle.cull_walk.specs.Working.{own_pose, joint_below, with_below}

-- the list e has the joints of d, each with its steps, and items and triangles of its own
pub record HasMoreJoints (d e : Drawables) : Type 0 where
  pub steps : (j : ℕ) → j < length d.joints.lists → steps_at e.joints.lists j ≡ steps_at d.joints.lists j
  pub longer : length d.joints.lists ≤ length e.joints.lists
  pub room : e.joints.spare + length e.joints.lists ≡ d.joints.spare + length d.joints.lists
  pub items : e.items ≡ d.items
  pub kept : e.kept ≡ d.kept

pub more_itself : (d : Drawables) → HasMoreJoints d d
more_itself d = record { steps = λ j l. refl; longer = omega arith; room = refl; items = refl; kept = refl }

pub more_both : (d e f : Drawables) → HasMoreJoints d e → HasMoreJoints e f → HasMoreJoints d f
more_both d e f h k = record {
  steps = λ j l. k.steps j (omega (arith, l, h.longer)) ∙ h.steps j l;
  longer = omega (arith, h.longer, k.longer);
  room = k.room ∙ h.room;
  items = k.items ∙ h.items;
  kept = k.kept ∙ h.kept;
}

-- a joint below another one
pub record IsLower (d e : Drawables) (answer : Option ℕ) (steps : List Matrix) : Type 0 where
  pub joint : ℕ
  pub answers : answer ≡ Some joint
  pub there : joint < length e.joints.lists
  pub steps_are : steps_at e.joints.lists joint ≡ steps
  pub more : HasMoreJoints d e
  pub spent : d.joints.spare ≤ e.joints.spare + 1

pub own_steps_are : (k : Kind) → own_steps k ≡ option_map_or pose_steps (own_pose k) []
own_steps_are Group = refl
own_steps_are (Switch p) = refl
own_steps_are (Scs m) = refl
own_steps_are (Dcs p) = refl
own_steps_are (Lod c rs) = refl
own_steps_are (Seq ts r) = refl
own_steps_are Layer = refl
own_steps_are (Geode s ts) = refl
own_steps_are (Glass s a ts) = refl

not_zero : (n : ℕ) → 0 < n → (n == 0) ≡ false
not_zero n l = grind (arith, nat_tests)

some_left : (n : ℕ) → (n == 0) ≡ false → 0 < n
some_left n e = grind (arith, nat_tests)

abbrev jointed : Drawables → JointList → Drawables
jointed d joints = record { joints = joints; items = d.items; kept = d.kept }

abbrev pushed : JointList → ℕ → List Matrix → JointList
pushed d up steps = record { lists = joint_above d.lists up steps; spare = d.spare - 1 }

pushed_more : (d : Drawables) (up : ℕ) (steps : List Matrix) → 0 < d.joints.spare → HasMoreJoints d (jointed d (pushed d.joints up steps))
pushed_more d up steps some = record {
  steps = λ j l. get_or-append d.joints.lists ((steps ++ steps_at d.joints.lists up) ∷ []) [] j l;
  longer = omega (arith, length-append d.joints.lists ((steps ++ steps_at d.joints.lists up) ∷ []));
  room = omega (arith, some, length-append d.joints.lists ((steps ++ steps_at d.joints.lists up) ∷ []));
  items = refl;
  kept = refl;
}

lower_pose : (d : Drawables) (joint : ℕ) (p : Option Pose) → joint < length d.joints.lists → 0 < d.joints.spare →
    IsLower d (with_below joint d p) (joint_below joint d p) (option_map_or pose_steps p [] ++ steps_at d.joints.lists joint)
lower_pose d joint None there some = record {
  joint = joint;
  answers = refl;
  there = there;
  steps_are = refl;
  more = more_itself d;
  spent = omega arith;
}
lower_pose d joint (Some p) there some =
    subst (λ (t : Bool). IsLower d (jointed d (cond t d.joints (pushed d.joints joint (pose_steps p)))) (cond t None (Some (length d.joints.lists))) (pose_steps p ++ steps_at d.joints.lists joint))
    (sym (not_zero d.joints.spare some)) (record {
      joint = length d.joints.lists;
      answers = refl;
      there = omega (arith, length-append d.joints.lists ((pose_steps p ++ steps_at d.joints.lists joint) ∷ []));
      steps_are = get_or-append_seam d.joints.lists (pose_steps p ++ steps_at d.joints.lists joint) [] [];
      more = pushed_more d joint (pose_steps p) some;
      spent = omega (arith, some);
    })

pub lowered : (d : Drawables) (joint : ℕ) (k : Kind) → joint < length d.joints.lists → 0 < d.joints.spare →
    IsLower d (with_below joint d (own_pose k)) (joint_below joint d (own_pose k)) (own_steps k ++ steps_at d.joints.lists joint)
lowered d joint k there some =
    subst (λ (ms : List Matrix). IsLower d (with_below joint d (own_pose k)) (joint_below joint d (own_pose k)) (ms ++ steps_at d.joints.lists joint)) (sym (own_steps_are k))
    (lower_pose d joint (own_pose k) there some)

-- also where there is no room, the joints that there are stay, and an answer is a joint
pub record IsBelow (d e : Drawables) (answer : Option ℕ) : Type 0 where
  pub more : HasMoreJoints d e
  pub there : (j : ℕ) → Some j ≡ answer → j < length e.joints.lists

below_pose : (d : Drawables) (joint : ℕ) (p : Option Pose) → joint < length d.joints.lists → IsBelow d (with_below joint d p) (joint_below joint d p)
below_pose d joint None l = record {
  more = more_itself d;
  there = λ j e. let same : j ≡ joint = ap (λ (o : Option ℕ). option_map_or (λ n. n) o 0) e in omega (arith, l, same);
}
below_pose d joint (Some p) l = by (d.joints.spare == 0) refl
  where
    by : (t : Bool) → (d.joints.spare == 0) ≡ t → IsBelow d (jointed d (cond t d.joints (pushed d.joints joint (pose_steps p)))) (cond t None (Some (length d.joints.lists)))
    by true e = record { more = more_itself d; there = λ j f. absurd (cc) }
    by false e = record {
      more = pushed_more d joint (pose_steps p) (some_left d.joints.spare e);
      there = λ j f. let same : j ≡ length d.joints.lists = ap (λ (o : Option ℕ). option_map_or (λ n. n) o 0) f in
          omega (arith, same, length-append d.joints.lists ((pose_steps p ++ steps_at d.joints.lists joint) ∷ []));
    }

pub below_is : (d : Drawables) (joint : ℕ) (p : Option Pose) → joint < length d.joints.lists → IsBelow d (with_below joint d p) (joint_below joint d p)
below_is d joint p l = below_pose d joint p l

-- a joint that is answered is below the other one
pub lowered_some : (d : Drawables) (joint : ℕ) (k : Kind) (j : ℕ) → joint < length d.joints.lists → joint_below joint d (own_pose k) ≡ Some j →
    IsLower d (with_below joint d (own_pose k)) (Some j) (own_steps k ++ steps_at d.joints.lists joint)
lowered_some d joint k j there answers =
    subst (λ (ms : List Matrix). IsLower d (with_below joint d (own_pose k)) (Some j) (ms ++ steps_at d.joints.lists joint)) (sym (own_steps_are k))
    (subst (λ (o : Option ℕ). IsLower d (with_below joint d (own_pose k)) o (option_map_or pose_steps (own_pose k) [] ++ steps_at d.joints.lists joint)) answers
    (by (own_pose k) (d.joints.spare == 0) refl (ap is_some answers)))
  where
    by : (p : Option Pose) (t : Bool) → (d.joints.spare == 0) ≡ t → is_some (joint_below joint d p) ≡ true →
        IsLower d (with_below joint d p) (joint_below joint d p) (option_map_or pose_steps p [] ++ steps_at d.joints.lists joint)
    by None t e f = record { joint = joint; answers = refl; there = there; steps_are = refl; more = more_itself d; spent = omega arith }
    by (Some p) true e f = absurd (let no : false ≡ true = sym (ap (λ (t : Bool). is_some (cond t None (Some (length d.joints.lists)))) e) ∙ f in cc)
    by (Some p) false e f = lower_pose d joint (Some p) there (some_left d.joints.spare e)
