-- Lists of steps, joint by joint.
use Rattle.std.proofs.Common.{◌≡◌, ◌∙◌, ℕ, zero, suc, ◌+◌, ◌-◌, ◌<◌, ◌≤◌, List, [], ◌∷◌, ◌++◌, length, ap, sym, refl, subst, arith, get_or, length-append}
use Rattle.std.specs.Prelude.{fold, Bool, false, cond, ◌==◌, Ok, Err}
use Rattle.std.proofs.lemmas.Bool.Decides.{nat_tests}
use Rattle.pf_model.specs.declared.poses.Pose.{Pose}
use Rattle.fx_math.specs.Plain.{Matrix, Point, Bounds}
use Rattle.fx_math.specs.Fixed.{carry, carry_box}
use Rattle.fx_math.proofs.Containment.{carry-append, carry_box-append}
use Rattle.draw_list.specs.Steps.{joint_matrices}
use Rattle.draw_list.specs.Joints.{steps_at, grown, step_lists, AreBefore}
use Rattle.draw_list.specs.declared.joints.Joint.{Joint}

-- ---- a further joint
fold-push : (ls : List (List Matrix)) (js : List Joint) (j : Joint) → fold grown ls (js ++ j ∷ []) ≡ grown (fold grown ls js) j
fold-push ls [] j = refl
fold-push ls (k ∷ js) j = fold-push (grown ls k) js j

pub lists-push : (view : List Matrix) (js : List Joint) (j : Joint) → step_lists view (js ++ j ∷ []) ≡ grown (step_lists view js) j
lists-push view js j = fold-push (view ∷ []) js j

length_fold : (ls : List (List Matrix)) (js : List Joint) → length (fold grown ls js) ≡ length ls + length js
length_fold ls [] = omega arith
length_fold ls (j ∷ js) = omega (arith, length_fold (grown ls j) js, length-append ls ((joint_matrices j.steps ++ steps_at ls j.up) ∷ []))

pub length_lists : (view : List Matrix) (js : List Joint) → length (step_lists view js) ≡ length js + 1
length_lists view js = omega (arith, length_fold (view ∷ []) js)

pub before-push : (n : ℕ) (js : List Joint) (j : Joint) → AreBefore n js → j.up < n + length js → AreBefore n (js ++ j ∷ [])
before-push n [] j b h = (omega (arith, h), tt)
before-push n (k ∷ js) j b h = (b.0, before-push (n + 1) js j b.1 (omega (arith, h)))

-- ---- the steps of a joint
at_front : (ls ms : List (List Matrix)) (i : ℕ) → i < length ls → steps_at (ls ++ ms) i ≡ steps_at ls i
at_front [] ms i h = absurd (omega (arith, h))
at_front (l ∷ ls) ms zero h = refl
at_front (l ∷ ls) ms (suc i) h = at_front ls ms i (omega (arith, h))

at_end : (ls : List (List Matrix)) (m : List Matrix) → steps_at (ls ++ m ∷ []) (length ls) ≡ m
at_end [] m = refl
at_end (l ∷ ls) m = at_end ls m

kept : (ls : List (List Matrix)) (js : List Joint) (i : ℕ) → i < length ls → steps_at (fold grown ls js) i ≡ steps_at ls i
kept ls [] i h = refl
kept ls (j ∷ js) i h =
    kept (grown ls j) js i (omega (arith, h, length-append ls ((joint_matrices j.steps ++ steps_at ls j.up) ∷ [])))
    ∙ at_front ls ((joint_matrices j.steps ++ steps_at ls j.up) ∷ []) i h

pub list_of_view : (view : List Matrix) (js : List Joint) → steps_at (step_lists view js) 0 ≡ view
list_of_view view js = kept (view ∷ []) js 0 (omega arith)

list_of : (ls : List (List Matrix)) (js : List Joint) (k : ℕ) (j : Joint) → AreBefore (length ls) js → k < length js → j ≡ get_or js k j →
    (j.up < length ls + k) × (steps_at (fold grown ls js) (length ls + k) ≡ joint_matrices j.steps ++ steps_at (fold grown ls js) j.up)
list_of ls [] k j b h e = absurd (omega (arith, h))
list_of ls (i ∷ js) zero j b h e = subst P (sym e) (omega (arith, b.0), here)
  where
    P : Joint → Type 0
    P w = (w.up < length ls + 0) × (steps_at (fold grown (grown ls i) js) (length ls + 0) ≡ joint_matrices w.steps ++ steps_at (fold grown (grown ls i) js) w.up)

    longer : length (grown ls i) ≡ length ls + 1
    longer = length-append ls ((joint_matrices i.steps ++ steps_at ls i.up) ∷ [])

    last : steps_at (fold grown (grown ls i) js) (length ls) ≡ joint_matrices i.steps ++ steps_at ls i.up
    last = kept (grown ls i) js (length ls) (omega (arith, longer)) ∙ at_end ls (joint_matrices i.steps ++ steps_at ls i.up)

    up : steps_at (fold grown (grown ls i) js) i.up ≡ steps_at ls i.up
    up = kept (grown ls i) js i.up (omega (arith, longer, b.0)) ∙ at_front ls ((joint_matrices i.steps ++ steps_at ls i.up) ∷ []) i.up b.0

    number : length ls + 0 ≡ length ls
    number = omega arith

    here : steps_at (fold grown (grown ls i) js) (length ls + 0) ≡ joint_matrices i.steps ++ steps_at (fold grown (grown ls i) js) i.up
    here = ap (steps_at (fold grown (grown ls i) js)) number ∙ last ∙ ap (λ (ms : List Matrix). joint_matrices i.steps ++ ms) (sym up)
list_of ls (i ∷ js) (suc k) j b h e = after (list_of (grown ls i) js k j (subst (λ n. AreBefore n js) (sym longer) b.1) (omega (arith, h)) e)
  where
    longer : length (grown ls i) ≡ length ls + 1
    longer = length-append ls ((joint_matrices i.steps ++ steps_at ls i.up) ∷ [])

    number : length ls + suc k ≡ length (grown ls i) + k
    number = omega (arith, longer)

    after : (j.up < length (grown ls i) + k) × (steps_at (fold grown (grown ls i) js) (length (grown ls i) + k) ≡ joint_matrices j.steps ++ steps_at (fold grown (grown ls i) js) j.up) →
        (j.up < length ls + suc k) × (steps_at (fold grown (grown ls i) js) (length ls + suc k) ≡ joint_matrices j.steps ++ steps_at (fold grown (grown ls i) js) j.up)
    after later = (omega (arith, later.0, longer), ap (steps_at (fold grown (grown ls i) js)) number ∙ later.1)

-- the joint of the number `at`, which is not the view
pub list_of_joint : (view : List Matrix) (js : List Joint) (at : ℕ) (j : Joint) → AreBefore 1 js → 0 < at → at ≤ length js → j ≡ get_or js (at - 1) j →
    (j.up < at) × (steps_at (step_lists view js) at ≡ joint_matrices j.steps ++ steps_at (step_lists view js) j.up)
list_of_joint view js at j b some within e = (omega (arith, it.0, some), ap (steps_at (step_lists view js)) number ∙ it.1)
  where
    it : (j.up < 1 + (at - 1)) × (steps_at (step_lists view js) (1 + (at - 1)) ≡ joint_matrices j.steps ++ steps_at (step_lists view js) j.up)
    it = list_of (view ∷ []) js (at - 1) j b (omega (arith, some, within)) e

    number : at ≡ 1 + (at - 1)
    number = omega (arith, some)

-- ---- one joint further on the way to the eye
-- the point p at the joint `at` is on the way of v from the joint
abbrev pub IsOnWay : List Matrix → List Joint → ℕ → Point → ℕ → Point → Type 0
IsOnWay view js at p joint v = (at ≤ length js) × (carry (steps_at (step_lists view js) at) p ≡ carry (steps_at (step_lists view js) joint) v)

pub on_way : (view : List Matrix) (js : List Joint) (at : ℕ) (p q : Point) (joint : ℕ) (v : Point) (j : Joint) → AreBefore 1 js → 0 < at → j ≡ get_or js (at - 1) j →
    q ≡ carry (joint_matrices j.steps) p → IsOnWay view js at p joint v → (j.up < at) × IsOnWay view js j.up q joint v
on_way view js at p q joint v j b some e moved h = (next.0, (omega (arith, next.0, h.0), way))
  where
    next : (j.up < at) × (steps_at (step_lists view js) at ≡ joint_matrices j.steps ++ steps_at (step_lists view js) j.up)
    next = list_of_joint view js at j b some h.0 e

    way : carry (steps_at (step_lists view js) j.up) q ≡ carry (steps_at (step_lists view js) joint) v
    way =
        ap (carry (steps_at (step_lists view js) j.up)) moved
        ∙ sym (carry-append (joint_matrices j.steps) (steps_at (step_lists view js) j.up) p)
        ∙ ap (λ (ms : List Matrix). carry ms p) (sym next.1)
        ∙ h.1

pub arrived : (view : List Matrix) (js : List Joint) (at : ℕ) (p q : Point) (joint : ℕ) (v : Point) → at ≡ 0 → q ≡ carry view p → IsOnWay view js at p joint v →
    q ≡ carry (steps_at (step_lists view js) joint) v
arrived view js at p q joint v last moved h =
    moved
    ∙ ap (λ (ms : List Matrix). carry ms p) (sym (list_of_view view js))
    ∙ ap (λ (n : ℕ). carry (steps_at (step_lists view js) n) p) (sym last)
    ∙ h.1

-- and the same of a box
abbrev pub IsBoxOnWay : List Matrix → List Joint → ℕ → Bounds → ℕ → Bounds → Type 0
IsBoxOnWay view js at p joint v = (at ≤ length js) × (carry_box (steps_at (step_lists view js) at) p ≡ carry_box (steps_at (step_lists view js) joint) v)

pub box_on_way : (view : List Matrix) (js : List Joint) (at : ℕ) (p q : Bounds) (joint : ℕ) (v : Bounds) (j : Joint) → AreBefore 1 js → 0 < at → j ≡ get_or js (at - 1) j →
    q ≡ carry_box (joint_matrices j.steps) p → IsBoxOnWay view js at p joint v → (j.up < at) × IsBoxOnWay view js j.up q joint v
box_on_way view js at p q joint v j b some e moved h = (next.0, (omega (arith, next.0, h.0), way))
  where
    next : (j.up < at) × (steps_at (step_lists view js) at ≡ joint_matrices j.steps ++ steps_at (step_lists view js) j.up)
    next = list_of_joint view js at j b some h.0 e

    way : carry_box (steps_at (step_lists view js) j.up) q ≡ carry_box (steps_at (step_lists view js) joint) v
    way =
        ap (carry_box (steps_at (step_lists view js) j.up)) moved
        ∙ sym (carry_box-append (joint_matrices j.steps) (steps_at (step_lists view js) j.up) p)
        ∙ ap (λ (ms : List Matrix). carry_box ms p) (sym next.1)
        ∙ h.1

pub box_arrived : (view : List Matrix) (js : List Joint) (at : ℕ) (p q : Bounds) (joint : ℕ) (v : Bounds) → at ≡ 0 → q ≡ carry_box view p → IsBoxOnWay view js at p joint v →
    q ≡ carry_box (steps_at (step_lists view js) joint) v
box_arrived view js at p q joint v last moved h =
    moved
    ∙ ap (λ (ms : List Matrix). carry_box ms p) (sym (list_of_view view js))
    ∙ ap (λ (n : ℕ). carry_box (steps_at (step_lists view js) n) p) (sym last)
    ∙ h.1

-- ---- what a push answers
pub answered : (pose : Pose) (len spare lists : ℕ) → 0 < spare → len + 1 ≡ lists → Ok (len + 1) ≡ cond (spare == 0) (Err pose) (Ok lists)
answered pose len spare lists some e = ap (λ (n : ℕ). Ok n) e ∙ sym (ap (λ (t : Bool). cond t (Err pose) (Ok lists)) (not_zero spare some))
  where
    not_zero : (n : ℕ) → 0 < n → (n == 0) ≡ false
    not_zero n l = grind (arith, nat_tests)
