-- What marks tell, and how they move on.
use Rattle.std.proofs.Common.{◌≡◌, ℕ, Bool, true, false, not, ◌||◌, ◌==◌, List, [], ◌∷◌, Option, refl, sym, ◌∙◌, subst, arith}
use Rattle.std.specs.List.{AllByRecursion}
use Rattle.std.proofs.lemmas.Bool.Decides.{nat_tests}
use Rattle.fx_math.specs.Plain.{Bounds}
use Rattle.pf_model.specs.declared.nodes.Node.{Node}
use Rattle.pf_model.specs.Graphs.{Look}
use Rattle.pf_model.specs.Boxes.{box_in, box_of}
use Rattle.bound_cache.specs.declared.marks.Mark.{Mark}
use Rattle.bound_cache.specs.declared.marks.Mark.TheVariants.{Clean, Noted, Touched, Same, Changed}
use Rattle.bound_cache.specs.Tables.{is_done, is_changed, is_touched, is_noted, is_at_rest, is_still, parts, mark_of_parts, rested, IsHalfwayAt, MovesOn}
use Rattle.bound_cache.proofs.Parts.{same_step}

pub moves_same : (m : Mark) → MovesOn m m
moves_same Clean = refl
moves_same Noted = refl
moves_same Touched = refl
moves_same Same = tt
moves_same Changed = tt

pub moves_trans : (a b c : Mark) → MovesOn a b → MovesOn b c → MovesOn a c
moves_trans a b Clean h k = subst (λ (m : Mark). MovesOn a m) k h
moves_trans a b Noted h k = subst (λ (m : Mark). MovesOn a m) k h
moves_trans a b Touched h k = subst (λ (m : Mark). MovesOn a m) k h
moves_trans a b Same h k = tt
moves_trans a b Changed h k = tt

pub moves_done : (a b : Mark) → is_done a ≡ true → MovesOn a b → is_done b ≡ true
moves_done a Clean s h = refl
moves_done a Noted s h = subst (λ (m : Mark). is_done m ≡ true) h s
moves_done a Touched s h = subst (λ (m : Mark). is_done m ≡ true) h s
moves_done a Same s h = refl
moves_done a Changed s h = refl

pub rest_still : (m : Mark) → is_at_rest m ≡ true → is_touched m ≡ false → is_still m ≡ true
rest_still Clean s h = refl
rest_still Noted s h = refl
rest_still Touched s h = absurd (cc)
rest_still Same s h = absurd (cc)
rest_still Changed s h = absurd (cc)

-- a node whose box is made of no other has the same box in both scenes
leaf_same : (was look : Look) (id : ℕ) → look id ≡ was id → parts (was id) ≡ [] → (n : ℕ) → box_in n look id ≡ box_in n was id
leaf_same was look id e none =
    let bare : parts (look id) ≡ [] = subst (λ (o : Option Node). parts o ≡ []) (sym e) none in
    same_step was look id e (subst (λ (ps : List ℕ). AllByRecursion (λ c. (n : ℕ) → box_in n look c ≡ box_in n was c) ps) (sym bare) tt)

pub done_right : (was look : Look) (id : ℕ) (box : Option Bounds) (m : Mark) → is_done m ≡ true → IsHalfwayAt was look id box m → box ≡ box_of look id
done_right was look id box Clean s h = h.0 ∙ sym (leaf_same was look id h.1 h.2 32)
done_right was look id box Noted s h = absurd (cc)
done_right was look id box Touched s h = absurd (cc)
done_right was look id box Same s h = h.0
done_right was look id box Changed s h = h

pub done_same : (was look : Look) (id : ℕ) (box : Option Bounds) (m : Mark) → is_done m ≡ true → is_changed m ≡ false → IsHalfwayAt was look id box m → (n : ℕ) → box_in n look id ≡ box_in n was id
done_same was look id box Clean s c h = leaf_same was look id h.1 h.2
done_same was look id box Noted s c h = absurd (cc)
done_same was look id box Touched s c h = absurd (cc)
done_same was look id box Same s c h = h.1
done_same was look id box Changed s c h = absurd (cc)

-- a table at rest is at the start of its way
pub start_at : (was look : Look) (id : ℕ) (box : Option Bounds) (m : Mark) → is_at_rest m ≡ true → (is_touched m ≡ false → look id ≡ was id) → (is_noted m ≡ false → parts (was id) ≡ []) → box ≡ box_of was id
    → IsHalfwayAt was look id box m
start_at was look id box Clean s told none b = (b, told refl, none refl)
start_at was look id box Noted s told none b = (b, told refl)
start_at was look id box Touched s told none b = b
start_at was look id box Same s told none b = absurd (cc)
start_at was look id box Changed s told none b = absurd (cc)

-- the marks that are kept when a clean has ended

pub rested_rests : (o : Option Node) (m : Mark) → is_at_rest (rested o m) ≡ true
rested_rests o Clean = refl
rested_rests o Noted = refl
rested_rests o Touched = refl
rested_rests o Same = refl
rested_rests o Changed = by (parts o)
  where
    by : (ps : List ℕ) → is_at_rest (mark_of_parts ps) ≡ true
    by [] = refl
    by (p ∷ ps) = refl

pub rested_untouched : (o : Option Node) (m : Mark) → is_touched (rested o m) ≡ false
rested_untouched o Clean = refl
rested_untouched o Noted = refl
rested_untouched o Touched = refl
rested_untouched o Same = refl
rested_untouched o Changed = by (parts o)
  where
    by : (ps : List ℕ) → is_touched (mark_of_parts ps) ≡ false
    by [] = refl
    by (p ∷ ps) = refl

-- what is not noted then was clean from the start, or has no parts
pub rested_noted : (was look : Look) (id : ℕ) (a b : Mark) → MovesOn a b → (is_touched a ≡ false → look id ≡ was id) → (is_noted a ≡ false → parts (was id) ≡ []) → is_noted (rested (look id) b) ≡ false → parts (look id) ≡ []
rested_noted was look id a Clean moves told none h =
    let touched : is_touched a ≡ false = subst (λ (m : Mark). is_touched m ≡ false) (sym moves) refl in
    let noted : is_noted a ≡ false = subst (λ (m : Mark). is_noted m ≡ false) (sym moves) refl in
    subst (λ (o : Option Node). parts o ≡ []) (sym (told touched)) (none noted)
rested_noted was look id a Noted moves told none h = absurd (cc)
rested_noted was look id a Touched moves told none h = absurd (cc)
rested_noted was look id a Same moves told none h = absurd (cc)
rested_noted was look id a Changed moves told none h = by (parts (look id)) h
  where
    by : (ps : List ℕ) → is_noted (mark_of_parts ps) ≡ false → ps ≡ []
    by [] k = refl
    by (p ∷ ps) k = absurd (cc)

-- tests

pub same_id : (n : ℕ) → (n == n) ≡ true
same_id n = grind (arith, nat_tests)

pub or_false : (a b : Bool) → (a || b) ≡ false → (a ≡ false) × (b ≡ false)
or_false true b h = absurd (cc)
or_false false b h = (refl, h)

pub not_false : (a : Bool) → not a ≡ false → a ≡ true
not_false true h = refl
not_false false h = absurd (cc)
