-- An id settled after its parts: its box is then the one in the scene as it is.
use Rattle.std.proofs.Common.{◌≡◌, ℕ, Bool, true, false, cond, not, ◌||◌, ◌==◌, List, [], ◌∷◌, Option, refl, sym, ◌∙◌, ap, subst}
use Rattle.std.specs.List.{AllByRecursion, list_any}
use Rattle.std.proofs.lemmas.Bool.{eqb-true}
use Rattle.fx_math.specs.Plain.{Bounds}
use Rattle.pf_model.specs.Graphs.{Look}
use Rattle.pf_model.specs.Boxes.{box_in, box_of, box_step}
use Rattle.pf_model.specs.Laws.{AreLow}
use Rattle.pf_model.proofs.Levels.{all_map}
use Rattle.bound_cache.specs.declared.marks.Mark.{Mark}
use Rattle.bound_cache.specs.declared.marks.Mark.TheVariants.{Clean, Noted, Touched, Same, Changed}
use Rattle.bound_cache.specs.Tables.{TableState, is_done, is_changed, is_still, with_box, with_mark, parts, is_stale, settled, IsHalfwayAt, IsHalfway, MovesOn, IsStillAll, Proceeds}
use Rattle.bound_cache.proofs.Parts.{same_step, new_step}
use Rattle.bound_cache.proofs.Marking.{moves_same, done_right, done_same, same_id, or_false, not_false}

-- the boxes of parts done are right
parts_right : (was look : Look) (t : TableState) (ps : List ℕ) → IsHalfway was look t → AllByRecursion (λ c. is_done (t.marks c) ≡ true) ps → AllByRecursion (λ c. t.boxes c ≡ box_of look c) ps
parts_right was look t ps half seen =
    all_map (λ c. is_done (t.marks c) ≡ true) (λ c. t.boxes c ≡ box_of look c) (λ c s. done_right was look c (t.boxes c) (t.marks c) s (half.each c)) ps seen

-- parts done none of which has changed have the same boxes in both scenes
parts_same : (was look : Look) (t : TableState) (ps : List ℕ) → IsHalfway was look t → AllByRecursion (λ c. is_done (t.marks c) ≡ true) ps → list_any (λ c. is_changed (t.marks c)) ps ≡ false
    → AllByRecursion (λ c. (n : ℕ) → box_in n look c ≡ box_in n was c) ps
parts_same was look t [] half seen none = tt
parts_same was look t (c ∷ cs) half seen none =
    let both : (is_changed (t.marks c) ≡ false) × (list_any (λ d. is_changed (t.marks d)) cs ≡ false) = or_false (is_changed (t.marks c)) (list_any (λ d. is_changed (t.marks d)) cs) none in
    (done_same was look c (t.boxes c) (t.marks c) seen.0 both.0 (half.each c), parts_same was look t cs half seen.1 both.1)

still_same : (was look : Look) (id : ℕ) (box : Option Bounds) (m : Mark) → is_still m ≡ true → IsHalfwayAt was look id box m
    → AllByRecursion (λ c. (n : ℕ) → box_in n look c ≡ box_in n was c) (parts (look id)) → IsHalfwayAt was look id box Same
still_same was look id box Clean s h all = (h.0 ∙ sym (same_step was look id h.1 all 32), same_step was look id h.1 all)
still_same was look id box Noted s h all = (h.0 ∙ sym (same_step was look id h.1 all 32), same_step was look id h.1 all)
still_same was look id box Touched s h all = absurd (cc)
still_same was look id box Same s h all = h
still_same was look id box Changed s h all = absurd (cc)

boxed : (was look : Look) (t : TableState) (id : ℕ) (box : Option Bounds) (m : Mark) → IsHalfway was look t → IsHalfwayAt was look id box m → IsHalfway was look (with_mark id m (with_box id box t))
boxed was look t id box m half h = record { each = λ k. by k (k == id) refl }
  where
    by : (k : ℕ) (b : Bool) → (k == id) ≡ b → IsHalfwayAt was look k (cond b box (t.boxes k)) (cond b m (t.marks k))
    by k true e = subst (λ (j : ℕ). IsHalfwayAt was look j box m) (sym (eqb-true k id e)) h
    by k false e = half.each k

marked : (was look : Look) (t : TableState) (id : ℕ) (m : Mark) → IsHalfway was look t → IsHalfwayAt was look id (t.boxes id) m → IsHalfway was look (with_mark id m t)
marked was look t id m half h = record { each = λ k. by k (k == id) refl }
  where
    by : (k : ℕ) (b : Bool) → (k == id) ≡ b → IsHalfwayAt was look k (t.boxes k) (cond b m (t.marks k))
    by k true e = subst (λ (j : ℕ). IsHalfwayAt was look j (t.boxes j) m) (sym (eqb-true k id e)) h
    by k false e = half.each k

pub settled_right : (was look : Look) (t : TableState) (id : ℕ) → AreLow look → AllByRecursion (λ c. is_done (t.marks c) ≡ true) (parts (look id)) → IsHalfway was look t → IsHalfway was look (settled look id t)
settled_right was look t id low seen half = by (is_stale look id t) refl
  where
    by : (b : Bool) → is_stale look id t ≡ b → IsHalfway was look (cond b (with_mark id Changed (with_box id (box_step look t.boxes id) t)) (with_mark id Same t))
    by true e = boxed was look t id (box_step look t.boxes id) Changed half (new_step look t.boxes id low (parts_right was look t (parts (look id)) half seen))
    by false e =
        let both : (not (is_still (t.marks id)) ≡ false) × (list_any (λ c. is_changed (t.marks c)) (parts (look id)) ≡ false) = or_false (not (is_still (t.marks id))) (list_any (λ c. is_changed (t.marks c)) (parts (look id))) e in
        marked was look t id Same half (still_same was look id (t.boxes id) (t.marks id) (not_false (is_still (t.marks id)) both.0) (half.each id) (parts_same was look t (parts (look id)) half seen both.1))

pub settled_done : (look : Look) (t : TableState) (id : ℕ) → is_done ((settled look id t).marks id) ≡ true
settled_done look t id = by (is_stale look id t)
  where
    at : (m : Mark) → is_done m ≡ true → is_done (cond (id == id) m (t.marks id)) ≡ true
    at m s = subst (λ (b : Bool). is_done (cond b m (t.marks id)) ≡ true) (sym (same_id id)) s

    by : (b : Bool) → is_done ((cond b (with_mark id Changed (with_box id (box_step look t.boxes id) t)) (with_mark id Same t)).marks id) ≡ true
    by true = at Changed refl
    by false = at Same refl

still_unchanged : (m : Mark) → is_still m ≡ true → is_changed m ≡ false
still_unchanged Clean h = refl
still_unchanged Noted h = refl
still_unchanged Touched h = absurd (cc)
still_unchanged Same h = refl
still_unchanged Changed h = absurd (cc)

-- of still ids none has changed
none_changed : (marks : ℕ → Mark) (calm : ℕ → Bool) (ps : List ℕ) → ((k : ℕ) → calm k ≡ true → is_still (marks k) ≡ true) → AllByRecursion (λ c. calm c ≡ true) ps
    → list_any (λ c. is_changed (marks c)) ps ≡ false
none_changed marks calm [] still all = refl
none_changed marks calm (c ∷ cs) still all =
    ap (λ b. b || list_any (λ d. is_changed (marks d)) cs) (still_unchanged (marks c) (still c all.0))
    ∙ none_changed marks calm cs still all.1

-- what is still is not stale
still_fresh : (look : Look) (t : TableState) (calm : ℕ → Bool) (id : ℕ) → IsStillAll look t calm → calm id ≡ true → is_stale look id t ≡ false
still_fresh look t calm id is h =
    ap (λ b. not b || list_any (λ c. is_changed (t.marks c)) (parts (look id))) (is.each id h)
    ∙ none_changed t.marks calm (parts (look id)) is.each (is.parts_too id h)

pub settled_proceeds : (look : Look) (t : TableState) (id : ℕ) → Proceeds look t (settled look id t)
settled_proceeds look t id = by (is_stale look id t) refl
  where
    moves : (k : ℕ) (m : Mark) → MovesOn (t.marks k) m → (b : Bool) → MovesOn (t.marks k) (cond b m (t.marks k))
    moves k m h true = h
    moves k m h false = moves_same (t.marks k)

    -- a stale id is none of them
    other : is_stale look id t ≡ true → (calm : ℕ → Bool) → IsStillAll look t calm → (k : ℕ) → calm k ≡ true → (k == id) ≡ false
    other e calm is k h = at (k == id) refl
      where
        at : (b : Bool) → (k == id) ≡ b → b ≡ false
        at false f = refl
        at true f = absurd (let n : is_stale look k t ≡ false = still_fresh look t calm k is h in let s : is_stale look k t ≡ true = subst (λ (j : ℕ). is_stale look j t ≡ true) (sym (eqb-true k id f)) e in cc)

    stays : (k : ℕ) → is_still (t.marks k) ≡ true → (b : Bool) → is_still (cond b Same (t.marks k)) ≡ true
    stays k still true = refl
    stays k still false = still

    by : (b : Bool) → is_stale look id t ≡ b → Proceeds look t (cond b (with_mark id Changed (with_box id (box_step look t.boxes id) t)) (with_mark id Same t))
    by true e = record {
      on = λ k. moves k Changed tt (k == id);
      kept = λ calm is k h. ap (λ b. cond b (box_step look t.boxes id) (t.boxes k)) (other e calm is k h);
      still = λ calm is. record {
        each = λ k h. ap (λ b. is_still (cond b Changed (t.marks k))) (other e calm is k h) ∙ is.each k h;
        parts_too = is.parts_too;
      };
    }
    by false e = record {
      on = λ k. moves k Same tt (k == id);
      kept = λ calm is k h. refl;
      still = λ calm is. record { each = λ k h. stays k (is.each k h) (k == id); parts_too = is.parts_too };
    }
