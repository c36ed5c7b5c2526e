-- A clean from one scene to the next.
use Rattle.std.proofs.Common.{◌≡◌, ℕ, Bool, true, false, cond, ◌||◌, ◌==◌, List, map, Option, None, refl, sym, ◌∙◌, ap, subst}
use Rattle.std.proofs.lemmas.Bool.{eqb-true}
use Rattle.std.specs.Option.{option_map}
use Rattle.std.specs.List.{AllByRecursion}
use Rattle.fx_math.specs.Plain.{Bounds}
use Rattle.fx_math.specs.Views.{bounds_of}
use Rattle.fx_math.specs.declared.boxes.Box3.{Box3}
use Rattle.pf_model.specs.Graphs.{Look}
use Rattle.pf_model.specs.Limits.{KeepsLimits}
use Rattle.pf_model.specs.Laws.{AreLow}
use Rattle.pf_model.proofs.Places.{funext}
use Rattle.bound_cache.specs.declared.marks.Mark.{Mark}
use Rattle.bound_cache.specs.declared.marks.Mark.TheVariants.{Clean, Touched}
use Rattle.bound_cache.specs.Caches.{CacheState, box_at, touched_at, noted_at, AreBoxesOf, ChangesAreTouched, AreNoted, is_geode_at, IsCalm}
use Rattle.bound_cache.specs.Tables.{TableState, is_touched, is_noted, is_at_rest, is_done, is_still, with_mark, rested, IsHalfway, parts, StaysHalfway, IsStillAll, Proceeds, IsAtRest}
use Rattle.bound_cache.proofs.Fills.{table, read_each}
use Rattle.bound_cache.proofs.Marking.{rest_still, start_at, done_right, rested_rests, rested_untouched, rested_noted, same_id}
use Rattle.bound_cache.proofs.Parts.{parts_all, geode_parts}

-- what a table at rest shows to callers
pub record Shows (t : TableState) (boxes : ℕ → Option Bounds) (touched noted : ℕ → Bool) : Type 0 where
  pub boxes_are : (id : ℕ) → boxes id ≡ t.boxes id
  pub touched_are : (id : ℕ) → touched id ≡ is_touched (t.marks id)
  pub noted_are : (id : ℕ) → noted id ≡ is_noted (t.marks id)

abbrev pub shown_of : List (Option Box3) → List Mark → CacheState
shown_of bs ms = record { boxes = map (option_map bounds_of) bs; touched = map is_touched ms; noted = map is_noted ms }

pub shows : (bs : List (Option Box3)) (ms : List Mark) (v : CacheState) → shown_of bs ms ≡ v → Shows (table bs ms) (box_at v) (touched_at v) (noted_at v)
shows bs ms v e =
    subst (λ (w : CacheState). Shows (table bs ms) (box_at w) (touched_at w) (noted_at w)) e
    (record { boxes_are = λ id. read_each (option_map bounds_of) bs id None; touched_are = λ id. read_each is_touched ms id Clean; noted_are = λ id. read_each is_noted ms id Clean })

-- a touch

touched_rests : (b : Bool) (m : Mark) → is_at_rest m ≡ true → is_at_rest (cond b Touched m) ≡ true
touched_rests true m h = refl
touched_rests false m h = h

pub touched_mark : (b : Bool) (m : Mark) → is_touched (cond b Touched m) ≡ (b || is_touched m)
touched_mark true m = refl
touched_mark false m = refl

pub noted_mark : (b : Bool) (m : Mark) → is_noted (cond b Touched m) ≡ (b || is_noted m)
noted_mark true m = refl
noted_mark false m = refl

pub rest_touched : (t u : TableState) (id : ℕ) (any : Bool) → IsAtRest t any → u ≡ with_mark id Touched t → IsAtRest u true
rest_touched t u id any rest e =
    subst (λ (w : TableState). IsAtRest w true) (sym e)
    (record { resting = λ k. touched_rests (k == id) (t.marks k) (rest.resting k); told = λ never. absurd (cc) })

-- a table without marks is at rest
pub rest_clean : (t : TableState) (any : Bool) → ((id : ℕ) → t.marks id ≡ Clean) → IsAtRest t any
rest_clean t any clean = record { resting = λ id. ap is_at_rest (clean id); told = λ none id. ap is_touched (clean id) }

-- and so is one whose clean has ended
pub rest_ended : (look : Look) (u v : TableState) (any : Bool) → ((id : ℕ) → v.marks id ≡ rested (look id) (u.marks id)) → IsAtRest v any
rest_ended look u v any ended = record {
  resting = λ id. ap is_at_rest (ended id) ∙ rested_rests (look id) (u.marks id);
  told = λ none id. ap is_touched (ended id) ∙ rested_untouched (look id) (u.marks id);
}

-- nothing touched, nothing changed

same_scene : (was look : Look) (touched : ℕ → Bool) → ((id : ℕ) → touched id ≡ false) → ChangesAreTouched was look touched → was ≡ look
same_scene was look touched none told = sym (funext look was (λ k. told.same k (none k)))

pub nothing_touched : (was look : Look) (boxes : ℕ → Option Bounds) (touched : ℕ → Bool) → ((id : ℕ) → touched id ≡ false) → AreBoxesOf was boxes → ChangesAreTouched was look touched → AreBoxesOf look boxes
nothing_touched was look boxes touched none right told = subst (λ (l : Look). AreBoxesOf l boxes) (same_scene was look touched none told) right

pub nothing_noted : (was look : Look) (touched noted : ℕ → Bool) → ((id : ℕ) → touched id ≡ false) → ChangesAreTouched was look touched → AreNoted was noted → AreNoted look noted
nothing_noted was look touched noted none told are = subst (λ (l : Look). AreNoted l noted) (same_scene was look touched none told) are

-- a clean that has come to all ids

pub cleaned_right : (was look : Look) (any : Bool) (t u : TableState) (boxes after : ℕ → Option Bounds) (touched noted : ℕ → Bool) → IsAtRest t any → Shows t boxes touched noted
    → (AreLow look → StaysHalfway look t u) → ((id : ℕ) → is_done (u.marks id) ≡ true)
    → ((id : ℕ) → after id ≡ u.boxes id)
    → AreBoxesOf was boxes → ChangesAreTouched was look touched → AreNoted was noted → KeepsLimits look → AreBoxesOf look after
cleaned_right was look any t u boxes after touched noted rest shown goes done same right told are limits = record {
  each = λ id. same id ∙ done_right was look id (u.boxes id) (u.marks id) (done id) (half.each id);
}
  where
    start : IsHalfway was look t
    start = record {
      each = λ id. start_at was look id (t.boxes id) (t.marks id) (rest.resting id) (λ e. told.same id (shown.touched_are id ∙ e)) (λ e. are.none id (shown.noted_are id ∙ e)) (sym (shown.boxes_are id) ∙ right.each id);
    }

    half : IsHalfway was look u
    half = goes limits.low was start

pub cleaned_noted : (was look : Look) (t u v : TableState) (boxes after : ℕ → Option Bounds) (touched noted touched_after noted_after : ℕ → Bool) → Shows t boxes touched noted → Proceeds look t u
    → ((id : ℕ) → v.marks id ≡ rested (look id) (u.marks id)) → Shows v after touched_after noted_after
    → ChangesAreTouched was look touched → AreNoted was noted → AreNoted look noted_after
cleaned_noted was look t u v boxes after touched noted touched_after noted_after shown proceeds ended ends told are = record {
  none = λ id e. rested_noted was look id (t.marks id) (u.marks id) (proceeds.on id) (λ h. told.same id (shown.touched_are id ∙ h)) (λ h. are.none id (shown.noted_are id ∙ h))
      (sym (ap is_noted (ended id)) ∙ sym (ends.noted_are id) ∙ e);
}

-- an untouched geode alone
still_geode : (look : Look) (t : TableState) (id : ℕ) → is_geode_at look id ≡ true → is_still (t.marks id) ≡ true → IsStillAll look t (λ k. k == id)
still_geode look t id geode still = record {
  each = λ k e. subst (λ (j : ℕ). is_still (t.marks j) ≡ true) (sym (eqb-true k id e)) still;
  parts_too = λ k e. subst (λ (j : ℕ). AllByRecursion (λ c. (c == id) ≡ true) (parts (look j))) (sym (eqb-true k id e)) none;
}
  where
    none : AllByRecursion (λ c. (c == id) ≡ true) (parts (look id))
    none = subst (λ (ps : List ℕ). AllByRecursion (λ c. (c == id) ≡ true) ps) (sym (geode_parts (look id) geode)) tt

-- nodes with all below them, none of which was touched
pub cleaned_calm : (look : Look) (any : Bool) (t u : TableState) (boxes after : ℕ → Option Bounds) (touched noted : ℕ → Bool) → IsAtRest t any → Shows t boxes touched noted → Proceeds look t u → ((id : ℕ) → after id ≡ u.boxes id)
    → (calm : ℕ → Bool) → IsCalm look touched calm → (id : ℕ) → calm id ≡ true → after id ≡ boxes id
cleaned_calm look any t u boxes after touched noted rest shown proceeds same calm is id h = same id ∙ proceeds.kept calm still id h ∙ sym (shown.boxes_are id)
  where
    still : IsStillAll look t calm
    still = record {
      each = λ k e. rest_still (t.marks k) (rest.resting k) (sym (shown.touched_are k) ∙ is.untouched k e);
      parts_too = λ k e. parts_all (λ c. calm c ≡ true) (look k) (is.below k e);
    }

pub cleaned_kept : (look : Look) (any : Bool) (t u : TableState) (boxes after : ℕ → Option Bounds) (touched noted : ℕ → Bool) → IsAtRest t any → Shows t boxes touched noted → Proceeds look t u → ((id : ℕ) → after id ≡ u.boxes id)
    → (id : ℕ) → is_geode_at look id ≡ true → touched id ≡ false → after id ≡ boxes id
cleaned_kept look any t u boxes after touched noted rest shown proceeds same id geode untouched =
    same id
    ∙ proceeds.kept (λ k. k == id) (still_geode look t id geode (rest_still (t.marks id) (rest.resting id) (sym (shown.touched_are id) ∙ untouched))) id (same_id id)
    ∙ sym (shown.boxes_are id)
