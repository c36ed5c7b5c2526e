-- Parents noted and forgotten.
use Rattle.std.proofs.Common.{◌≡◌, ℕ, ◌+◌, ◌<◌, Bool, true, false, cond, not, ◌&&◌, ◌==◌, ◌⊎◌, inl, inr, List, [], length, get_or, take, Option, Some, None, is_some, refl, sym, ◌∙◌, ap, subst}
use Rattle.std.specs.List.{filter}
use Rattle.std.specs.Option.{option_map, option_map_or}
use Rattle.std.proofs.lemmas.Bool.{eqb-true, eq-eqb}
use Rattle.std.proofs.lemmas.Map.Views.{any-filter_same}
use Rattle.std.proofs.lemmas.List.{take_more}
use Rattle.pf_model.specs.Graphs.{Look}
use Rattle.pf_model.proofs.Members.{holds_appended}
use Rattle.pf_edits.specs.declared.extents.Extent.{Extent}
use Rattle.pf_edits.specs.Settling.{AreSettled}
use Rattle.pf_model.specs.Limits.{has_child}
use Rattle.pf_model.proofs.Places.{funext}
use Rattle.pf_edits.specs.declared.records.Record.{Record}
use Rattle.pf_edits.specs.Tables.{Slots, record_at}
use Rattle.pf_edits.specs.Ways.{is_in}
use Rattle.pf_edits.specs.Extents.{look_of, parents_of, extent_at, Meets, IsSound}
use Rattle.pf_edits.proofs.Ups.{not_true, no_true}

-- an id dropped from a list
pub dropped : (id : ℕ) (xs : List ℕ) → is_in id (filter (λ b. not (b == id)) xs) ≡ false
dropped id xs = any-filter_same (λ b. b == id) (λ b. not (b == id)) false (λ b e. ap not e) xs

pub others_stay : (b id : ℕ) (xs : List ℕ) → (b == id) ≡ false → is_in b (filter (λ c. not (c == id)) xs) ≡ is_in b xs
others_stay b id xs e =
    any-filter_same (λ c. c == b) (λ c. not (c == id)) true
    (λ c same. subst (λ (x : ℕ). not (x == id) ≡ true) (sym (eqb-true c b same)) (ap not e)) xs

-- A parent forgotten that has no such child

pub both : (p q : Bool) → (p && q) ≡ true → (p ≡ true) × (q ≡ true)
both true true h = (refl, refl)
both true false h = absurd (cc)
both false q h = absurd (cc)

pub settled_sound : (s t : Slots) (parent child : ℕ) → ((b : ℕ) → look_of t b ≡ look_of s b) → ((b : ℕ) → extent_at t b ≡ extent_at s b)
    → ((b p : ℕ) → (b == child && p == parent) ≡ false → is_in p (parents_of s b) ≡ true → is_in p (parents_of t b) ≡ true)
    → has_child (look_of s) parent child ≡ false → IsSound s → IsSound t
settled_sound s t parent child nodes extents kept unlinked sound = record {
  meets = subst (λ (f : Look). Meets f (extent_at t)) (sym same) (subst (λ (g : ℕ → Extent). Meets (look_of s) g) (sym (funext (extent_at t) (extent_at s) extents)) sound.meets);
  noted = λ y x h. by y x (subst (λ (f : Look). has_child f y x ≡ true) same h);
}
  where
    same : look_of t ≡ look_of s
    same = funext (look_of t) (look_of s) nodes

    by : (y x : ℕ) → has_child (look_of s) y x ≡ true → is_in y (parents_of t x) ≡ true
    by y x h = kept x y (no_true (x == child && y == parent) (λ k. not_true (linked (both (x == child) (y == parent) k)) unlinked)) (sound.noted y x h)
      where
        linked : ((x == child) ≡ true) × ((y == parent) ≡ true) → has_child (look_of s) parent child ≡ true
        linked k = subst (λ (z : ℕ). has_child (look_of s) parent z ≡ true) (eqb-true x child k.0) (subst (λ (z : ℕ). has_child (look_of s) z x ≡ true) (eqb-true y parent k.1) h)

-- One more node seen to

pub more_settled : (s t : Slots) (parent : ℕ) (cs : List ℕ) (i : ℕ) → i < length cs → ((b : ℕ) → look_of t b ≡ look_of s b)
    → ((b p : ℕ) → is_in p (parents_of t b) ≡ true → is_in p (parents_of s b) ≡ true)
    → (has_child (look_of t) parent (get_or cs i 0) ≡ false → is_in parent (parents_of t (get_or cs i 0)) ≡ false)
    → AreSettled s (λ y x. parent == y && is_in x (take i cs)) → AreSettled t (λ y x. parent == y && is_in x (take (i + 1) cs))
more_settled s t parent cs i within nodes fewer gone before y x h out = at (both (parent == y) (is_in x (take (i + 1) cs)) h)
  where
    by : (parent == y) ≡ true → (is_in x (take i cs) ≡ true) ⊎ (get_or cs i 0 ≡ x) → is_in y (parents_of t x) ≡ false
    by same (inl k) =
        no_true (is_in y (parents_of t x)) (λ j. not_true (fewer x y j)
        (before y x (ap (λ u. u && is_in x (take i cs)) same ∙ k) (subst (λ (f : Look). has_child f y x ≡ false) (funext (look_of t) (look_of s) nodes) out)))
    by same (inr e) =
        subst (λ (p : ℕ). is_in p (parents_of t x) ≡ false) (eqb-true parent y same)
        (subst (λ (z : ℕ). is_in parent (parents_of t z) ≡ false) e
        (gone (subst (λ (z : ℕ). has_child (look_of t) parent z ≡ false) (sym e)
        (subst (λ (p : ℕ). has_child (look_of t) p x ≡ false) (sym (eqb-true parent y same)) out))))

    at : ((parent == y) ≡ true) × (is_in x (take (i + 1) cs) ≡ true) → is_in y (parents_of t x) ≡ false
    at k = by k.0 (holds_appended x (get_or cs i 0) (take i cs) (sym (ap (is_in x) (take_more cs i 0 within)) ∙ k.1))

-- The parents of a record that is rewritten

pub parents_set : (old new : Slots) (id : ℕ) (f : Record → Record) (ps : List ℕ) → ((b : ℕ) → record_at new b ≡ cond (b == id) (option_map f (record_at old b)) (record_at old b))
    → ((r : Record) → (f r).parents ≡ ps) → is_some (record_at old id) ≡ true → (b : ℕ) → parents_of new b ≡ cond (b == id) ps (parents_of old b)
parents_set old new id f ps set sets there b = ap (λ o. option_map_or (λ (r : Record). r.parents) o []) (set b) ∙ by (b == id) refl (record_at old b) refl
  where
    by : (t : Bool) → (b == id) ≡ t → (o : Option Record) → record_at old b ≡ o → option_map_or (λ (r : Record). r.parents) (cond t (option_map f o) o) [] ≡ cond t ps (option_map_or (λ (r : Record). r.parents) o [])
    by true s None k = absurd (let n : is_some (record_at old id) ≡ false = ap (λ o. is_some o) (ap (record_at old) (sym (eqb-true b id s)) ∙ k) in let l : true ≡ false = sym there ∙ n in cc)
    by true s (Some r) k = sets r
    by false s o k = refl

-- A parent forgotten

module _ (old new : Slots) (id parent : ℕ) (ps qs : List ℕ) (wrote : (b : ℕ) → parents_of new b ≡ cond (b == id) ps (parents_of old b)) (here : parents_of old id ≡ qs)
    (gone : is_in parent ps ≡ false) (others : (p : ℕ) → (p == parent) ≡ false → is_in p ps ≡ is_in p qs) where
  pub forgotten : is_in parent (parents_of new id) ≡ false
  forgotten = ap (is_in parent) (wrote id ∙ ap (λ t. cond t ps (parents_of old id)) (eq-eqb id id refl)) ∙ gone

  pub forgets_fewer : (b p : ℕ) → is_in p (parents_of new b) ≡ true → is_in p (parents_of old b) ≡ true
  forgets_fewer b p h = by (b == id) refl (sym (ap (is_in p) (wrote b)) ∙ h)
    where
      at : (b == id) ≡ true → is_in p ps ≡ true → (t : Bool) → (p == parent) ≡ t → is_in p (parents_of old b) ≡ true
      at e k true f = absurd (not_true k (subst (λ (z : ℕ). is_in z ps ≡ false) (sym (eqb-true p parent f)) gone))
      at e k false f = ap (is_in p) (ap (parents_of old) (eqb-true b id e) ∙ here) ∙ sym (others p f) ∙ k

      by : (t : Bool) → (b == id) ≡ t → is_in p (cond t ps (parents_of old b)) ≡ true → is_in p (parents_of old b) ≡ true
      by true e k = at e k (p == parent) refl
      by false e k = k

  pub forgets_kept : (b p : ℕ) → (b == id && p == parent) ≡ false → is_in p (parents_of old b) ≡ true → is_in p (parents_of new b) ≡ true
  forgets_kept b p out h = ap (is_in p) (wrote b) ∙ by (b == id) refl
    where
      by : (t : Bool) → (b == id) ≡ t → is_in p (cond t ps (parents_of old b)) ≡ true
      by true e = others p (ap (λ t. t && (p == parent)) (sym e) ∙ out) ∙ sym (ap (is_in p) (ap (parents_of old) (eqb-true b id e) ∙ here)) ∙ h
      by false e = h

-- no record, no parents
pub nothing_noted : (slots : Slots) (id p : ℕ) → record_at slots id ≡ None → is_in p (parents_of slots id) ≡ false
nothing_noted slots id p none = ap (λ (o : Option Record). is_in p (option_map_or (λ r. r.parents) o [])) none
