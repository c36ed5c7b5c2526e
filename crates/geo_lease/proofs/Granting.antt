-- What a keeper chooses and what a grant records, from what it keeps track of.
use Rattle.std.proofs.Common.{◌≡◌, ◌≢◌, ℕ, zero, suc, ◌+◌, ◌*◌, ◌/◌, ◌<◌, ◌≤◌, ◌⊎◌, inl, inr, Bool, true, cond, List, [], ◌∷◌, ◌++◌, length, get_or, set, replicate, refl, sym, ap, ◌∙◌, subst, arith, Option, Some, None, eq-eqb, ne_eqb}
use Rattle.std.specs.Prelude.{slice_get, is_some, Contains, All}
use Rattle.std.proofs.lemmas.List.{length-replicate}
use Rattle.std.proofs.lemmas.Option.{none-some, same_Some, slice_get-get_or}
use mathlib.Core.Logic.{dite}
use native.Mathlib.Decide.{ℕ_discrete}
use Rattle.geo_lease.specs.declared.view.View.{View}
use Rattle.geo_lease.specs.Plans.{Names, IsFree, lies_in, lies_at, current_content, content_at, named, place_of, places_of, plan_of, recorded, pair_of, with_slots, slot_at}
use Rattle.geo_lease.specs.Views.{keeping, opener, looking, laying}
use Rattle.geo_lease.specs.Calls.{IsIdle, AreCurrent, Chosen, Tracks, Reclaimed}
use Rattle.geo_lease.proofs.Lists.{get_here, get_else, get_again, get_replicate}
use Rattle.geo_lease.proofs.Tracking.{AreFilled, lies_else, lies_here}

module _ {T : Type 0} (v : View T) (ahead seen granted : ℕ) (current : List (Option ℕ)) (last : List ℕ) (t : Tracks v ahead seen granted current last) where
  its_free : (k : ℕ) → get_or last k 0 ≤ seen → IsFree v.leases v.seen k
  its_free k le = t.free_after k v.seen (let a : v.seen ≡ seen = t.seen_is in omega arith)

  not_free : (k : ℕ) → seen < get_or last k 0 → ¬ IsFree v.leases v.seen k
  not_free k lt free = let a : v.seen ≡ seen = t.seen_is in let b : get_or last k 0 ≤ v.seen = t.last_before k v.seen free in absurd (omega arith)

  of_width : (k g : ℕ) → k / (ahead + 1) ≡ g → k / (v.ahead + 1) ≡ g
  of_width k g e = ap (λ (a : ℕ). k / (a + 1)) t.ahead_is ∙ e

  -- the current slot, where it is free
  pub chosen_again : (g k : ℕ) → slice_get current g ≡ Some (Some k) → get_or last k 0 ≤ seen → Chosen v current g k
  chosen_again g k at le = record {
    inside = omega (arith, t.sized, (t.ranged g k at).0);
    of_geode = of_width k g (t.ranged g k at).1;
    free = its_free k le;
    again = λ j e free. same_Some k j (same_Some (Some k) (Some j) (sym at ∙ e));
    lowest = λ none j lt its. absurd (none k at (its_free k le));
  }

  -- the lowest free slot, where the current one is not
  pub chosen_lowest : (g k : ℕ) → ((j : ℕ) → slice_get current g ≡ Some (Some j) → seen < get_or last j 0) → k < length last → k / (ahead + 1) ≡ g → get_or last k 0 ≤ seen
      → ((j : ℕ) → j < k → j / (ahead + 1) ≡ g → seen < get_or last j 0) → Chosen v current g k
  chosen_lowest g k taken inside its le below = record {
    inside = omega (arith, t.sized);
    of_geode = of_width k g its;
    free = its_free k le;
    again = λ j e free. absurd (not_free j (taken j e) free);
    lowest = λ none j lt same. not_free j (below j lt (sym (of_width j (j / (ahead + 1)) refl) ∙ same));
  }

  pub chosen_inside : (g k : ℕ) → Chosen v current g k → k < length last
  chosen_inside g k h = let a : k < length v.contents = h.inside in omega (arith, t.sized)

  pub chosen_width : (g k : ℕ) → Chosen v current g k → k / (ahead + 1) ≡ g
  chosen_width g k h = sym (of_width k (k / (ahead + 1)) refl) ∙ h.of_geode

  -- what geodes contain after a store
  pub stored_content : (g k : ℕ) (x : T) → g < length current → k < length last → current_content (set v.contents k (Some x)) (set current g (Some k)) g ≡ Some x
  stored_content g k x lt inside = ap (lies_at (set v.contents k (Some x))) (get_here current g (Some k) lt) ∙ lies_here v.contents k (Some x) (omega (arith, t.sized))

  other_content : (o : Option (Option ℕ)) (h k : ℕ) (c : Option T) → slice_get current h ≡ o → ((j : ℕ) → slice_get current h ≡ Some (Some j) → j ≢ k) → lies_at (set v.contents k c) o ≡ lies_at v.contents o
  other_content None h k c e apart = refl
  other_content (Some None) h k c e apart = refl
  other_content (Some (Some j)) h k c e apart = lies_else v.contents j k c (apart j e)

  pub stored_others : (g k : ℕ) (c : Option T) → k / (ahead + 1) ≡ g → (h : ℕ) → h ≢ g → current_content (set v.contents k c) (set current g (Some k)) h ≡ current_content v.contents current h
  stored_others g k c its h apart = ap (lies_at (set v.contents k c)) (get_else current g h (Some k) apart)
      ∙ other_content (slice_get current h) h k c refl (λ j e d. apart (sym (t.ranged h j e).1 ∙ (ap (λ (z : ℕ). z / (ahead + 1)) d ∙ its)))

  pub emptied_content : (k : ℕ) (c : Option T) → IsIdle current k → (h : ℕ) → current_content (set v.contents k c) current h ≡ current_content v.contents current h
  emptied_content k c idle h = other_content (slice_get current h) h k c refl (λ j e d. idle h (e ∙ ap (λ (z : ℕ). Some (Some z)) d))

-- a geode with a content has a current slot
pub has_slot : {T : Type 0} (contents : List (Option T)) (o : Option (Option ℕ)) → is_some (lies_at contents o) ≡ true → (k : ℕ) × (o ≡ Some (Some k))
has_slot contents None h = absurd (cc h)
has_slot contents (Some None) h = absurd (cc h)
has_slot contents (Some (Some k)) h = (k, refl)

pairs_by : (current : List (Option ℕ)) (g : ℕ) (gs : List ℕ) (o : Option (Option ℕ)) → slice_get current g ≡ o → AreCurrent current (with_slots current gs) → AreCurrent current (pair_of g o ++ with_slots current gs)
pairs_by current g gs None e more i p at = more i p at
pairs_by current g gs (Some None) e more i p at = more i p at
pairs_by current g gs (Some (Some k)) e more zero p at =
    let same : (g, k) ≡ p = same_Some (g, k) p at in
    subst (λ (z : ℕ × ℕ). slice_get current z.0 ≡ Some (Some z.1)) same e
pairs_by current g gs (Some (Some k)) e more (suc i) p at = more i p at

-- each named geode comes with its current slot
pub pairs_current : (current : List (Option ℕ)) (names : List ℕ) → AreCurrent current (with_slots current names)
pairs_current current [] i p at = absurd (none-some p at)
pairs_current current (g ∷ gs) i p at = pairs_by current g gs (slice_get current g) refl (pairs_current current gs) i p at

slot_by : (current : List (Option ℕ)) (g h k : ℕ) (hs : List ℕ) (o : Option (Option ℕ)) → slice_get current h ≡ o → slice_get current g ≡ Some (Some k)
    → (g ≡ h) ⊎ (slot_at g (with_slots current hs) ≡ Some k) → slot_at g (pair_of h o ++ with_slots current hs) ≡ Some k
slot_by current g h k hs o e at (inl same) =
    let is : o ≡ Some (Some k) = sym e ∙ (ap (slice_get current) (sym same) ∙ at) in
    ap (λ (z : Option (Option ℕ)). slot_at g (pair_of h z ++ with_slots current hs)) is ∙ ap (λ (b : Bool). cond b (Some k) (slot_at g (with_slots current hs))) (eq-eqb h g (sym same))
slot_by current g h k hs None e at (inr more) = more
slot_by current g h k hs (Some None) e at (inr more) = more
slot_by current g h k hs (Some (Some j)) e at (inr more) = dite (ℕ_discrete h g)
    (λ d.
    let is : j ≡ k = same_Some j k (same_Some (Some j) (Some k) (sym e ∙ (ap (slice_get current) d ∙ at))) in
    ap (λ (b : Bool). cond b (Some j) (slot_at g (with_slots current hs))) (eq-eqb h g d) ∙ ap (λ (z : ℕ). Some z) is)
    (λ n. ap (λ (b : Bool). cond b (Some j) (slot_at g (with_slots current hs))) (ne_eqb h g n) ∙ more)

-- the slot that the pairs have for a named geode is its current one
pub slot_is : (current : List (Option ℕ)) (names : List ℕ) (i g k : ℕ) → slice_get names i ≡ Some g → slice_get current g ≡ Some (Some k) → slot_at g (with_slots current names) ≡ Some k
slot_is current [] i g k named at = absurd (none-some g named)
slot_is current (h ∷ hs) zero g k named at = slot_by current g h k hs (slice_get current h) refl at (inl (sym (same_Some h g named)))
slot_is current (h ∷ hs) (suc i) g k named at = slot_by current g h k hs (slice_get current h) refl at (inr (slot_is current hs i g k named at))

contained : (names : List ℕ) (g : ℕ) → Contains names g → (i : ℕ) × (slice_get names i ≡ Some g)
contained names g (i, lt, is) = (i, slice_get-get_or names i g lt ∙ ap (λ (z : ℕ). Some z) is)

module _ {T : Type 0} where
  content_by : (contents : List (Option T)) (pair : ℕ × ℕ) (pairs : List (ℕ × ℕ)) (g k : ℕ) (x : T) (o : Option T) → lies_in contents pair.1 ≡ o → is_some o ≡ true → lies_in contents k ≡ Some x
      → (slot_at g pairs ≡ Some k → content_at g (places_of contents pairs) ≡ Some x)
      → slot_at g (pair ∷ pairs) ≡ Some k → content_at g (place_of pair o ++ places_of contents pairs) ≡ Some x
  content_by contents pair pairs g k x None e full lies more at = absurd (cc full)
  content_by contents pair pairs g k x (Some y) e full lies more at = dite (ℕ_discrete pair.0 g)
      (λ d.
      let slot : pair.1 ≡ k = same_Some pair.1 k (sym (ap (λ (b : Bool). cond b (Some pair.1) (slot_at g pairs)) (eq-eqb pair.0 g d)) ∙ at) in
      ap (λ (b : Bool). cond b (Some y) (content_at g (places_of contents pairs))) (eq-eqb pair.0 g d) ∙ (sym e ∙ (ap (lies_in contents) slot ∙ lies)))
      (λ n.
      ap (λ (b : Bool). cond b (Some y) (content_at g (places_of contents pairs))) (ne_eqb pair.0 g n)
      ∙ more (sym (ap (λ (b : Bool). cond b (Some pair.1) (slot_at g pairs)) (ne_eqb pair.0 g n)) ∙ at))

  content_is : (contents : List (Option T)) (pairs : List (ℕ × ℕ)) (g k : ℕ) (x : T) → AreFilled contents pairs → lies_in contents k ≡ Some x → slot_at g pairs ≡ Some k → content_at g (places_of contents pairs) ≡ Some x
  content_is contents [] g k x full lies at = absurd (none-some k at)
  content_is contents (pair ∷ pairs) g k x full lies at = content_by contents pair pairs g k x (lies_in contents pair.1) refl (full 0 pair refl) lies (content_is contents pairs g k x (λ i. full (suc i)) lies) at

  some_there : (o : Option T) → is_some o ≡ true → (x : T) × (o ≡ Some x)
  some_there None h = absurd (cc h)
  some_there (Some x) h = (x, refl)

  module _ (contents : List (Option T)) (current : List (Option ℕ)) (names : List ℕ) (all : All (λ (g : ℕ). is_some (current_content contents current g) ≡ true) names) where
    named_slot : (g : ℕ) → Contains names g → (k : ℕ) × (slice_get current g ≡ Some (Some k)) × (is_some (lies_in contents k) ≡ true)
    named_slot g (i, lt, is) =
        let full : is_some (current_content contents current g) ≡ true = subst (λ (z : ℕ). is_some (current_content contents current z) ≡ true) is (all i g lt) in
        let slot = has_slot contents (slice_get current g) full in
        (slot.0, slot.1, sym (ap (λ (o : Option (Option ℕ)). is_some (lies_at contents o)) slot.1) ∙ full)

    pub lease_names : (g : ℕ) → Contains names g → is_some (slot_at g (with_slots current names)) ≡ true
    lease_names g named = let slot = named_slot g named in let i = contained names g named in
        ap (λ (o : Option ℕ). is_some o) (slot_is current names i.0 g slot.0 i.1 slot.1)

    -- the lease records what a named geode contains
    pub lease_records : (frame : ℕ) → AreFilled contents (with_slots current names) → (g : ℕ) → Contains names g
        → recorded (Some (plan_of frame (with_slots current names) contents)) g ≡ current_content contents current g
    lease_records frame full g named =
        let slot = named_slot g named in
        let i = contained names g named in
        let x = some_there (lies_in contents slot.0) slot.2 in
        content_is contents (with_slots current names) g slot.0 x.0 full x.1 (slot_is current names i.0 g slot.0 i.1 slot.1) ∙ sym (ap (lies_at contents) slot.1 ∙ x.1)

  -- a keeper at empty slots
  pub opened_tracks : (geodes ahead : ℕ) → Tracks {T = T} (keeping (opener ahead (geodes * (ahead + 1)))) ahead 0 0 (replicate geodes None) (replicate (geodes * (ahead + 1)) 0)
  opened_tracks geodes ahead =
      let no_lease : (n k : ℕ) (x : T) → Names {T = T} [] n k x → ⊥ = λ n k x h. none-some h.0 h.1 in
      let zeros : List ℕ = replicate (geodes * (ahead + 1)) 0 in
      let zero_at : (k : ℕ) → get_or zeros k 0 ≡ 0 = λ k. all_zero (geodes * (ahead + 1)) k in
      record {
        ahead_is = refl;
        seen_is = refl;
        granted_is = refl;
        seen_granted = omega arith;
        room = omega arith;
        counted = omega arith;
        slots = length-replicate {A = ℕ} (geodes * (ahead + 1)) 0 ∙ ap (λ (n : ℕ). n * (ahead + 1)) (sym (length-replicate {A = Option ℕ} geodes None));
        sized = length-replicate {A = Option T} (geodes * (ahead + 1)) None ∙ sym (length-replicate {A = ℕ} (geodes * (ahead + 1)) 0);
        ranged = λ g k e. absurd (none-some k (get_replicate geodes g None (Some k) e));
        filled = λ g k e. absurd (none-some k (get_replicate geodes g None (Some k) e));
        free_after = λ k from le n x later named. no_lease n k x named;
        last_before = λ k from free. let z : get_or zeros k 0 ≡ 0 = zero_at k in omega arith;
        single = λ j k same some_lease e. let z : get_or zeros j 0 ≡ 0 = zero_at j in absurd (omega arith);
      }
    where
      all_zero : (n k : ℕ) → get_or {A = ℕ} (replicate n 0) k 0 ≡ 0
      all_zero zero k = refl
      all_zero (suc n) zero = refl
      all_zero (suc n) (suc k) = all_zero n k

  -- what a reclaim tells of a slot that it took
  pub reclaimed : (v w : View T) (current : List (Option ℕ)) (k e : ℕ) (r : Option T) → v.held ≡ None → w ≡ laying (looking v e) k None → IsIdle current k → IsFree v.leases e k → slice_get v.contents k ≡ Some r
      → Reclaimed k e current v r w
  reclaimed v w current k e None empty is idle free at =
      let same : laying (looking v e) k None ≡ looking v e = λ i. record (looking v e) { contents = get_again v.contents k None at i; held = sym empty i } in
      (is ∙ same, λ a b. at)
  reclaimed v w current k e (Some x) empty is idle free at = (is, idle, free, at)

-- one named geode more
pub with_more : (current : List (Option ℕ)) (geode k : ℕ) (rest : List ℕ) → slice_get current geode ≡ Some (Some k) → with_slots current (geode ∷ rest) ≡ (geode, k) ∷ with_slots current rest
with_more current geode k rest at = ap (λ (o : Option (Option ℕ)). pair_of geode o ++ with_slots current rest) at
