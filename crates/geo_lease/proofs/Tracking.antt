-- What a keeper keeps track of stays true over its calls, and a free slot is there.
use Rattle.std.proofs.Common.{◌≡◌, ◌≢◌, ℕ, zero, suc, ◌+◌, ◌*◌, ◌/◌, ◌<◌, ◌≤◌, ◌⊎◌, inl, inr, ⊎_elim, true, eqb, cond, List, [], ◌∷◌, ◌++◌, map, length, get_or, set, take, drop, refl, sym, ap, ◌∙◌, subst, arith, Option, Some, None, length-append, eq-eqb, ne_eqb, get_or-set_other, get_or-set_same, mul-le-mul_right, suc-mul}
use Rattle.std.specs.Prelude.{slice_get, is_some}
use Rattle.std.proofs.lemmas.List.{length-set}
use Rattle.std.proofs.lemmas.Nat.{div-mul-add}
use Rattle.std.proofs.lemmas.Option.{none-some, same_Some, slice_get_within}
use mathlib.Core.Logic.{dite}
use native.Mathlib.Decide.{ℕ_discrete, dec_le}
use Rattle.geo_lease.specs.declared.view.Place.{Place}
use Rattle.geo_lease.specs.declared.view.Plan.{Plan}
use Rattle.geo_lease.specs.declared.view.View.{View}
use Rattle.geo_lease.specs.Plans.{HasPlace, IsFree, lies_in, named, place_of, places_of, plan_of}
use Rattle.geo_lease.specs.Views.{looking, laying, granting}
use Rattle.geo_lease.specs.Calls.{IsIdle, AreCurrent, marked, Tracks}
use Rattle.geo_lease.proofs.Lists.{get_set, get_here, get_longer, get_last, get_snoc}

-- f of i, but where that is the highest place, f of the last number
lowered : (ℕ → ℕ) → ℕ → ℕ → ℕ → ℕ
lowered f last top i = cond (eqb (f i) top) (f last) (f i)

at_top : (f : ℕ → ℕ) (last top i : ℕ) → f i ≡ top → lowered f last top i ≡ f last
unfolding lowered
at_top f last top i e = ap (λ b. cond b (f last) (f i)) (eq-eqb (f i) top e)

below_top : (f : ℕ → ℕ) (last top i : ℕ) → f i ≢ top → lowered f last top i ≡ f i
unfolding lowered
below_top f last top i n = ap (λ b. cond b (f last) (f i)) (ne_eqb (f i) top n)

-- more numbers than places: two are equal
pub pigeons : (m low : ℕ) (f : ℕ → ℕ) → ((i : ℕ) → i < m + 1 → (low < f i) × (f i ≤ low + m)) → ((i j : ℕ) → i < m + 1 → j < m + 1 → f i ≡ f j → i ≡ j) → ⊥
pigeons zero low f inside apart = let a : low < f 0 = (inside 0 (omega arith)).0 in let b : f 0 ≤ low + 0 = (inside 0 (omega arith)).1 in omega arith
pigeons (suc m) low f inside apart = pigeons m low (lowered f (suc m) (low + suc m)) fits differ
  where
    fits : (i : ℕ) → i < m + 1 → (low < lowered f (suc m) (low + suc m) i) × (lowered f (suc m) (low + suc m) i ≤ low + m)
    fits i h = dite (ℕ_discrete (f i) (low + suc m))
        (λ e.
        let final : (low < f (suc m)) × (f (suc m) ≤ low + suc m) = inside (suc m) (omega arith) in
        let other : f (suc m) ≢ low + suc m = λ d. (let same : i ≡ suc m = apart i (suc m) (omega arith) (omega arith) (e ∙ sym d) in absurd (omega arith)) in
        let is : lowered f (suc m) (low + suc m) i ≡ f (suc m) = at_top f (suc m) (low + suc m) i e in
        let le : f (suc m) ≤ low + suc m = final.1 in
        let lt : low < f (suc m) = final.0 in
        (omega arith, omega arith))
        (λ n.
        let is : lowered f (suc m) (low + suc m) i ≡ f i = below_top f (suc m) (low + suc m) i n in
        let lt : low < f i = (inside i (omega arith)).0 in
        let le : f i ≤ low + suc m = (inside i (omega arith)).1 in
        (omega arith, omega arith))

    differ : (i j : ℕ) → i < m + 1 → j < m + 1 → lowered f (suc m) (low + suc m) i ≡ lowered f (suc m) (low + suc m) j → i ≡ j
    differ i j hi hj e = dite (ℕ_discrete (f i) (low + suc m))
        (λ ei. dite (ℕ_discrete (f j) (low + suc m))
        (λ ej. apart i j (omega arith) (omega arith) (ei ∙ sym ej))
        (λ nj. let same : suc m ≡ j = apart (suc m) j (omega arith) (omega arith) (sym (at_top f (suc m) (low + suc m) i ei) ∙ (e ∙ below_top f (suc m) (low + suc m) j nj)) in absurd (omega arith)))
        (λ ni. dite (ℕ_discrete (f j) (low + suc m))
        (λ ej. let same : i ≡ suc m = apart i (suc m) (omega arith) (omega arith) (sym (below_top f (suc m) (low + suc m) i ni) ∙ (e ∙ at_top f (suc m) (low + suc m) j ej)) in absurd (omega arith))
        (λ nj. apart i j (omega arith) (omega arith) (sym (below_top f (suc m) (low + suc m) i ni) ∙ (e ∙ below_top f (suc m) (low + suc m) j nj))))

-- a slot of a geode is one of all slots
pub within_geode : (g n i w : ℕ) → g < n → i < w → g * w + i < n * w
within_geode g n i w h lt = let a : suc g * w ≤ n * w = mul-le-mul_right w h in omega (arith, suc-mul g w)

module _ {A B : Type 0} where
  pub get_map : (f : A → B) (xs : List A) (i : ℕ) (b : B) → slice_get (map f xs) i ≡ Some b → (a : A) × (slice_get xs i ≡ Some a) × (f a ≡ b)
  get_map f [] i b e = absurd (none-some b e)
  get_map f (x ∷ xs) zero b e = (x, refl, same_Some (f x) b e)
  get_map f (x ∷ xs) (suc i) b e = get_map f xs i b e

-- a list written over all of another
pub whole : (xs ys : List ℕ) (n : ℕ) → length xs ≡ n → length ys ≡ n → take n (xs ++ drop (length xs) ys) ≡ xs
whole [] ys zero e d = refl
whole [] ys (suc n) e d = absurd (omega arith)
whole (x ∷ xs) [] n e d = absurd (omega arith)
whole (x ∷ xs) (y ∷ ys) zero e d = absurd (omega arith)
whole (x ∷ xs) (y ∷ ys) (suc n) e d = ap (λ (l : List ℕ). x ∷ l) (whole xs ys n (omega arith) (omega arith))

-- the slot is among the pairs, or is not
abbrev pub Among : List (ℕ × ℕ) → ℕ → Type 0
Among pairs k = (i : ℕ) × (p : ℕ × ℕ) × (slice_get pairs i ≡ Some p) × (p.1 ≡ k)

abbrev pub NotAmong : List (ℕ × ℕ) → ℕ → Type 0
NotAmong pairs k = (i : ℕ) (p : ℕ × ℕ) → slice_get pairs i ≡ Some p → p.1 ≢ k

pub among_or_not : (pairs : List (ℕ × ℕ)) (k : ℕ) → Among pairs k ⊎ NotAmong pairs k
among_or_not [] k = inr (λ i p e. absurd (none-some p e))
among_or_not (q ∷ qs) k = dite (ℕ_discrete q.1 k)
    (λ e. inl (0, q, refl, e))
    (λ n. ⊎_elim (λ (h : Among qs k). inl (suc h.0, h.1, h.2, h.3)) (λ (h : NotAmong qs k). inr (not_first q qs k n h)) (among_or_not qs k))
  where
    not_first : (q : ℕ × ℕ) (qs : List (ℕ × ℕ)) (k : ℕ) → q.1 ≢ k → NotAmong qs k → NotAmong (q ∷ qs) k
    not_first q qs k n h zero p e = λ d. n (ap (λ (z : ℕ × ℕ). z.1) (same_Some q p e) ∙ d)
    not_first q qs k n h (suc i) p e = h i p e

pub length-marked : (last : List ℕ) (pairs : List (ℕ × ℕ)) (n : ℕ) → length (marked last pairs n) ≡ length last
length-marked last [] n = refl
length-marked last (q ∷ qs) n = length-marked (set last q.1 n) qs n ∙ length-set last q.1 n

pub marked_out : (last : List ℕ) (pairs : List (ℕ × ℕ)) (n k : ℕ) → NotAmong pairs k → get_or (marked last pairs n) k 0 ≡ get_or last k 0
marked_out last [] n k h = refl
marked_out last (q ∷ qs) n k h = marked_out (set last q.1 n) qs n k (λ i. h (suc i)) ∙ get_or-set_other last q.1 k n 0 (λ e. h 0 q refl (sym e))

pub marked_in : (last : List ℕ) (pairs : List (ℕ × ℕ)) (n k : ℕ) → k < length last → Among pairs k → get_or (marked last pairs n) k 0 ≡ n
marked_in last [] n k lt h = absurd (none-some h.1 h.2)
marked_in last (q ∷ qs) n k lt h = ⊎_elim
    (λ (a : Among qs k). marked_in (set last q.1 n) qs n k (let b : length (set last q.1 n) ≡ length last = length-set last q.1 n in omega arith) a)
    (λ (a : NotAmong qs k).
    let first : q.1 ≡ k = its_first q qs k h a in
    marked_out (set last q.1 n) qs n k a ∙ subst (λ (z : ℕ). get_or (set last z n) k 0 ≡ n) (sym first) (get_or-set_same last k n 0 lt))
    (among_or_not qs k)
  where
    its_first : (q : ℕ × ℕ) (qs : List (ℕ × ℕ)) (k : ℕ) → Among (q ∷ qs) k → NotAmong qs k → q.1 ≡ k
    its_first q qs k (zero, p, e, d) n = ap (λ (z : ℕ × ℕ). z.1) (same_Some q p e) ∙ d
    its_first q qs k (suc i, p, e, d) n = absurd (n i p e d)

module _ {T : Type 0} where
  pub lies_get : (cs : List (Option T)) (k : ℕ) (c : Option T) → slice_get cs k ≡ Some c → lies_in cs k ≡ c
  lies_get [] k c e = absurd (none-some c e)
  lies_get (x ∷ xs) zero c e = same_Some x c e
  lies_get (x ∷ xs) (suc k) c e = lies_get xs k c e

  -- what lies somewhere is in range
  pub lies_some : (cs : List (Option T)) (k : ℕ) (x : T) → lies_in cs k ≡ Some x → slice_get cs k ≡ Some (Some x)
  lies_some [] k x e = absurd (none-some x e)
  lies_some (c ∷ cs) zero x e = ap (λ (o : Option T). Some o) e
  lies_some (c ∷ cs) (suc k) x e = lies_some cs k x e

  pub lies_else : (cs : List (Option T)) (j k : ℕ) (c : Option T) → j ≢ k → lies_in (set cs k c) j ≡ lies_in cs j
  lies_else [] j k c n = refl
  lies_else (x ∷ xs) zero zero c n = absurd (n refl)
  lies_else (x ∷ xs) (suc j) zero c n = refl
  lies_else (x ∷ xs) zero (suc k) c n = refl
  lies_else (x ∷ xs) (suc j) (suc k) c n = lies_else xs j k c (λ e. n (ap suc e))

  pub lies_here : (cs : List (Option T)) (k : ℕ) (c : Option T) → k < length cs → lies_in (set cs k c) k ≡ c
  lies_here cs k c h = lies_get (set cs k c) k c (get_here cs k c h)

  -- a place of the lease is one of the pairs, with what lies there
  placed_by : (contents : List (Option T)) (pair : ℕ × ℕ) (pairs : List (ℕ × ℕ)) (i : ℕ) (p : Place T) (o : Option T) → lies_in contents pair.1 ≡ o
      → ((j : ℕ) → slice_get (places_of contents pairs) j ≡ Some p → (h : ℕ) × (slice_get pairs h ≡ Some (named p)) × (lies_in contents p.slot ≡ Some p.content))
      → slice_get (place_of pair o ++ places_of contents pairs) i ≡ Some p
      → (h : ℕ) × (slice_get (pair ∷ pairs) h ≡ Some (named p)) × (lies_in contents p.slot ≡ Some p.content)
  placed_by contents pair pairs i p None lies more e = let h = more i e in (suc h.0, h.1, h.2)
  placed_by contents pair pairs zero p (Some x) lies more e =
      let q : Place T = record { geode = pair.0; slot = pair.1; content = x } in
      let same : q ≡ p = same_Some q p e in
      (0, ap (λ (z : Place T). Some (named z)) same, subst (λ (z : Place T). lies_in contents z.slot ≡ Some z.content) same lies)
  placed_by contents pair pairs (suc i) p (Some x) lies more e = let h = more i e in (suc h.0, h.1, h.2)

  pub placed : (contents : List (Option T)) (pairs : List (ℕ × ℕ)) (i : ℕ) (p : Place T) → slice_get (places_of contents pairs) i ≡ Some p
      → (h : ℕ) × (slice_get pairs h ≡ Some (named p)) × (lies_in contents p.slot ≡ Some p.content)
  placed contents [] i p e = absurd (none-some p e)
  placed contents (pair ∷ pairs) i p e = placed_by contents pair pairs i p (lies_in contents pair.1) refl (λ j. placed contents pairs j p) e

  -- each pair's slot has a content
  abbrev pub AreFilled : List (Option T) → List (ℕ × ℕ) → Type 0
  AreFilled contents pairs = (i : ℕ) (p : ℕ × ℕ) → slice_get pairs i ≡ Some p → is_some (lies_in contents p.1) ≡ true

  outlined_by : (contents : List (Option T)) (pair : ℕ × ℕ) (pairs : List (ℕ × ℕ)) (o : Option T) → is_some o ≡ true → map named (places_of contents pairs) ≡ pairs
      → map named (place_of pair o ++ places_of contents pairs) ≡ pair ∷ pairs
  outlined_by contents pair pairs None h e = absurd (cc h)
  outlined_by contents pair pairs (Some x) h e = ap (λ (l : List (ℕ × ℕ)). pair ∷ l) e

  pub outlined : (contents : List (Option T)) (pairs : List (ℕ × ℕ)) → AreFilled contents pairs → map named (places_of contents pairs) ≡ pairs
  outlined contents [] full = refl
  outlined contents (pair ∷ pairs) full = outlined_by contents pair pairs (lies_in contents pair.1) (full 0 pair refl) (outlined contents pairs (λ i. full (suc i)))

  -- the lease names each slot of its pairs
  pub names_pair : (frame : ℕ) (contents : List (Option T)) (pairs : List (ℕ × ℕ)) (k : ℕ) → AreFilled contents pairs → Among pairs k → (x : T) × HasPlace (plan_of frame pairs contents) k x
  names_pair frame contents pairs k full (i, p, e, d) =
      let found = get_map named (places_of contents pairs) i p (ap (λ (l : List (ℕ × ℕ)). slice_get l i) (outlined contents pairs full) ∙ e) in
      (found.0.content, (i, found.0, found.1, ap (λ (z : ℕ × ℕ). z.1) found.2 ∙ d, refl))

  -- and no other
  pub names_only : (frame : ℕ) (contents : List (Option T)) (pairs : List (ℕ × ℕ)) (k : ℕ) (x : T) → HasPlace (plan_of frame pairs contents) k x → Among pairs k × (slice_get contents k ≡ Some (Some x))
  names_only frame contents pairs k x (i, p, e, d, c) =
      let h = placed contents pairs i p e in
      ((h.0, named p, h.1, d), subst (λ (z : ℕ × T). slice_get contents z.0 ≡ Some (Some z.1)) (λ t. (d t, c t)) (lies_some contents p.slot p.content h.2))

  -- no lease is named after the last
  pub none_after : (leases : List (Plan T)) (k : ℕ) → IsFree leases (length leases) k
  none_after leases k n x le named = let lt : n < length leases = slice_get_within leases n named.0 named.1 in omega arith

  module _ (v : View T) (ahead seen granted : ℕ) (current : List (Option ℕ)) (last : List ℕ) (t : Tracks v ahead seen granted current last) where
    pub looked_tracks : (n : ℕ) → v.seen ≤ n → n ≤ length v.leases → Tracks (looking v n) ahead n granted current last
    looked_tracks n le late = record {
      ahead_is = t.ahead_is;
      seen_is = refl;
      granted_is = t.granted_is;
      seen_granted = omega (arith, t.granted_is);
      room = omega (arith, t.room, t.seen_is);
      counted = t.counted;
      slots = t.slots;
      sized = t.sized;
      ranged = t.ranged;
      filled = t.filled;
      free_after = t.free_after;
      last_before = t.last_before;
      single = t.single;
    }

    is_filled : (c : Option T) (x : T) → c ≡ Some x → is_some c ≡ true
    is_filled c x e = ap (λ (o : Option T). is_some o) e

    pub stored_tracks : (g k : ℕ) (x : T) → k < length last → k / (ahead + 1) ≡ g → Tracks (laying v k (Some x)) ahead seen granted (set current g (Some k)) last
    stored_tracks g k x inside its = record {
      ahead_is = t.ahead_is;
      seen_is = t.seen_is;
      granted_is = t.granted_is;
      seen_granted = t.seen_granted;
      room = t.room;
      counted = t.counted;
      slots = t.slots ∙ ap (λ (n : ℕ). n * (ahead + 1)) (sym (length-set current g (Some k)));
      sized = length-set v.contents k (Some x) ∙ t.sized;
      ranged = λ h j e. ⊎_elim
          (λ (a : (h ≡ g) × (Some k ≡ Some j)).
          let same : k ≡ j = same_Some k j a.1 in
          subst (λ (z : ℕ). (z < length last) × (z / (ahead + 1) ≡ h)) same (inside, its ∙ sym a.0))
          (λ (a : (h ≢ g) × (slice_get current h ≡ Some (Some j))). t.ranged h j a.1)
          (get_set current g h (Some k) (Some j) e);
      filled = λ h j e. dite (ℕ_discrete j k)
          (λ d. is_filled (lies_in (set v.contents k (Some x)) j) x (ap (lies_in (set v.contents k (Some x))) d ∙ lies_here v.contents k (Some x) (omega (arith, t.sized))))
          (λ n. ap (λ (o : Option T). is_some o) (lies_else v.contents j k (Some x) n) ∙ ⊎_elim
          (λ (a : (h ≡ g) × (Some k ≡ Some j)). absurd (n (sym (same_Some k j a.1))))
          (λ (a : (h ≢ g) × (slice_get current h ≡ Some (Some j))). t.filled h j a.1)
          (get_set current g h (Some k) (Some j) e));
      free_after = t.free_after;
      last_before = t.last_before;
      single = t.single;
    }

    pub emptied_tracks : (k : ℕ) → IsIdle current k → Tracks (laying v k None) ahead seen granted current last
    emptied_tracks k idle = record {
      ahead_is = t.ahead_is;
      seen_is = t.seen_is;
      granted_is = t.granted_is;
      seen_granted = t.seen_granted;
      room = t.room;
      counted = t.counted;
      slots = t.slots;
      sized = length-set v.contents k None ∙ t.sized;
      ranged = t.ranged;
      filled = λ h j e. ap (λ (o : Option T). is_some o) (lies_else v.contents j k None (λ d. idle h (e ∙ ap (λ (z : ℕ). Some (Some z)) d))) ∙ t.filled h j e;
      free_after = t.free_after;
      last_before = t.last_before;
      single = t.single;
    }

    pub are_filled : (pairs : List (ℕ × ℕ)) → AreCurrent current pairs → AreFilled v.contents pairs
    are_filled pairs all i p e = t.filled p.0 p.1 (all i p e)

    among_inside : (pairs : List (ℕ × ℕ)) (k : ℕ) → AreCurrent current pairs → Among pairs k → k < length last
    among_inside pairs k all (i, p, e, d) = subst (λ (z : ℕ). z < length last) d (t.ranged p.0 p.1 (all i p e)).0

    last_old : (k : ℕ) → get_or last k 0 ≤ granted
    last_old k = subst (λ (n : ℕ). get_or last k 0 ≤ n) t.granted_is (t.last_before k (length v.leases) (none_after v.leases k))

    -- the slots of a lease of one geode are one
    one_slot : (pairs : List (ℕ × ℕ)) (j k : ℕ) → AreCurrent current pairs → j / (ahead + 1) ≡ k / (ahead + 1) → Among pairs j → Among pairs k → j ≡ k
    one_slot pairs j k all same (i, p, e, d) (i', p', e', d') =
        let a = all i p e in
        let b = all i' p' e' in
        let g : p.1 / (ahead + 1) ≡ p.0 = (t.ranged p.0 p.1 a).1 in
        let g' : p'.1 / (ahead + 1) ≡ p'.0 = (t.ranged p'.0 p'.1 b).1 in
        let geodes : p.0 ≡ p'.0 = sym g ∙ (ap (λ (z : ℕ). z / (ahead + 1)) d ∙ (same ∙ (ap (λ (z : ℕ). z / (ahead + 1)) (sym d') ∙ g'))) in
        let slots : Some (Some p.1) ≡ Some (Some p'.1) = sym a ∙ (ap (slice_get current) geodes ∙ b) in
        sym d ∙ (same_Some p.1 p'.1 (same_Some (Some p.1) (Some p'.1) slots) ∙ d')

    module _ (frame : ℕ) (pairs : List (ℕ × ℕ)) (all : AreCurrent current pairs) where
      abbrev l : Plan T
      l = plan_of frame pairs v.contents

      granted_free : (k from : ℕ) → get_or (marked last pairs (granted + 1)) k 0 ≤ from → IsFree (v.leases ++ l ∷ []) from k
      granted_free k from le n x later named = ⊎_elim
          (λ (h : Among pairs k).
          let is : get_or (marked last pairs (granted + 1)) k 0 ≡ granted + 1 = marked_in last pairs (granted + 1) k (among_inside pairs k all h) h in
          let lt : n < length (v.leases ++ l ∷ []) = slice_get_within (v.leases ++ l ∷ []) n named.0 named.1 in
          let long : length (v.leases ++ l ∷ []) ≡ length v.leases + 1 = length-append v.leases (l ∷ []) in
          let count : length v.leases ≡ granted = t.granted_is in
          omega arith)
          (λ (h : NotAmong pairs k).
          let is : get_or (marked last pairs (granted + 1)) k 0 ≡ get_or last k 0 = marked_out last pairs (granted + 1) k h in
          let before : get_or last k 0 ≤ from = omega arith in
          ⊎_elim
          (λ (e : slice_get v.leases n ≡ Some named.0). t.free_after k from before n x later (named.0, e, named.2))
          (λ (e : (n ≡ length v.leases) × (l ≡ named.0)).
          let its : Among pairs k = (names_only frame v.contents pairs k x (subst (λ (z : Plan T). HasPlace z k x) (sym e.1) named.2)).0 in
          h its.0 its.1 its.2 its.3)
          (get_snoc v.leases l named.0 n named.1))
          (among_or_not pairs k)

      granted_last : (k from : ℕ) → IsFree (v.leases ++ l ∷ []) from k → get_or (marked last pairs (granted + 1)) k 0 ≤ from
      granted_last k from free = ⊎_elim
          (λ (h : Among pairs k).
          let is : get_or (marked last pairs (granted + 1)) k 0 ≡ granted + 1 = marked_in last pairs (granted + 1) k (among_inside pairs k all h) h in
          let count : length v.leases ≡ granted = t.granted_is in
          let place = names_pair frame v.contents pairs k (are_filled pairs all) h in
          let le : granted + 1 ≤ from = dite (dec_le (granted + 1) from) (λ a. a) (λ n. absurd (free (length v.leases) place.0 (omega arith) (l, get_last v.leases l, place.1))) in
          omega arith)
          (λ (h : NotAmong pairs k).
          let is : get_or (marked last pairs (granted + 1)) k 0 ≡ get_or last k 0 = marked_out last pairs (granted + 1) k h in
          let le : get_or last k 0 ≤ from = t.last_before k from (λ n x later named. free n x later (named.0, get_longer v.leases (l ∷ []) n named.0 named.1, named.2)) in
          omega arith)
          (among_or_not pairs k)

      granted_single : (j k : ℕ) → j / (ahead + 1) ≡ k / (ahead + 1) → 0 < get_or (marked last pairs (granted + 1)) j 0
          → get_or (marked last pairs (granted + 1)) j 0 ≡ get_or (marked last pairs (granted + 1)) k 0 → j ≡ k
      granted_single j k same some_lease e =
          let new : List ℕ = marked last pairs (granted + 1) in
          let old_j : get_or last j 0 ≤ granted = last_old j in
          let old_k : get_or last k 0 ≤ granted = last_old k in
          let is : (i : ℕ) → Among pairs i → get_or new i 0 ≡ granted + 1 = λ i h. marked_in last pairs (granted + 1) i (among_inside pairs i all h) h in
          let isnt : (i : ℕ) → NotAmong pairs i → get_or new i 0 ≡ get_or last i 0 = λ i h. marked_out last pairs (granted + 1) i h in
          ⊎_elim
          (λ (a : Among pairs j). ⊎_elim
          (λ (b : Among pairs k). one_slot pairs j k all same a b)
          (λ (b : NotAmong pairs k). let x : get_or new j 0 ≡ granted + 1 = is j a in let y : get_or new k 0 ≡ get_or last k 0 = isnt k b in absurd (omega arith))
          (among_or_not pairs k))
          (λ (a : NotAmong pairs j). ⊎_elim
          (λ (b : Among pairs k). let x : get_or new k 0 ≡ granted + 1 = is k b in let y : get_or new j 0 ≡ get_or last j 0 = isnt j a in absurd (omega arith))
          (λ (b : NotAmong pairs k). t.single j k same (let y : get_or new j 0 ≡ get_or last j 0 = isnt j a in omega arith) (sym (isnt j a) ∙ (e ∙ isnt k b)))
          (among_or_not pairs k))
          (among_or_not pairs j)

      pub granted_tracks : granted < seen + ahead → v.above ≤ frame → Tracks (granting v l) ahead seen (granted + 1) current (marked last pairs (granted + 1))
      granted_tracks room rises = record {
        ahead_is = t.ahead_is;
        seen_is = t.seen_is;
        granted_is = length-append v.leases (l ∷ []) ∙ ap (λ (n : ℕ). n + 1) t.granted_is;
        seen_granted = omega (arith, t.seen_granted);
        room = omega arith;
        counted = (let h : granted ≤ v.above = t.counted in let a : granted + 1 ≤ frame + 1 = omega arith in a);
        slots = length-marked last pairs (granted + 1) ∙ t.slots;
        sized = t.sized ∙ sym (length-marked last pairs (granted + 1));
        ranged = λ g k e. subst (λ (n : ℕ). (k < n) × (k / (ahead + 1) ≡ g)) (sym (length-marked last pairs (granted + 1))) (t.ranged g k e);
        filled = t.filled;
        free_after = granted_free;
        last_before = granted_last;
        single = granted_single;
      }

    -- there is a free slot of each geode
    pub some_free : (g : ℕ) → ((j : ℕ) → g * (ahead + 1) ≤ j → j < g * (ahead + 1) + (ahead + 1) → seen < get_or last j 0) → ⊥
    some_free g named =
        let first : ℕ = g * (ahead + 1) in
        let its : (i : ℕ) → i < ahead + 1 → (first + i) / (ahead + 1) ≡ g = λ i h. div-mul-add g (ahead + 1) i h in
        pigeons ahead seen (λ i. get_or last (first + i) 0)
        (λ i h. (named (first + i) (omega arith) (omega arith), (let a : get_or last (first + i) 0 ≤ granted = last_old (first + i) in let b : granted ≤ seen + ahead = t.room in omega arith)))
        (λ i j hi hj e.
        let some_lease : 0 < get_or last (first + i) 0 = (let a : seen < get_or last (first + i) 0 = named (first + i) (omega arith) (omega arith) in omega arith) in
        let same : first + i ≡ first + j = t.single (first + i) (first + j) (its i hi ∙ sym (its j hj)) some_lease e in
        omega arith)
