-- A slot is taken, its content swapped, and laid back: what the seat holds in between. And the place of a lease that a slot is of.
use Rattle.std.proofs.Common.{◌≡◌, ◌≢◌, ℕ, zero, suc, ◌≤◌, Bool, true, false, eqb, cond, List, [], ◌∷◌, map, length, refl, sym, ap, ◌∙◌, arith, Option, Some, None, eq-eqb, ne_eqb}
use Rattle.std.specs.Prelude.{slice_get}
use Rattle.std.proofs.lemmas.Option.{none-some, same_Some}
use Rattle.atomic_table.specs.Table.{rest}
use Rattle.geo_lease.specs.declared.view.Place.{Place}
use Rattle.geo_lease.specs.declared.view.Plan.{Plan}
use Rattle.geo_lease.specs.Plans.{HasPlace, content_at, recorded, named, outline, slot_at, name_at}
use Rattle.geo_lease.specs.Views.{has, left_at, holding}
use Rattle.geo_lease.specs.Steps.{Sat}
use Rattle.geo_lease.proofs.Lists.{at_first}

module _ {T : Type 0} where
  -- the slot is the first that the seat holds
  pub in_hand : (m m' : Sat T) (k slot : ℕ) (y : Option T) → m' ≡ (holding m.0 k, (k, y) ∷ m.1) → k ≡ slot → m'.1 ≡ (slot, y) ∷ rest m'.1
  in_hand m m' k slot y is same =
      let held : m'.1 ≡ (k, y) ∷ m.1 = ap (λ (u : Sat T). u.1) is in
      let again : m'.1 ≡ (slot, y) ∷ m.1 = held ∙ ap (λ (z : ℕ). (z, y) ∷ m.1) same in
      again ∙ ap (λ (l : List (ℕ × Option T)). (slot, y) ∷ l) (sym (ap rest held))

  -- what an exchange found there
  pub found_there : (m m' : Sat T) (k slot : ℕ) (y d : Option T) → m' ≡ (holding m.0 k, (k, y) ∷ m.1) → m'.1 ≡ (slot, d) ∷ rest m'.1 → d ≡ y
  found_there m m' k slot y d is found =
      let held : m'.1 ≡ (k, y) ∷ m.1 = ap (λ (u : Sat T). u.1) is in
      let first : (slot, d) ∷ rest m'.1 ≡ (k, y) ∷ m.1 = sym found ∙ held in
      ap (λ (l : List (ℕ × Option T)). at_first (λ i c. c) d l) first

  -- the seat after the exchange
  pub after_swap : (m m' m'' : Sat T) (k slot : ℕ) (y d : Option T) → m.1 ≡ [] → k ≡ slot → m' ≡ (holding m.0 k, (k, y) ∷ m.1) → m'' ≡ (m'.0, (slot, d) ∷ rest m'.1)
      → m'' ≡ (holding m.0 slot, (slot, d) ∷ [])
  after_swap m m' m'' k slot y d empty same is swapped =
      let step : (m'.0, (slot, d) ∷ rest m'.1) ≡ (holding m.0 k, (slot, d) ∷ m.1) = λ i. ((is i).0, (slot, d) ∷ rest (is i).1) in
      let last : (holding m.0 k, (slot, d) ∷ m.1) ≡ (holding m.0 slot, (slot, d) ∷ []) = λ i. (holding m.0 (same i), (slot, d) ∷ empty i) in
      swapped ∙ (step ∙ last)

  pub there_if_home : (out : List ℕ) (k slot : ℕ) (c : Option T) → k ≡ slot → has slot out ≡ false → left_at out k c ≡ c
  there_if_home out k slot c same h = ap (λ (z : ℕ). left_at out z c) same ∙ ap (λ (b : Bool). cond b None c) h

  pub gone_if_out : (out : List ℕ) (k slot : ℕ) (c : Option T) → k ≡ slot → has slot out ≡ true → left_at out k c ≡ None
  gone_if_out out k slot c same h = ap (λ (z : ℕ). left_at out z c) same ∙ ap (λ (b : Bool). cond b None c) h

  -- a lease that has an outline is there
  pub outline_some : (o : Option (Plan T)) (z : ℕ × List (ℕ × ℕ)) → outline o ≡ Some z → (l : Plan T) × (o ≡ Some l) × (map named l.places ≡ z.1)
  outline_some None z e = absurd (none-some z e)
  outline_some (Some l) z e = (l, refl, ap (λ (y : ℕ × List (ℕ × ℕ)). y.1) (same_Some (l.frame, map named l.places) z e))

  place_by : (b : Bool) (p : Place T) (ps : List (Place T)) (geode k : ℕ)
      → (slot_at geode (map named ps) ≡ Some k → (i : ℕ) × (q : Place T) × (slice_get ps i ≡ Some q) × (q.slot ≡ k) × (content_at geode ps ≡ Some q.content))
      → cond b (Some p.slot) (slot_at geode (map named ps)) ≡ Some k
      → (i : ℕ) × (q : Place T) × (slice_get (p ∷ ps) i ≡ Some q) × (q.slot ≡ k) × (cond b (Some p.content) (content_at geode ps) ≡ Some q.content)
  place_by true p ps geode k more e = (0, p, refl, same_Some p.slot k e, refl)
  place_by false p ps geode k more e = let h = more e in (suc h.0, h.1, h.2, h.3, h.4)

  place_in : (ps : List (Place T)) (geode k : ℕ) → slot_at geode (map named ps) ≡ Some k
      → (i : ℕ) × (q : Place T) × (slice_get ps i ≡ Some q) × (q.slot ≡ k) × (content_at geode ps ≡ Some q.content)
  place_in [] geode k e = absurd (none-some k e)
  place_in (p ∷ ps) geode k e = place_by (eqb p.geode geode) p ps geode k (place_in ps geode k) e

  -- the place that a lease has for a geode, where its outline has the slot k for it
  pub place_for : (o : Option (Plan T)) (frame : ℕ) (pairs : List (ℕ × ℕ)) (geode k : ℕ) → outline o ≡ Some (frame, pairs) → slot_at geode pairs ≡ Some k
      → (l : Plan T) × (x : T) × (o ≡ Some l) × HasPlace l k x × (recorded o geode ≡ Some x)
  place_for o frame pairs geode k is at =
      let some_plan = outline_some o (frame, pairs) is in
      let l : Plan T = some_plan.0 in
      let q = place_in l.places geode k (ap (slot_at geode) some_plan.2 ∙ at) in
      (l, q.1.content, some_plan.1, (q.0, q.1, q.2, q.3, refl), ap (λ (z : Option (Plan T)). recorded z geode) some_plan.1 ∙ q.4)

-- the geode at a place of the pairs
pub name_some : (pairs : List (ℕ × ℕ)) (i : ℕ) (p : ℕ × ℕ) → slice_get pairs i ≡ Some p → name_at pairs i ≡ Some p.0
name_some [] i p e = absurd (none-some p e)
name_some (q ∷ qs) zero p e = ap (λ (z : ℕ × ℕ). Some z.0) (same_Some q p e)
name_some (q ∷ qs) (suc i) p e = name_some qs i p e

pub name_none : (pairs : List (ℕ × ℕ)) (i : ℕ) → length pairs ≤ i → name_at pairs i ≡ None
name_none [] i h = refl
name_none (q ∷ qs) zero h = absurd (omega arith)
name_none (q ∷ qs) (suc i) h = name_none qs i (omega arith)

-- the slot at the first pair, and past it
pub slot_here : (p : ℕ × ℕ) (ps : List (ℕ × ℕ)) (geode : ℕ) → p.0 ≡ geode → slot_at geode (p ∷ ps) ≡ Some p.1
slot_here p ps geode e = ap (λ (b : Bool). cond b (Some p.1) (slot_at geode ps)) (eq-eqb p.0 geode e)

pub slot_else : (p : ℕ × ℕ) (ps : List (ℕ × ℕ)) (geode : ℕ) → p.0 ≢ geode → slot_at geode (p ∷ ps) ≡ slot_at geode ps
slot_else p ps geode n = ap (λ (b : Bool). cond b (Some p.1) (slot_at geode ps)) (ne_eqb p.0 geode n)
