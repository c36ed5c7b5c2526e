-- What the calls tell of the slot that a content lies in, and what a keeper keeps track of.
use Rattle.std.specs.Prelude.{◌≡◌, ◌≢◌, ℕ, ◌+◌, ◌*◌, ◌/◌, ◌<◌, ◌≤◌, true, List, [], ◌∷◌, length, get_or, slice_get, slice_set, Option, Some, None, is_some}
use Rattle.geo_lease.specs.declared.view.View.{View}
use Rattle.geo_lease.specs.declared.keeper.GrantError.{GrantError}
use Rattle.geo_lease.specs.declared.keeper.GrantError.TheVariants.{Out, NoMemory}
use Rattle.geo_lease.specs.Plans.{IsFree, lies_in}
use Rattle.geo_lease.specs.Views.{looking, laying}

-- the slot is no geode's current one
abbrev pub IsIdle : List (Option ℕ) → ℕ → Type 0
IsIdle current k = (g : ℕ) → slice_get current g ≢ Some (Some k)

-- each pair is a geode with its current slot
abbrev pub AreCurrent : List (Option ℕ) → List (ℕ × ℕ) → Type 0
AreCurrent current pairs = (i : ℕ) (p : ℕ × ℕ) → slice_get pairs i ≡ Some p → slice_get current p.0 ≡ Some (Some p.1)

-- the slots of the pairs are marked with the number
abbrev pub marked : List ℕ → List (ℕ × ℕ) → ℕ → List ℕ
marked last [] number = last
marked last (pair ∷ pairs) number = marked (slice_set last pair.1 number) pairs number

module _ {T : Type 0} where
  -- Slot k is of geode k / (ahead + 1). The slot that a geode's next content goes to is one of its own that no lease out
  -- names: the current one where it is such a slot, and else the lowest
  pub record Chosen (v : View T) (current : List (Option ℕ)) (geode k : ℕ) : Type 0 where
    pub inside : k < length v.contents
    pub of_geode : k / (v.ahead + 1) ≡ geode
    pub free : IsFree v.leases v.seen k
    pub again : (j : ℕ) → slice_get current geode ≡ Some (Some j) → IsFree v.leases v.seen j → k ≡ j
    pub lowest : ((i : ℕ) → slice_get current geode ≡ Some (Some i) → ¬ IsFree v.leases v.seen i)
        → (j : ℕ) → j < k → j / (v.ahead + 1) ≡ geode → ¬ IsFree v.leases v.seen j

  -- What a reclaim tells, whose look found e leases over: the slot is emptied exactly where it is no geode's current one,
  -- no lease whose number is at least e names it, and something lies in it
  abbrev pub Reclaimed : ℕ → ℕ → List (Option ℕ) → View T → Option T → View T → Type 0
  Reclaimed k e current v None w =
      (w ≡ looking v e) × (IsIdle current k → IsFree v.leases e k → slice_get v.contents k ≡ Some None)
  Reclaimed k e current v (Some x) w =
      (w ≡ laying (looking v e) k None) × IsIdle current k × IsFree v.leases e k
      × (slice_get v.contents k ≡ Some (Some x))

  -- what a refused grant tells: the look found as many leases out as there can be, or there was no memory, and then
  -- nothing changed
  abbrev pub Refused : GrantError → View T → View T → Type 0
  Refused (Out e) v w = (length v.leases ≡ e + v.ahead) × (w ≡ looking v e)
  Refused NoMemory v w = w ≡ v

  -- What a keeper keeps: how many leases can be out, what it saw of the word ended, how many leases it granted, the
  -- current slot of each geode, and of each slot one more than the number of the last lease that names it, or 0
  pub record Tracks (v : View T) (ahead seen granted : ℕ) (current : List (Option ℕ)) (last : List ℕ) : Type 0 where
    pub ahead_is : v.ahead ≡ ahead
    pub seen_is : v.seen ≡ seen
    pub granted_is : length v.leases ≡ granted
    pub seen_granted : seen ≤ granted
    pub room : granted ≤ seen + ahead
    pub counted : granted ≤ v.above
    pub slots : length last ≡ length current * (ahead + 1)
    pub sized : length v.contents ≡ length last
    -- a geode's current slot is one of its own, with a content
    pub ranged : (g k : ℕ) → slice_get current g ≡ Some (Some k) → (k < length last) × (k / (ahead + 1) ≡ g)
    pub filled : (g k : ℕ) → slice_get current g ≡ Some (Some k) → is_some (lies_in v.contents k) ≡ true
    -- a slot is free from a number on exactly where its last lease is below
    pub free_after : (k from : ℕ) → get_or last k 0 ≤ from → IsFree v.leases from k
    pub last_before : (k from : ℕ) → IsFree v.leases from k → get_or last k 0 ≤ from
    -- a lease names one slot of a geode
    pub single : (j k : ℕ) → j / (ahead + 1) ≡ k / (ahead + 1) → 0 < get_or last j 0
        → get_or last j 0 ≡ get_or last k 0 → j ≡ k
