-- What each kind of step tells the seat that takes it. `m` is the seat before, its view and the slots that it holds, and
-- `m'` the seat after, `n` is the value found.
--   1 see           ended,   load       looks once more, and learns which leases are over
--   2 take a slot   granted, load       holds the slot, to store or reclaim
--   3 lay it back   granted, load       holds none, and the slot has another content
--   4 grant         granted, fetch_add  the lease, with its slots and contents
--   5 split         a load              a seat that knows the lease
--   6 join          a load              the turn knows the lease
--   7 take a slot   ended,   load       holds a slot of the lease, to fetch or put back
--   8 lay it back   ended,   load       holds none, and the slot is fetched, or is not
--   9 end           ended,   fetch_add  the next lease ends next
use Rattle.std.specs.Prelude.{◌≡◌, ℕ, ◌^◌, ◌<◌, ◌≤◌, [], ◌∷◌, length, slice_get, Option, Some, None}
use Rattle.atomic_table.specs.Table.{Me, Step}
use Rattle.geo_lease.specs.declared.view.Plan.{Plan}
use Rattle.geo_lease.specs.declared.view.View.{View}
use Rattle.geo_lease.specs.Plans.{HasPlace}
use Rattle.geo_lease.specs.Views.{left_at, looking, holding, laying, granting, fetching, returning, ending}

abbrev pub Sat : Type 0 → Type 0
Sat T = Me (Option T) (View T)

module _ {T : Type 0} where
  -- kind 1
  abbrev pub Sees : Step (Option T) → Sat T → ℕ → Sat T → Type 0
  Sees st m n m' = (m' ≡ (looking m.0 n, m.1)) × (m.0.seen ≤ n) × (n ≤ length m.0.leases)

  -- kind 2, of the slot k
  abbrev pub Takes : ℕ → Step (Option T) → Sat T → ℕ → Sat T → Type 0
  Takes k st m n m' = (c : Option T) × (slice_get m.0.contents k ≡ Some c) × (m' ≡ (holding m.0 k, (k, c) ∷ m.1))

  -- kind 3
  abbrev pub Lays : Step (Option T) → Sat T → ℕ → Sat T → Type 0
  Lays st m n m' = (k : ℕ) (c : Option T) → m.1 ≡ (k, c) ∷ [] → m' ≡ (laying m.0 k c, [])

  -- kind 4, of the lease l
  abbrev pub Grants : Plan T → Step (Option T) → Sat T → ℕ → Sat T → Type 0
  Grants l st m n m' = (n ≡ length m.0.leases) × (m' ≡ (granting m.0 l, m.1))

  -- kind 7, of the slot k
  abbrev pub TakesLeased : ℕ → Step (Option T) → Sat T → ℕ → Sat T → Type 0
  TakesLeased k st m n m' =
      (l : Plan T) (x : T) → m.0.plan ≡ Some l → HasPlace l k x
      → m' ≡ (holding m.0 k, (k, left_at m.0.out k (Some x)) ∷ m.1)

  -- kind 8, of an empty slot: it is fetched
  abbrev pub LaysOut : Step (Option T) → Sat T → ℕ → Sat T → Type 0
  LaysOut st m n m' = (k : ℕ) → m.1 ≡ (k, None) ∷ [] → m' ≡ (fetching m.0 k, [])

  -- kind 8, of a slot with its content: it is put back
  abbrev pub LaysBack : Step (Option T) → Sat T → ℕ → Sat T → Type 0
  LaysBack st m n m' = (k : ℕ) (x : T) → m.1 ≡ (k, Some x) ∷ [] → m' ≡ (returning m.0 k, [])

  -- kind 9
  abbrev pub Ends : Step (Option T) → Sat T → ℕ → Sat T → Type 0
  Ends st m n m' = (n ≡ m.0.next) × (n < 2 ^ 32) × (m' ≡ (ending m.0, m.1))
