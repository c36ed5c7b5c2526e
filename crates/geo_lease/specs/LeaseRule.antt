-- The rule of the table. Word 0 counts the granted leases, word 1 those that ended. The seat 0 is the keeper's, the
-- seat 1 the turn's, and all others are leases' or gone.
use Rattle.std.specs.Prelude.{◌≡◌, ◌≢◌, ◌⊎◌, ℕ, ◌+◌, ◌^◌, ◌≤◌, true, List, [], ◌∷◌, map, length, replicate, slice_get, Option, Some, None}
use mathlib.Core.Option.{some}
use mathlib.Core.Option as maybe
use lib.ListN.{get_elem?}
use Rattle.atomic_table.specs.Table.{State}
use Rattle.geo_lease.specs.declared.view.Role.TheVariants.{Opens, Keeps, Turns}
use Rattle.geo_lease.specs.declared.view.Plan.{Plan}
use Rattle.geo_lease.specs.declared.view.View.{View}
use Rattle.geo_lease.specs.Plans.{Names, IsFree}
use Rattle.geo_lease.specs.Views.{has, left_at, opener}

module _ {T : Type 0} where
  -- what holds of the i-th seat's view
  pub record Fits (keeper turn : View T) (i : ℕ) (v : View T) : Type 0 where
    pub opened : v.role ≢ Opens
    pub keeps : v.role ≡ Keeps → (i ≡ 0) × (v ≡ keeper)
    pub turns : v.role ≡ Turns → (i ≡ 1) × (v ≡ turn)
    -- part 4: a lease that a seat knows is the keeper's lease of that number
    pub knows : (l : Plan T) → v.plan ≡ Some l → slice_get keeper.leases v.number ≡ Some l

  -- what holds of the keeper's view, where `ended` is the number of leases that ended
  pub record Kept (ahead ended : ℕ) (keeper : View T) : Type 0 where
    pub ahead_is : keeper.ahead ≡ ahead
    -- part 1
    pub ended_granted : ended ≤ length keeper.leases
    -- part 2
    pub seen_ended : keeper.seen ≤ ended
    pub granted_ahead : length keeper.leases ≤ keeper.seen + ahead
    -- frames rise, so the words do not wrap
    pub counted : length keeper.leases ≤ keeper.above
    pub frames : keeper.above ≤ 2 ^ 32
    -- part 5: what a lease that is not known to be over names has that lease's content
    pub promised : (n k : ℕ) (x : T) → keeper.seen ≤ n → Names keeper.leases n k x
        → slice_get keeper.contents k ≡ Some (Some x)
    -- part 8: no such lease names the slot that the keeper holds
    pub unnamed : (k : ℕ) → keeper.held ≡ Some k → IsFree keeper.leases keeper.seen k

  -- what holds of the slots
  pub record Stands (keeper turn : View T) (homes : List (maybe.Option (Option T))) : Type 0 where
    pub sized : length homes ≡ length keeper.contents
    -- parts 6 and 9: a slot that nobody holds is at home with what the keeper stored, or empty while it is fetched
    pub at_home : (k : ℕ) (c : Option T) → slice_get keeper.contents k ≡ Some c → keeper.held ≢ Some k
        → turn.held ≢ Some k → get_elem? homes k ≡ some (some (left_at turn.out k c))
    -- part 7: what the turn holds or fetched is named by the lease that ends next
    pub fetched : (k : ℕ) → has k turn.out ≡ true → (x : T) × Names keeper.leases turn.next k x
    pub taken : (k : ℕ) → turn.held ≡ Some k → (x : T) × Names keeper.leases turn.next k x

  pub record Runs (ahead : ℕ) (keeper turn : View T) (s : State (Option T) (View T)) : Type 0 where
    -- part 3
    pub words : s.words ≡ length keeper.leases ∷ turn.next ∷ []
    pub each : (i : ℕ) (v : View T) → get_elem? s.views i ≡ some v → Fits keeper turn i v
    pub kept : Kept ahead turn.next keeper
    pub stands : Stands keeper turn s.homes

  -- the table has one seat, before keeper and turn are two
  pub record Opened (ahead slots : ℕ) (s : State (Option T) (View T)) : Type 0 where
    pub words : s.words ≡ 0 ∷ 0 ∷ []
    pub homes : s.homes ≡ map some (replicate slots None)
    pub views : s.views ≡ opener ahead slots ∷ []

  abbrev pub LeaseRule : ℕ → ℕ → State (Option T) (View T) → Type 0
  LeaseRule ahead slots s = Opened ahead slots s ⊎ ((keeper : View T) × (turn : View T) × Runs ahead keeper turn s)
