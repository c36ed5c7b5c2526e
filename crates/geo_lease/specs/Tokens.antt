-- What contracts see of the leases, the keeper, the turn and a lease.
use Rattle.std.specs.Prelude.{◌≡◌, ℕ, List, length, Option}
use Rattle.atomic_table.specs.Seated.{TableId}
use Rattle.geo_lease.specs.declared.view.Plan.{Plan}
use Rattle.geo_lease.specs.declared.view.View.{View}
use Rattle.geo_lease.specs.declared.keeper.Keeper.{Keeper}
use Rattle.geo_lease.specs.declared.lease.Turn.{Turn}
use Rattle.geo_lease.specs.declared.lease.Lease.{Lease}
use Rattle.geo_lease.specs.declared.leases.Leases.{Leases}
use Rattle.geo_lease.specs.Plans.{current_content, recorded}

module _ {T : Type 0} where
  -- which slots they are
  abbrev pub leases_id : Leases T → TableId
  leases_id leases = leases.table.shared.table_id

  -- the slots of a keeper, of a turn and of a lease
  abbrev pub keeper_of : Keeper T → TableId
  keeper_of keeper = keeper.seat.table_id

  abbrev pub turn_of : Turn T → TableId
  turn_of turn = turn.seat.table_id

  abbrev pub lease_of : Lease T → TableId
  lease_of lease = lease.seat.table_id

  -- what a keeper and a turn know
  abbrev pub keeper_view : Keeper T → View T
  keeper_view keeper = keeper.seat.me.0

  abbrev pub turn_view : Turn T → View T
  turn_view turn = turn.seat.me.0

  -- the current slot of each geode
  abbrev pub current_slots : Keeper T → List (Option ℕ)
  current_slots keeper = keeper.current.items

  -- the number of geodes
  abbrev pub geodes_of : Keeper T → ℕ
  geodes_of keeper = length keeper.current.items

  -- the content that a geode has now
  abbrev pub content_of : Keeper T → ℕ → Option T
  content_of keeper geode = current_content keeper.seat.me.0.contents keeper.current.items geode

  -- the frame and the number of a lease
  abbrev pub frame_of : Lease T → ℕ
  frame_of lease = lease.frame

  abbrev pub number_of : Lease T → ℕ
  number_of lease = lease.number

  -- what a lease promises
  abbrev pub lease_plan : Lease T → Option (Plan T)
  lease_plan lease = lease.seat.me.0.plan

  -- the geodes that it names, each with its slot
  abbrev pub lease_slots : Lease T → List (ℕ × ℕ)
  lease_slots lease = lease.places.items

  -- the content that it recorded for a geode
  abbrev pub content_under : Lease T → ℕ → Option T
  content_under lease geode = recorded lease.seat.me.0.plan geode

  -- the lease is what it was
  abbrev pub SameLease : Lease T → Lease T → Type 0
  SameLease before after =
      (lease_of after ≡ lease_of before) × (frame_of after ≡ frame_of before) × (number_of after ≡ number_of before)
      × (lease_slots after ≡ lease_slots before) × (lease_plan after ≡ lease_plan before)
