-- The seats of the threads that claim.
use Rattle.std.specs.Prelude.{◌≡◌, ℕ, ◌<◌, List, [], length, None}
use Rattle.atomic_table.specs.Seated.{TableId}
use Rattle.atomic_table.specs.declared.shared.Seat.{Seat}
use Rattle.self_scheduling.specs.declared.view.View.{View}

module _ {T : Type 0} where
  -- the seat is one of a table that has a word and a slot for each of the items
  abbrev pub HasItems : List T → Seat T View → TableId → Type 0
  HasItems items seat table = (seat.table_id ≡ table) × (table.words ≡ length items) × (table.slots ≡ length items)

  -- the seat is at the same table, and is the same one there
  abbrev pub SameSeat : Seat T View → Seat T View → Type 0
  SameSeat old new = (new.table_id ≡ old.table_id) × (new.id ≡ old.id)

  -- the seat holds nothing, answers for some thread, and has come to this place
  abbrev pub IsFree : Seat T View → ℕ → Type 0
  IsFree seat place = (seat.me.1 ≡ []) × (seat.me.0.held ≡ None) × (seat.me.0.past ≡ place) × (0 < seat.me.0.threads)
