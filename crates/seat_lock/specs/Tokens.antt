-- What contracts see of a lock and of a pass.
use Rattle.atomic_table.specs.Seated.{TableId}
use Rattle.seat_lock.specs.declared.view.View.{View}
use Rattle.seat_lock.specs.declared.pass.Pass.{Pass}
use Rattle.seat_lock.specs.declared.lock.SeatLock.{SeatLock}

module _ {T E : Type 0} where
  -- which lock it is
  abbrev pub lock_id : SeatLock T E → TableId
  lock_id lock = lock.table.shared.table_id

module _ {T E : Type 0} {L : _} where
  -- the lock of a pass
  abbrev pub pass_of : Pass T E L → TableId
  pass_of pass = pass.seat.table_id

  -- what its holder knows
  abbrev pub pass_view : Pass T E L → View E
  pass_view pass = pass.seat.me.0
