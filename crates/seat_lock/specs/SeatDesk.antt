-- What contracts see of a desk at a lock.
use Rattle.atomic_table.specs.Seated.{TableId}
use Rattle.seat_lock.specs.declared.view.View.{View}
use Rattle.seat_lock.specs.declared.seat_desk.SeatDesk.{SeatDesk}
use Rattle.seat_lock.specs.Tokens.{pass_of, pass_view}

module _ {T R E : Type 0} {L : _} where
  -- the lock that it stands at
  abbrev pub desk_lock : SeatDesk T R E L → TableId
  desk_lock desk = pass_of desk.pass

  -- what its pass knows
  abbrev pub desk_view : SeatDesk T R E L → View E
  desk_view desk = pass_view desk.pass
