-- The status of a call that does not come to its end, and what it returns beside it.
use Rattle.std.specs.Prelude.{ℕ, Option, None, Some}
use Rattle.play_format.specs.declared.refusal.Refusal.{Refusal}
use Rattle.program_ends.specs.declared.stop.Stop.{Stop}
use Rattle.program_ends.specs.declared.stop.Stop.TheVariants as stop

-- the status that a call ends with where it doesn't come to its end
abbrev pub status_of : Stop → ℕ
status_of stop.Words = 1
status_of (stop.Refused r) = 2
status_of (stop.Stuck app dbase) = 3
status_of stop.ReadFault = 4
status_of stop.FrameFault = 5
status_of stop.NoMemory = 7

abbrev pub refusal_of : Stop → Option Refusal
refusal_of (stop.Refused r) = Some r
refusal_of _ = None

abbrev pub stuck_of : Stop → Option (ℕ × ℕ)
stuck_of (stop.Stuck app dbase) = Some (app, dbase)
stuck_of _ = None
