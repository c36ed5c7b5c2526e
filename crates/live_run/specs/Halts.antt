-- Why a live run reads no further, by the error of a part.
use Rattle.live_feed.specs.declared.error.FeedError.{FeedError}
use Rattle.live_feed.specs.declared.error.FeedError.TheVariants as feed_error
use Rattle.program_ends.specs.declared.stop.Stop.{Stop}
use Rattle.program_ends.specs.declared.stop.Stop.TheVariants as stop
use Rattle.live_run.specs.declared.halt.Halt.{Halt}
use Rattle.live_run.specs.declared.halt.Halt.TheVariants as halt

abbrev pub halt_of_feed : FeedError → Halt
halt_of_feed (feed_error.Refused r) = halt.Refused r
halt_of_feed feed_error.NoMemory = halt.Broken

-- why a call stops that comes to this before its pipe was opened
abbrev pub stop_of : Halt → Stop
stop_of (halt.Refused r) = stop.Refused r
stop_of halt.ReadFault = stop.ReadFault
stop_of h = stop.NoMemory
