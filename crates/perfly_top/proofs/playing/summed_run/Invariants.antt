use Rattle.std.proofs.Common.{Some}
use Rattle.perfly_top.proofs.playing.summed_run.Given as goal

-- the sink of the call, and its loan
abbrev pub ghosts-held_run : goal.ghosts-held_run
ghosts-held_run g a = record { start = g.O.Sink.written a.held.sink.now; loan = Some a.held.sink.ghost_name }
