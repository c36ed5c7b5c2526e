use Rattle.std.proofs.Common.{Some}
use Rattle.perfly_top.proofs.playing_alone.summed_alone.Given as goal

-- the sink of the call, and its loan
abbrev pub ghosts-held_alone : goal.ghosts-held_alone
ghosts-held_alone g a = record { start = g.O.Sink.written a.held.sink.now; loan = Some a.held.sink.ghost_name }
