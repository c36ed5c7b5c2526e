use Rattle.std.proofs.Common.{length}
use Rattle.play_format.specs.Early.{IsEnd}
use Rattle.play_format.proofs.early.behind_row.Given as goal

abbrev pub invariant-loop-line : goal.invariant-loop-line
invariant-loop-line l = IsEnd l.text l.rest

abbrev pub decreases-loop-line : goal.decreases-loop-line
decreases-loop-line l = length l.rest
