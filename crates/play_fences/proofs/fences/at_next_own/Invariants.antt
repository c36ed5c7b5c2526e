use Rattle.std.proofs.Common.{◌≡◌, length}
use Rattle.play_fences.specs.Rests.{own_left}
use Rattle.play_fences.proofs.fences.at_next_own.Given as goal

abbrev pub invariant-loop-line : goal.invariant-loop-line
invariant-loop-line l = own_left l.waited l.lines ≡ own_left l.fn.waited l.fn.lines

abbrev pub decreases-loop-line : goal.decreases-loop-line
decreases-loop-line l = length l.lines
