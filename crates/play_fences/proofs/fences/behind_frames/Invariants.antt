use Rattle.std.proofs.Common.{◌≡◌, length}
use Rattle.play_fences.specs.Fences.{behind_frames}
use Rattle.play_fences.specs.Rests.{own_left}
use Rattle.play_fences.proofs.fences.behind_frames.Given as goal

abbrev pub invariant-loop-left : goal.invariant-loop-left
invariant-loop-left l = behind_frames l.left (own_left l.waited l.lines) ≡ behind_frames l.fn.frames (own_left l.fn.waited l.fn.lines)

abbrev pub decreases-loop-left : goal.decreases-loop-left
decreases-loop-left l = length l.lines
