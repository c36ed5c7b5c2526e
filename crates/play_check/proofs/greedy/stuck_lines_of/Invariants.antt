use Rattle.std.proofs.Common.{◌+◌, ◌≤◌, length}
use Rattle.play_check.specs.Lines.{app_marks, base_marks}
use Rattle.play_check.proofs.Walks.{Walked}
use Rattle.play_check.proofs.greedy.stuck_lines_of.Given as goal

abbrev pub invariant-loop-begun : goal.invariant-loop-begun
invariant-loop-begun l =
    record {
      walked : Walked l.app l.dbase (app_marks l.app_left) (base_marks l.dbase_left) l.frames l.merges;
      frames_room : l.frames + length l.app_left ≤ length l.app;
      merges_room : l.merges + length l.dbase_left ≤ length l.dbase;
    }

abbrev pub decreases-loop-begun : goal.decreases-loop-begun
decreases-loop-begun l = length l.app_left + length l.dbase_left
