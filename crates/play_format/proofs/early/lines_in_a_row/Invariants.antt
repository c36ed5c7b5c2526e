use Rattle.std.proofs.Common.{length}
use Rattle.play_format.specs.Early.{AreLines, IsEnd}
use Rattle.play_format.proofs.early.lines_in_a_row.Given as goal

abbrev pub invariant-loop-line : goal.invariant-loop-line
invariant-loop-line l = record {
  end : IsEnd l.rest l.left;
  lines : AreLines l.rest l.left l.tris.items;
}

abbrev pub decreases-loop-line : goal.decreases-loop-line
decreases-loop-line l = length l.left
