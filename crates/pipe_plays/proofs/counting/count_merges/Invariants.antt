use Rattle.std.proofs.Common.{◌≡◌, ◌≤◌, take}
use Rattle.play_check.specs.Lines.{base_marks, total}
use Rattle.pipe_plays.proofs.counting.count_merges.Given as goal

-- the merges of the lines so far
abbrev pub invariant-loop-line : goal.invariant-loop-line
invariant-loop-line l = record { made : l.merges ≡ total (base_marks (take l.line-index l.dbase)); few : l.merges ≤ l.line-index }
