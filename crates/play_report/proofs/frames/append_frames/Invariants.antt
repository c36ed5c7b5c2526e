use Rattle.std.proofs.Common.{◌≡◌, ◌+◌, ◌++◌, drop}
use Rattle.play_report.specs.Frames.{frame_texts}
use Rattle.play_report.proofs.frames.append_frames.Given as goal

abbrev pub invariant-loop-i : goal.invariant-loop-i
invariant-loop-i l = l.out.items ++ frame_texts (l.i + 1) (drop l.i l.stats) ≡ l.fn.out.items ++ frame_texts 1 l.stats
