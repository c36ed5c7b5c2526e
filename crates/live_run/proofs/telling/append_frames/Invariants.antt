use Rattle.std.proofs.Common.{◌≡◌, ◌+◌, ◌++◌, drop}
use Rattle.play_report.specs.Frames.{frame_texts}
use Rattle.live_run.proofs.telling.append_frames.Given as goal

-- the lines so far, and those of the frames that are left, are those of all
abbrev pub invariant-loop-numbers : goal.invariant-loop-numbers
invariant-loop-numbers l =
    l.text.items ++ frame_texts (l.frame + 1) (drop l.numbers-index l.stats) ≡ l.fn.text.items ++ frame_texts (l.before + 1) l.stats
