use Rattle.std.proofs.Common.{◌≡◌, false, drop}
use Rattle.play_format.specs.Plays.{open_after}
use Rattle.pipe_core.proofs.commands.open_behind.Given as goal

-- what the lines come to is what those that are left come to from here
abbrev pub invariant-loop-line : goal.invariant-loop-line
invariant-loop-line l = open_after false l.lines ≡ open_after l.inside (drop l.line-index l.lines)
