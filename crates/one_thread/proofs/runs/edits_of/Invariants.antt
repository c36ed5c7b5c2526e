use Rattle.std.proofs.Common.{◌≡◌, ◌-◌, ◌^◌, take, min}
use Rattle.std.specs.List.{sum_by}
use Rattle.pf_history.specs.Commands.{edit_count}
use Rattle.one_thread.proofs.runs.edits_of.Given as goal

abbrev pub invariant-loop-command : goal.invariant-loop-command
invariant-loop-command l = l.edits ≡ min (sum_by edit_count (take l.command-index l.commands)) (2 ^ 64 - 1)
