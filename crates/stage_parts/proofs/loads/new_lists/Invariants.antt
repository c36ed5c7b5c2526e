use Rattle.std.proofs.Common.{◌≡◌, length}
use Rattle.stage_parts.proofs.loads.new_lists.Given as goal

abbrev pub invariant-loop-channel : goal.invariant-loop-channel
invariant-loop-channel l = length l.lists.items ≡ l.channel
