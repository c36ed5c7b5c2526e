use Rattle.std.proofs.Common.{◌≡◌, take}
use Rattle.perfly_top.specs.Sums.{sum_of_bytes}
use Rattle.perfly_top.proofs.summing.sum_of.Given as goal

abbrev pub invariant-loop-byte : goal.invariant-loop-byte
invariant-loop-byte l = l.sum ≡ sum_of_bytes (take l.byte-index l.bytes)
