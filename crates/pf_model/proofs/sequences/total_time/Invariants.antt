use Rattle.std.proofs.Common.{◌≡◌, ◌≤◌, ◌*◌, sum}
use Rattle.pf_model.specs.Kinds.{child_times}
use Rattle.pf_model.proofs.sequences.total_time.Given as goal

abbrev pub invariant-loop-place : goal.invariant-loop-place
invariant-loop-place l = (l.total ≡ sum (child_times l.times l.place)) × (l.total ≤ 65535 * l.place)
