use Rattle.std.proofs.Common.{◌≡◌, ◌+◌, drop}
use Rattle.pf_model.specs.Kinds.{child_times, place_passing}
use Rattle.pf_model.proofs.sequences.place_passing.Given as goal

abbrev pub invariant-loop-place : goal.invariant-loop-place
invariant-loop-place l =
    place_passing (drop l.place (child_times l.times l.children)) l.left + l.place ≡ place_passing (child_times l.times l.children) l.frames
