use Rattle.std.proofs.Common.{◌≡◌}
use Rattle.one_thread.proofs.Merging.{MadeSoFar}
use Rattle.one_thread.proofs.sequential.edit_all.Given as goal

abbrev pub invariant-loop-e : goal.invariant-loop-e
invariant-loop-e l = (l.place ≡ l.e-index) × MadeSoFar l.edits l.initial.graph l.e-index l.graph
