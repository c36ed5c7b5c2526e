use Rattle.std.proofs.Common.{◌≡◌, take, map}
use Rattle.pf_model.specs.Graphs.{greatest}
use Rattle.plain_graph.proofs.survey.greatest_of.Given as goal

abbrev pub invariant-loop-extent : goal.invariant-loop-extent
invariant-loop-extent l = l.height ≡ greatest (map (λ e. e.height) (take l.extent-index l.table))
