use Rattle.std.proofs.Common.{◌≡◌, take}
use Rattle.plain_graph.proofs.graph.copied_gone.Given as goal

abbrev pub invariant-loop-remains : goal.invariant-loop-remains
invariant-loop-remains l = l.copied.items ≡ take l.remains-index l.gone
