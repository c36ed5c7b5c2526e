-- What clauses see of a crossing.
use Rattle.fx_math.specs.Hit.{Edges}
use Rattle.nearest_hit.specs.declared.crossing.Crossing.{Crossing}

abbrev pub edges_of : Crossing → Edges
edges_of c = record { e0 = c.e0; e1 = c.e1; e2 = c.e2 }
