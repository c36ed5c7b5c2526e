-- Edge values as numbers, their sums and their signs.
use Rattle.std.specs.Prelude.{◌+ℤ◌, pos, Bool, ◌&&◌, ◌||◌, int_le}
use Rattle.fx_math.specs.Hit.{Edges}
use Rattle.tri_cover.specs.declared.edges.EdgeValues.{EdgeValues}

abbrev pub edges_of : EdgeValues → Edges
edges_of e = record { e0 = e.e0; e1 = e.e1; e2 = e.e2 }

-- the edge values of the sum of two directions
abbrev pub sum_of_edges : Edges → Edges → Edges
sum_of_edges a b = record { e0 = a.e0 +ℤ b.e0; e1 = a.e1 +ℤ b.e1; e2 = a.e2 +ℤ b.e2 }

abbrev pub are_not_below_zero : Edges → Bool
are_not_below_zero e = int_le (pos 0) e.e0 && int_le (pos 0) e.e1 && int_le (pos 0) e.e2

abbrev pub are_not_above_zero : Edges → Bool
are_not_above_zero e = int_le e.e0 (pos 0) && int_le e.e1 (pos 0) && int_le e.e2 (pos 0)

abbrev pub are_of_one_sign : Edges → Bool
are_of_one_sign e = are_not_below_zero e || are_not_above_zero e
