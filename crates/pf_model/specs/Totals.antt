-- Totals over all nodes of a look-up.
use Rattle.std.specs.Prelude.{ℕ, List, map, sum, length}
use Rattle.std.specs.List.{range_with_len}
use Rattle.std.specs.Option.{option_map_or}
use Rattle.pf_model.specs.declared.nodes.Kind.{Kind}
use Rattle.pf_model.specs.Kinds.{geom_of}
use Rattle.pf_model.specs.Graphs.{Look}

-- all ids
unfoldable pub all_ids : List ℕ
all_ids = range_with_len 0 65536

-- the number of triangles of a kind, 0 where it is no geode
abbrev pub triangles_of : Kind → ℕ
triangles_of k = option_map_or length (geom_of k) 0

-- the number of triangles of all geodes, each once however often it is a child
abbrev pub triangle_count : Look → ℕ
triangle_count look = sum (map (λ id. option_map_or (λ n. triangles_of n.kind) (look id) 0) all_ids)
