-- How far the unfolding of a node goes: the tables by which the code reckons heights, sizes and what is below.
use Rattle.std.specs.Prelude.{ℕ, ◌+◌, min, max, false, ◌||◌, ◌==◌, List, map, fold, slice_index_or}
use Rattle.std.specs.List.{position}
use Rattle.std.specs.Option.{option_map_or}
use Rattle.plain_graph.specs.declared.survey.Extent.{Extent}
use Rattle.pf_model.specs.Graphs.{Look, Nodes, node_at, has_id, height_of, size_of, is_below, height_in, size_in, below_in}

-- the extent of a node without children
abbrev pub leaf : Extent
leaf = record { height = 1; size = 1; reaches = false }

-- the extent of a node with one more child, which may be the target; a height counts up to 4,097 and a size to 131,073
abbrev pub over : ℕ → Extent → ℕ × Extent → Extent
over target e c =
    record {
      height = max e.height (min 4097 (c.1.height + 1));
      size = min 131073 (e.size + c.1.size);
      reaches = e.reaches || (c.0 == target || c.1.reaches);
    }

-- the extent of a node from those of its children
abbrev pub above : ℕ → (ℕ → Extent) → List ℕ → Extent
above target below cs = fold (λ e c. over target e (c, below c)) leaf cs

-- what a table of no levels tells of each id
abbrev pub nothing : Extent
nothing = record { height = 0; size = 0; reaches = false }

-- the extent that a table tells of an id: what stands at its place, or the base where nothing does
abbrev pub told : Extent → Nodes → List Extent → ℕ → Extent
told base nodes table id = option_map_or (λ p. slice_index_or table p base) (position (has_id id) nodes) base

-- the table of one more level
abbrev pub next_table : ℕ → Extent → Nodes → List Extent → List Extent
next_table target base nodes table = map (λ e. above target (told base nodes table) e.1.children) nodes

-- the extent of a node with at most so many levels
abbrev pub extent_in : ℕ → ℕ → Look → ℕ → Extent
extent_in target n look id =
    record {
      height = min 4097 (height_in n look id);
      size = min 131073 (size_in n look id);
      reaches = below_in n look id target;
    }

abbrev pub extent_of : ℕ → Look → ℕ → Extent
extent_of target look id =
    record { height = height_of look id; size = min 131073 (size_of look id); reaches = is_below look id target }

-- the table of so many levels
abbrev pub table_in : ℕ → ℕ → Nodes → List Extent
table_in target n nodes = map (λ e. extent_in target n (node_at nodes) e.0) nodes

-- the extents of all nodes
abbrev pub extents_of : ℕ → Nodes → List Extent
extents_of target nodes = map (λ e. extent_of target (node_at nodes) e.0) nodes
