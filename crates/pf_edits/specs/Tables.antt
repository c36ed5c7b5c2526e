-- The records of the working graph: what stands under each id.
use Rattle.std.specs.Prelude.{◌≡◌, ℕ, ◌≤◌, ◌-◌, ◌==◌, if◌then◌else◌, List, ◌++◌, map, replicate, length, count_by, Option, Some, None, is_some, true, slice_index_or}
use Rattle.std.specs.List.{All, sum_by}
use Rattle.std.specs.Option.{option_and_then, option_map_or}
use Rattle.pf_model.specs.Totals.{triangles_of}
use Rattle.slab.specs.Slab.{Slab, get, slab_len}
use Rattle.pf_edits.specs.declared.records.Record.{Record}

-- What stands under each id from 0 on.
abbrev pub Slots : Type 0
Slots = List (Option Record)

-- The records, and how many more find room.
pub record Table : Type 0 where
  pub slots : Slots
  pub spare : ℕ

-- the record of an id
abbrev pub record_at : Slots → ℕ → Option Record
record_at slots id = slice_index_or slots id None

-- what a slab holds under each of these keys
abbrev pub slots_of : Slab Record → List (Option ℕ) → Slots
slots_of slab keys = map (option_and_then (get slab)) keys

-- the key that a cell has: none, or one less than the cell
abbrev pub key_in : ℕ → Option ℕ
key_in cell = if cell == 0 then None else Some (cell - 1)

-- the cells of all ids: those that are written, and 0 for each id past them
abbrev pub cells_of_all : List ℕ → List ℕ
cells_of_all cells = cells ++ replicate (65536 - length cells) 0

-- No more cells are written than there are ids, and there is memory for all.
pub record AreCells (cells : List ℕ) (capacity : ℕ) : Type 0 where
  pub few : length cells ≤ 65536
  pub reserved : 65536 ≤ capacity

-- Each of the 65,536 ids has no key or that of a record of its own; all records have a key, there is room for all nodes
-- of a graph, and each key fits a cell.
pub record IsIndexed (keys : List (Option ℕ)) (slab : Slab Record) : Type 0 where
  pub wide : length keys ≡ 65536
  pub there : (a key : ℕ) → slice_index_or keys a None ≡ Some key → is_some (get slab key) ≡ true
  pub apart : (a b key : ℕ) → slice_index_or keys a None ≡ Some key → slice_index_or keys b None ≡ Some key → a ≡ b
  pub counted : count_by is_some (slots_of slab keys) ≡ slab_len slab
  pub roomy : 4097 ≤ slab.capacity
  pub narrow : slab.capacity ≤ 65535

-- the number of triangles of a record
abbrev pub slot_triangles : Option Record → ℕ
slot_triangles slot = option_map_or (λ r. triangles_of r.node.kind) slot 0

-- the number of triangles of all records
abbrev pub triangles_in : Slots → ℕ
triangles_in slots = sum_by slot_triangles slots

-- Each record has at most 4,096 triangles, and all have so many.
pub record AreCounted (slots : Slots) (tris : ℕ) : Type 0 where
  pub light : All (λ slot. slot_triangles slot ≤ 4096) slots
  pub total : tris ≡ triangles_in slots

-- What the records keep: each under its id, and the number of their triangles.
pub record IsKept (keys : List (Option ℕ)) (slab : Slab Record) (tris : ℕ) : Type 0 where
  pub indexed : IsIndexed keys slab
  pub counted : AreCounted (slots_of slab keys) tris
