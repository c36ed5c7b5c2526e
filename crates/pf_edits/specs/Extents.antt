-- Nodes, parents and extents of records.
use Rattle.std.specs.Prelude.{◌≡◌, ℕ, ◌+◌, ◌≤◌, min, max, true, false, if◌then◌else◌, List, []}
use Rattle.std.specs.List.{fold}
use Rattle.std.specs.Option.{option_map, option_map_or}
use Rattle.pf_model.specs.declared.nodes.Kind.{Kind}
use Rattle.pf_model.specs.declared.nodes.Node.{Node}
use Rattle.pf_model.specs.Graphs.{Look, children_of}
use Rattle.pf_model.specs.Limits.{has_child}
use Rattle.pf_model.specs.NodeEdits.{with_children, with_kind}
use Rattle.pf_edits.specs.declared.extents.Extent.{Extent}
use Rattle.pf_edits.specs.declared.records.Record.{Record}
use Rattle.pf_edits.specs.Tables.{Slots, record_at}
use Rattle.pf_edits.specs.Ways.{is_in}

-- the node of an id
abbrev pub look_of : Slots → Look
look_of slots id = option_map (λ r. r.node) (record_at slots id)

-- the parents noted of an id
abbrev pub parents_of : Slots → ℕ → List ℕ
parents_of slots id = option_map_or (λ r. r.parents) (record_at slots id) []

-- the extent of a node without children
abbrev pub leaf : Extent
leaf = record { height = 1; size = 1 }

-- the extent of a node with one more child; a height counts up to 4,097 and a size to 131,073
abbrev pub joined : Extent → Extent → Extent
joined e c = record { height = max e.height (min 4097 (c.height + 1)); size = min 131073 (e.size + c.size) }

-- the extent of a node from those of its children
abbrev pub reckoned : (ℕ → Extent) → List ℕ → Extent
reckoned extents cs = fold (λ e c. joined e (extents c)) leaf cs

-- the extent noted of an id, that of a leaf where it has no node
abbrev pub extent_at : Slots → ℕ → Extent
extent_at slots id = option_map_or (λ r. r.extent) (record_at slots id) leaf

-- extents that meet the recursion
abbrev pub Meets : Look → (ℕ → Extent) → Type 0
Meets look extents = (id : ℕ) → extents id ≡ reckoned extents (children_of look id)

-- extents that meet the recursion but at these ids
abbrev pub MeetBut : Look → (ℕ → Extent) → List ℕ → Type 0
MeetBut look extents ids = (id : ℕ) → is_in id ids ≡ false → extents id ≡ reckoned extents (children_of look id)

-- Extents are those of the nodes, and the parents of a node are noted.
pub record IsSound (slots : Slots) : Type 0 where
  pub meets : Meets (look_of slots) (extent_at slots)
  pub noted : (y x : ℕ) → has_child (look_of slots) y x ≡ true → is_in y (parents_of slots x) ≡ true

-- a record with this extent, and with the one that it had as that of before
abbrev pub with_extent : Extent → Record → Record
with_extent e r = record r { extent = e; before = r.extent }

-- the extent that an id had until it was last set, that of a leaf where it has no node
abbrev pub before_at : Slots → ℕ → Extent
before_at slots id = option_map_or (λ r. r.before) (record_at slots id) leaf

-- the extent with which an id was counted: that of before on a way, and else its own
abbrev pub counted_at : Slots → List ℕ → ℕ → Extent
counted_at slots way id = if is_in id way then before_at slots id else extent_at slots id

-- the children of a record's node, and the record with other ones
abbrev pub children_in : Record → List ℕ
children_in r = r.node.children

abbrev pub with_child_list : List ℕ → Record → Record
with_child_list cs r = record r { node = with_children cs r.node }

-- the kind of a record's node, and the record with another one
abbrev pub kind_in : Record → Kind
kind_in r = r.node.kind

abbrev pub with_other_kind : Kind → Record → Record
with_other_kind k r = record r { node = with_kind k r.node }

-- an extent within the limits
pub record IsWithin (e : Extent) : Type 0 where
  pub low : e.height ≤ 32
  pub small : e.size ≤ 131072

abbrev pub child_list : Node → List ℕ
child_list n = n.children

abbrev pub kind_of : Node → Kind
kind_of n = n.kind
