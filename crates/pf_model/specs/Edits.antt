-- Edits: what an edit makes of a graph, the fault of an edit, and the graph after it.
use Rattle.std.specs.Prelude.{◌≡◌, ⊤, ℕ, ◌+◌, Bool, false, not, ◌||◌, ◌==◌, nat_lt, nat_le, if◌then◌else◌, List, [], ◌∷◌, ◌++◌, map, length, Option, Some, None, is_some, is_none}
use Rattle.std.specs.List.{list_any}
use Rattle.std.specs.Option.{option_map_or}
use Rattle.pf_model.specs.declared.nodes.Kind.{Kind}
use Rattle.pf_model.specs.declared.nodes.Node.{Node}
use Rattle.pf_model.specs.declared.nodes.Gone.{Gone}
use Rattle.pf_model.specs.declared.edits.Edit.{Edit}
use Rattle.pf_model.specs.declared.edits.Edit.TheVariants as edit
use Rattle.pf_model.specs.declared.edits.Fault.{Fault}
use Rattle.pf_model.specs.declared.edits.Fault.TheVariants as fault
use Rattle.pf_model.specs.declared.edits.EditError.{EditError}
use Rattle.pf_model.specs.declared.edits.EditError.TheVariants as error
use Rattle.pf_model.specs.Kinds.{geom_of, is_geode, is_switch, is_dcs, is_lod, is_sequence, ranges_of, times_of}
use Rattle.pf_model.specs.Graphs.{Nodes, SceneGraph, node_at, children_of, greatest, height_of, size_of, is_below, change, put, without}
use Rattle.pf_model.specs.Copies.{named_by}
use Rattle.pf_model.specs.NodeEdits.{node_after}

-- Effects

-- a node made: with the next serial, born now, and without children
abbrev pub made : ℕ → Kind → SceneGraph → SceneGraph
made id kind g =
    record g {
      nodes = put id (record { serial = g.next_serial; born = g.time; kind = kind; children = [] }) g.nodes;
      next_serial = g.next_serial + 1;
    }

-- what is left of the node of an id
abbrev pub remains : ℕ → Option Node → List Gone
remains id None = []
remains id (Some n) = record { id = id; serial = n.serial; born = n.born; kind = n.kind } ∷ []

abbrev pub deleted : ℕ → SceneGraph → SceneGraph
deleted id g = record g { nodes = without id g.nodes; gone = g.gone ++ remains id (node_at g.nodes id) }

abbrev pub with_nodes : (Nodes → Nodes) → SceneGraph → SceneGraph
with_nodes f g = record g { nodes = f g.nodes }

-- the graph changed by an edit: a node made, a node deleted, or the node that the edit names changed
abbrev pub effect : SceneGraph → Edit → SceneGraph
effect g (edit.Make id kind) = made id kind g
effect g (edit.Delete id) = deleted id g
effect g e = with_nodes (change (named_by e) (node_after g.time e)) g

-- Rules, each of which gives a fault where its test is met

abbrev pub when : Bool → Fault → Option Fault
when test f = if test then Some f else None

-- the first fault of a list of rules, or none
abbrev pub first : List (Option Fault) → Option Fault
first [] = None
first (None ∷ rules) = first rules
first (Some f ∷ rules) = Some f

-- no node was found under the id
abbrev pub missing : ℕ → Option Node → Option Fault
missing id found = when (is_none found) (fault.Absent id)

abbrev pub absent : Nodes → ℕ → Option Fault
absent nodes id = missing id (node_at nodes id)

-- a node was found and its kind passes the test
abbrev pub has_kind : (Kind → Bool) → Option Node → Bool
has_kind test found = option_map_or (λ n. test n.kind) found false

-- a parent that is a geode
abbrev pub geode_parent : Nodes → ℕ → Option Fault
geode_parent nodes id = when (has_kind is_geode (node_at nodes id)) (fault.Kind id)

-- the scene, which is nobody's child and is never deleted
abbrev pub scene_itself : ℕ → Option Fault
scene_itself id = when (id == 0) (fault.Kind 0)

abbrev pub child_count : Nodes → ℕ → ℕ
child_count nodes id = length (children_of (node_at nodes) id)

-- a place past the end of the parent's children
abbrev pub far_place : Nodes → ℕ → ℕ → Option Fault
far_place nodes parent place = when (nat_lt (child_count nodes parent) place) (fault.Place place)

abbrev pub is_child : Nodes → ℕ → ℕ → Bool
is_child nodes parent child = list_any (λ c. c == child) (children_of (node_at nodes) parent)

abbrev pub no_child : Nodes → ℕ → ℕ → Option Fault
no_child nodes parent child = when (not (is_child nodes parent child)) (fault.NotChild parent child)

-- a link that would put the parent below itself
abbrev pub cycle : Nodes → ℕ → ℕ → Option Fault
cycle nodes parent child = when (child == parent || is_below (node_at nodes) child parent) (fault.Cycle parent child)

-- a parent with 256 children
abbrev pub full : Nodes → ℕ → Option Fault
full nodes parent = when (nat_le 256 (child_count nodes parent)) (fault.Many 257)

-- a node that some node has as a child
abbrev pub in_use : Nodes → ℕ → Option Fault
in_use nodes id = when (list_any (λ e. list_any (λ c. c == id) e.1.children) nodes) (fault.InUse id)

-- the greatest height of all nodes
abbrev pub greatest_height : Nodes → ℕ
greatest_height nodes = greatest (map (λ e. height_of (node_at nodes) e.0) nodes)

-- a chain of more than 32 nodes
abbrev pub deep : Nodes → Option Fault
deep nodes = when (nat_lt 32 (greatest_height nodes)) (fault.Deep (greatest_height nodes))

-- an unfolded size above 131,072
abbrev pub large : Nodes → Option Fault
large nodes = when (list_any (λ e. nat_lt 131072 (size_of (node_at nodes) e.0)) nodes) fault.Large

-- The rules of each edit, in the order in which they are tested

abbrev pub make_rules : Nodes → ℕ → List (Option Fault)
make_rules g id = when (is_some (node_at g id)) (fault.Taken id) ∷ when (nat_lt 4096 (length g)) (fault.Many 4097) ∷ []

-- of the two ends of a new link
abbrev pub link_rules : Nodes → ℕ → ℕ → List (Option Fault)
link_rules g parent child = absent g parent ∷ absent g child ∷ geode_parent g parent ∷ scene_itself child ∷ []

-- of one more child
abbrev pub room_rules : Nodes → ℕ → ℕ → List (Option Fault)
room_rules g parent child = cycle g parent child ∷ full g parent ∷ []

abbrev pub add_rules : Nodes → ℕ → ℕ → List (Option Fault)
add_rules g parent child = link_rules g parent child ++ room_rules g parent child

abbrev pub insert_rules : Nodes → ℕ → ℕ → ℕ → List (Option Fault)
insert_rules g parent place child = link_rules g parent child ++ far_place g parent place ∷ room_rules g parent child

-- of the ends of a link and of the node that takes the child's place
abbrev pub swap_rules : Nodes → ℕ → ℕ → ℕ → List (Option Fault)
swap_rules g parent child by =
    absent g parent ∷ absent g child ∷ absent g by
    ∷ geode_parent g parent ∷ scene_itself by ∷ no_child g parent child ∷ []

abbrev pub replace_rules : Nodes → ℕ → ℕ → ℕ → List (Option Fault)
replace_rules g parent child by = swap_rules g parent child by ++ cycle g parent by ∷ []

abbrev pub remove_rules : Nodes → ℕ → ℕ → List (Option Fault)
remove_rules g parent child =
    absent g parent ∷ absent g child ∷ geode_parent g parent ∷ no_child g parent child ∷ []

abbrev pub delete_rules : Nodes → ℕ → List (Option Fault)
delete_rules g id = absent g id ∷ scene_itself id ∷ in_use g id ∷ []

-- of the nodes after a link
abbrev pub size_rules : Nodes → List (Option Fault)
size_rules g = deep g ∷ large g ∷ []

-- of an edit of a node of some kind, from what is found under its id
abbrev pub node_rules : (Kind → Bool) → ℕ → Option Node → List (Option Fault)
node_rules test id found = missing id found ∷ when (not (has_kind test found)) (fault.Kind id) ∷ []

-- a place past the end of a node's entries, or above the last one allowed
abbrev pub past : (Kind → Option (List ℕ)) → Option Node → ℕ → ℕ → Option Fault
past entries found last place =
    when (has_kind (λ k. option_map_or (λ xs. nat_lt (length xs) place) (entries k) false) found || nat_lt last place)
    (fault.Place place)

-- another number of triangles than the geode has
abbrev pub other_count : Option Node → ℕ → Option Fault
other_count found n =
    when (not (has_kind (λ k. option_map_or (λ ts. length ts == n) (geom_of k) false) found)) (fault.Many n)

-- of an edit that changes the kind of its node alone, from what is found under its id; other edits have none here
abbrev pub attribute_rules : Edit → Option Node → List (Option Fault)
attribute_rules (edit.Make id kind) found = []
attribute_rules (edit.Add parent child) found = []
attribute_rules (edit.Insert parent place child) found = []
attribute_rules (edit.Replace parent child by) found = []
attribute_rules (edit.Remove parent child) found = []
attribute_rules (edit.Delete id) found = []
attribute_rules (edit.Pick id p) found = node_rules is_switch id found
attribute_rules (edit.Mat id mat) found = node_rules is_dcs id found
attribute_rules (edit.Trans id t) found = node_rules is_dcs id found
attribute_rules (edit.Rot id h p r) found = node_rules is_dcs id found
attribute_rules (edit.Scale id s) found = node_rules is_dcs id found
attribute_rules (edit.Range id place value) found = node_rules is_lod id found ++ past ranges_of found 256 place ∷ []
attribute_rules (edit.Centre id at) found = node_rules is_lod id found
attribute_rules (edit.Times id place frames) found = node_rules is_sequence id found ++ past times_of found 255 place ∷ []
attribute_rules (edit.Run id) found = node_rules is_sequence id found
attribute_rules (edit.Stop id) found = node_rules is_sequence id found
attribute_rules (edit.Verts id geom) found = node_rules is_geode id found ++ other_count found (length geom) ∷ []

-- the rules of an edit
abbrev pub rules : SceneGraph → Edit → List (Option Fault)
rules g (edit.Make id kind) = make_rules g.nodes id
rules g (edit.Add parent child) = add_rules g.nodes parent child ++ size_rules (effect g (edit.Add parent child)).nodes
rules g (edit.Insert parent place child) =
    insert_rules g.nodes parent place child ++ size_rules (effect g (edit.Insert parent place child)).nodes
rules g (edit.Replace parent child by) =
    replace_rules g.nodes parent child by ++ size_rules (effect g (edit.Replace parent child by)).nodes
rules g (edit.Remove parent child) = remove_rules g.nodes parent child
rules g (edit.Delete id) = delete_rules g.nodes id
rules g e = attribute_rules e (node_at g.nodes (named_by e))

-- the fault of an edit: the first of its rules that is met
abbrev pub fault_of : SceneGraph → Edit → Option Fault
fault_of g e = first (rules g e)

-- the graph after an edit: unchanged where it has a fault
abbrev pub after : SceneGraph → Edit → SceneGraph
after g e = if is_some (fault_of g e) then g else effect g e

-- What a refusal tells of the fault that is met: it is this one, or there was no memory
abbrev pub Refuses : EditError → Option Fault → Type 0
Refuses (error.Fault f) met = met ≡ Some f
Refuses error.NoMemory met = ⊤
