-- What an edit makes of the node that it names.
use Rattle.std.specs.Prelude.{ℕ, Bool, true, false, List, [], ◌∷◌, ◌++◌, length}
use Rattle.std.specs.List.{insert}
use Rattle.pf_model.specs.declared.nodes.Kind.{Kind}
use Rattle.pf_model.specs.declared.nodes.Node.{Node}
use Rattle.pf_model.specs.declared.edits.Edit.{Edit}
use Rattle.pf_model.specs.declared.edits.Edit.TheVariants as edit
use Rattle.pf_model.specs.declared.poses.Pose.TheVariants as pose
use Rattle.pf_model.specs.Children.{replace_first, drop_first}
use Rattle.pf_model.specs.Kinds.{with_pick, with_pose, moved_to, turned_to, scaled_to, with_range, with_centre, with_time, run_from, stopped, with_geom}

-- a node with these children
abbrev pub with_children : List ℕ → Node → Node
with_children cs n = record n { children = cs }

-- a node of this kind
abbrev pub with_kind : Kind → Node → Node
with_kind k n = record n { kind = k }

-- what an edit makes at a time of the node that it names; a Make and a Delete change no node
abbrev pub node_after : ℕ → Edit → Node → Node
node_after time (edit.Make id kind) n = n
node_after time (edit.Add parent child) n = with_children (n.children ++ child ∷ []) n
node_after time (edit.Insert parent place child) n = with_children (insert n.children place child) n
node_after time (edit.Replace parent child by) n = with_children (replace_first child by n.children) n
node_after time (edit.Remove parent child) n = with_children (drop_first child n.children) n
node_after time (edit.Delete id) n = n
node_after time (edit.Pick id p) n = with_kind (with_pick p n.kind) n
node_after time (edit.Mat id mat) n = with_kind (with_pose (λ _. pose.Matrix mat) n.kind) n
node_after time (edit.Trans id t) n = with_kind (with_pose (moved_to t) n.kind) n
node_after time (edit.Rot id h p r) n = with_kind (with_pose (turned_to h p r) n.kind) n
node_after time (edit.Scale id s) n = with_kind (with_pose (scaled_to s) n.kind) n
node_after time (edit.Range id place value) n = with_kind (with_range place value n.kind) n
node_after time (edit.Centre id at) n = with_kind (with_centre at n.kind) n
node_after time (edit.Times id place frames) n = with_kind (with_time place frames n.kind) n
node_after time (edit.Run id) n = with_kind (run_from time n.kind) n
node_after time (edit.Stop id) n = with_kind (stopped time (length n.children) n.kind) n
node_after time (edit.Verts id geom) n = with_kind (with_geom geom n.kind) n

-- the kind of that node
abbrev pub kind_after : ℕ → Edit → Node → Kind
kind_after time e n = (node_after time e n).kind

-- whether an edit changes the kind of its node alone
abbrev pub is_attribute : Edit → Bool
is_attribute (edit.Make id kind) = false
is_attribute (edit.Add parent child) = false
is_attribute (edit.Insert parent place child) = false
is_attribute (edit.Replace parent child by) = false
is_attribute (edit.Remove parent child) = false
is_attribute (edit.Delete id) = false
is_attribute (edit.Pick id p) = true
is_attribute (edit.Mat id mat) = true
is_attribute (edit.Trans id t) = true
is_attribute (edit.Rot id h p r) = true
is_attribute (edit.Scale id s) = true
is_attribute (edit.Range id place value) = true
is_attribute (edit.Centre id at) = true
is_attribute (edit.Times id place frames) = true
is_attribute (edit.Run id) = true
is_attribute (edit.Stop id) = true
is_attribute (edit.Verts id geom) = true
