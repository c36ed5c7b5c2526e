-- What an edit names, copies that are kept by update lists, and the graves of deleted nodes.
use Rattle.std.specs.Prelude.{ℕ, Bool, not, ◌==◌, nat_lt, nat_le, if◌then◌else◌, List, [], ◌∷◌, map, Option, Some, None}
use Rattle.std.specs.List.{fold, filter}
use Rattle.pf_model.specs.declared.nodes.Node.{Node}
use Rattle.pf_model.specs.declared.nodes.Gone.{Gone}
use Rattle.pf_model.specs.declared.edits.Edit.{Edit}
use Rattle.pf_model.specs.declared.edits.Edit.TheVariants as edit
use Rattle.pf_model.specs.Graphs.{Look, Nodes, put, without, empty_scene}

-- the node that an edit names: its parent where it has one, else its id
abbrev pub named_by : Edit → ℕ
named_by (edit.Make id kind) = id
named_by (edit.Add parent child) = parent
named_by (edit.Insert parent place child) = parent
named_by (edit.Replace parent child by) = parent
named_by (edit.Remove parent child) = parent
named_by (edit.Delete id) = id
named_by (edit.Pick id pick) = id
named_by (edit.Mat id mat) = id
named_by (edit.Trans id t) = id
named_by (edit.Rot id h p r) = id
named_by (edit.Scale id s) = id
named_by (edit.Range id place value) = id
named_by (edit.Centre id at) = id
named_by (edit.Times id place frames) = id
named_by (edit.Run id) = id
named_by (edit.Stop id) = id
named_by (edit.Verts id geom) = id

-- An update list: ids, each with its node or none.
abbrev pub UpdateList : Type 0
UpdateList = List (ℕ × Option Node)

-- a number put into a rising list, once
abbrev pub put_in : ℕ → List ℕ → List ℕ
put_in x [] = x ∷ []
put_in x (y ∷ ys) = if nat_lt x y then x ∷ y ∷ ys else (if y == x then y ∷ ys else y ∷ put_in x ys)

-- numbers put into a rising list
abbrev pub put_all : List ℕ → List ℕ → List ℕ
put_all xs ys = fold (λ ys x. put_in x ys) ys xs

-- the update list of these ids: each with its node, or none
abbrev pub updates_of : Look → List ℕ → UpdateList
updates_of look ids = map (λ id. (id, look id)) ids

-- the node of an id set, or cleared
abbrev pub updated : Nodes → ℕ × Option Node → Nodes
updated nodes (id, None) = without id nodes
updated nodes (id, Some n) = put id n nodes

-- the nodes after an update list
abbrev pub updated_by : Nodes → UpdateList → Nodes
updated_by nodes us = fold updated nodes us

-- the copy that update lists keep, from the empty scene on
abbrev pub copy_of : List UpdateList → Nodes
copy_of lists = fold updated_by empty_scene.nodes lists

-- A grave: the serial of a deleted node, and the last frame that may name it.
pub record GraveState : Type 0 where
  pub serial : ℕ
  pub last : ℕ

-- the grave of a deleted node: the last frame that may name it is the last one begun, and 0 where the node was made
-- after that
abbrev pub grave_of : ℕ → Gone → GraveState
grave_of frames g = record { serial = g.serial; last = if nat_le g.born frames then frames else 0 }

abbrev pub is_due : ℕ → GraveState → Bool
is_due r g = nat_le g.last r

-- the serials that are freed once r frames are retired, in the order of burial
abbrev pub freed_by : ℕ → List GraveState → List ℕ
freed_by r graves = map (λ g. g.serial) (filter (is_due r) graves)

-- the graves that stay once r frames are retired
abbrev pub graves_kept : ℕ → List GraveState → List GraveState
graves_kept r graves = filter (λ g. not (is_due r g)) graves
