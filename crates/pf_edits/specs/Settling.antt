-- Parents noted without a link, and what takes them out.
use Rattle.std.specs.Prelude.{◌≡◌, ℕ, ◌==◌, ◌&&◌, ◌||◌, Bool, true, false, List, [], ◌∷◌, ◌++◌, Option, Some, None}
use Rattle.std.specs.List.{list_any}
use Rattle.pf_model.specs.declared.edits.Edit.{Edit}
use Rattle.pf_model.specs.declared.edits.Edit.TheVariants as edit
use Rattle.pf_model.specs.Graphs.{SceneGraph, node_at}
use Rattle.pf_model.specs.Limits.{has_child}
use Rattle.pf_edits.specs.declared.undo.Undo.{Undo}
use Rattle.pf_edits.specs.declared.work.Work.{Work}
use Rattle.pf_edits.specs.Tables.{Slots}
use Rattle.pf_edits.specs.Ways.{is_in}
use Rattle.pf_edits.specs.Extents.{look_of, parents_of}
use Rattle.pf_edits.specs.Working.{IsWorking}
use Rattle.pf_edits.specs.Undoing.{brings_back, frees, IsUndo}

-- only those who have a node as a child are noted as its parents
abbrev pub IsTight : Slots → Type 0
IsTight slots = (y x : ℕ) → is_in y (parents_of slots x) ≡ true → has_child (look_of slots) y x ≡ true

-- A working graph that has no parent noted without a link.
pub record IsSettled (w : Work) : Type 0 where
  pub working : IsWorking w
  pub tight : IsTight w.records.slots

-- The links of edits, each from a parent to a child

-- the link that an edit asks for
abbrev pub asked_link : Edit → Option (ℕ × ℕ)
asked_link (edit.Add parent child) = Some (parent, child)
asked_link (edit.Insert parent place child) = Some (parent, child)
asked_link (edit.Replace parent child by) = Some (parent, by)
asked_link e = None

-- the link that an edit takes away
abbrev pub lost_link : Edit → Option (ℕ × ℕ)
lost_link (edit.Replace parent child by) = Some (parent, child)
lost_link (edit.Remove parent child) = Some (parent, child)
lost_link e = None

abbrev pub is_link : Option (ℕ × ℕ) → ℕ → ℕ → Bool
is_link None y x = false
is_link (Some l) y x = l.0 == y && l.1 == x

-- the links that an edit may have taken away: one of two nodes, and those of a node that it deleted
abbrev pub loses : Edit → Undo → ℕ → ℕ → Bool
loses e u y x = is_link (lost_link e) y x || frees u.id u.older y x

-- the links that some of these edits ask for
abbrev pub any_asks : List Edit → ℕ → ℕ → Bool
any_asks es y x = list_any (λ e. is_link (asked_link e) y x) es

-- the links that some of these edits take away
abbrev pub any_takes : List Edit → ℕ → ℕ → Bool
any_takes es y x = list_any (λ e. is_link (lost_link e) y x) es

-- the links that went with the nodes that were deleted
abbrev pub any_frees : List Undo → ℕ → ℕ → Bool
any_frees us y x = list_any (λ u. frees u.id u.older y x) us

-- the links that some of these edits may have taken away
abbrev pub any_loses : List Edit → List Undo → ℕ → ℕ → Bool
any_loses es us y x = any_takes es y x || any_frees us y x

-- the parents that are noted again once these edits are undone
abbrev pub any_brings : List Undo → ℕ → ℕ → Bool
any_brings us y x = list_any (λ u. brings_back u.id u.older y x) us

-- Parents noted without a link

-- but for these pairs only those who have a node as a child are noted as its parents
abbrev pub IsTightBut : Slots → (ℕ → ℕ → Bool) → Type 0
IsTightBut slots pairs = (y x : ℕ) → is_in y (parents_of slots x) ≡ true → (has_child (look_of slots) y x || pairs y x) ≡ true

-- of these pairs none is noted without a link
abbrev pub AreSettled : Slots → (ℕ → ℕ → Bool) → Type 0
AreSettled slots pairs = (y x : ℕ) → pairs y x ≡ true → has_child (look_of slots) y x ≡ false → is_in y (parents_of slots x) ≡ false

-- a parent that is noted was noted before, but for a link
abbrev pub Grows : Option (ℕ × ℕ) → Slots → Slots → Type 0
Grows link old new = (b p : ℕ) → is_in p (parents_of new b) ≡ true → (is_in p (parents_of old b) || is_link link p b) ≡ true

-- One more edit was made and is noted by what undoes it.
pub record IsNoted (old new : Work) (before after : List Undo) : Type 0 where
  pub undo : Undo
  pub is_undo : IsUndo undo old new
  pub last : after ≡ before ++ undo ∷ []

-- parents that are noted, or are again once these edits are undone, are links of this graph or asked for by these edits
abbrev pub ComeFrom : SceneGraph → List Edit → Slots → List Undo → Type 0
ComeFrom g es slots us =
    (y x : ℕ) → (is_in y (parents_of slots x) || any_brings us y x) ≡ true → (has_child (node_at g.nodes) y x || any_asks es y x) ≡ true
