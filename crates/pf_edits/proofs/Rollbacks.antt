-- What undoing an edit needs, and merges edit by edit.
use Rattle.std.proofs.Common.{◌≡◌, ℕ, zero, suc, ◌+◌, ◌<◌, ◌≤◌, Bool, true, false, cond, ◌||◌, ◌&&◌, ◌==◌, nat_lt, List, [], ◌∷◌, ◌++◌, length, get_or, reverse, Option, Some, None, is_some, refl, sym, ◌∙◌, ap, subst, arith}
use Rattle.std.specs.List.{list_all, count_by}
use Rattle.std.specs.Option.{option_map, option_map_or}
use Rattle.std.proofs.lemmas.Bool.{eqb-true, eq-eqb}
use Rattle.std.proofs.lemmas.List.{reverse-append}
use Rattle.pf_model.specs.declared.nodes.Node.{Node}
use Rattle.pf_model.specs.declared.edits.Edit.{Edit}
use Rattle.pf_model.specs.declared.edits.Edit.TheVariants as edit
use Rattle.pf_model.specs.declared.edits.Fault.{Fault}
use Rattle.pf_model.specs.Graphs.{Look, Nodes, SceneGraph, node_at, children_of, change, put, without, is_below}
use Rattle.pf_model.specs.Limits.{is_there, has_child, KeepsLimits, IsGraphWithinLimits}
use Rattle.pf_model.specs.NodeEdits.{with_children}
use Rattle.pf_model.specs.Edits.{fault_of, effect}
use Rattle.pf_model.specs.Merges.{fault_from}
use Rattle.pf_model.specs.Laws.{AreLow, AgreeBut}
use Rattle.pf_model.proofs.Places.{absent_head}
use Rattle.pf_model.proofs.Finds.{node_at_change, node_at_without}
use Rattle.pf_model.proofs.Named.{node_at_put_any}
use Rattle.pf_model.proofs.Keeping.{all_found_have, length_within}
use Rattle.pf_model.proofs.Apart.{agree_at}
use Rattle.pf_edits.specs.declared.undo.Undo.{Undo}
use Rattle.pf_edits.specs.declared.work.Work.{Work}
use Rattle.pf_edits.specs.Tables.{Slots}
use Rattle.pf_edits.specs.Ways.{is_in}
use Rattle.pf_edits.specs.Extents.{look_of, parents_of}
use Rattle.pf_edits.specs.Listed.{nodes_of}
use Rattle.pf_edits.specs.Working.{told, IsWorking}
use Rattle.pf_edits.specs.Undoing.{graph_before, parents_before, IsUndo, KeepsParents, AllUndoable, before_all}
use Rattle.pf_edits.proofs.Ups.{ahead, not_true, no_true}
use Rattle.pf_edits.proofs.Relinks.{no_cycle, children_changed}
use Rattle.pf_edits.proofs.Listed.{found, looks, rising, count_is}
use Rattle.pf_edits.proofs.Works.{low_of}
use Rattle.pf_edits.proofs.Undoes.{undoable_more}

-- no node is its own child
no_self : (look : Look) → AreLow look → (id : ℕ) → has_child look id id ≡ true → ⊥
no_self look low id h = not_true (ahead (id == id) (is_below look id id) (eq-eqb id id refl)) (no_cycle look low id id h)

-- A node that was made

pub made_unused : (w : Work) → IsWorking w → (id : ℕ) → KeepsLimits (node_at (without id (nodes_of w.records.slots))) → (y : ℕ) → has_child (look_of w.records.slots) y id ≡ false
made_unused w k id keeps y = no_true (has_child (look_of w.records.slots) y id) (λ h. by h (y == id) refl)
  where
    gone : is_there (node_at (without id (nodes_of w.records.slots))) id ≡ false
    gone =
        ap (λ (o : Option Node). is_some o) (node_at_without id (nodes_of w.records.slots) id (rising w.records.slots)
        ∙ ap (λ t. cond t None (node_at (nodes_of w.records.slots) id)) (eq-eqb id id refl))

    by : has_child (look_of w.records.slots) y id ≡ true → (t : Bool) → (y == id) ≡ t → ⊥
    by h true e = no_self (look_of w.records.slots) (low_of w k) id (subst (λ (x : ℕ). has_child (look_of w.records.slots) x id ≡ true) (eqb-true y id e) h)
    by h false e =
        not_true (keeps.linked y id
        (ap (λ (o : Option Node). is_in id (option_map_or (λ n. n.children) o []))
        (node_at_without id (nodes_of w.records.slots) y (rising w.records.slots) ∙ ap (λ t. cond t None (node_at (nodes_of w.records.slots) y)) e ∙ found w.records.slots y) ∙ h)) gone

pub positive_serial : (g : SceneGraph) → IsGraphWithinLimits g → (id : ℕ) → is_some (node_at g.nodes id) ≡ true → 0 < g.next_serial
positive_serial g within id there = by (node_at g.nodes id) refl there
  where
    by : (o : Option Node) → node_at g.nodes id ≡ o → is_some o ≡ true → 0 < g.next_serial
    by None e h = absurd (cc)
    by (Some n) e h = let l : n.serial < g.next_serial = all_found_have (λ x. x.1.serial < g.next_serial) g.nodes within.serials_given id n e in omega arith

-- A node that was deleted

length_put_new : (id : ℕ) (n : Node) (xs : Nodes) → node_at xs id ≡ None → length (put id n xs) ≡ suc (length xs)
length_put_new id n [] none = refl
length_put_new id n (x ∷ xs) none = by (length_put_new id n xs (absent_head id x xs none).1) (nat_lt id x.0)
  where
    by : length (put id n xs) ≡ suc (length xs) → (t : Bool) → length (cond t ((id, n) ∷ x ∷ xs) (cond (x.0 == id) ((id, n) ∷ xs) (x ∷ put id n xs))) ≡ suc (suc (length xs))
    by rest true = refl
    by rest false = ap (λ s. length (cond s ((id, n) ∷ xs) (x ∷ put id n xs))) (absent_head id x xs none).0 ∙ ap suc rest

pub room_for : (slots : Slots) (g : SceneGraph) (id : ℕ) (n : Node) → IsGraphWithinLimits g → g.nodes ≡ put id n (nodes_of slots) → node_at (nodes_of slots) id ≡ None → count_by is_some slots < 4097
room_for slots g id n within is none =
    let l : length g.nodes ≤ 4097 = length_within g within in
    let m : length g.nodes ≡ suc (length (nodes_of slots)) = ap length is ∙ length_put_new id n (nodes_of slots) none in
    let k : length (nodes_of slots) ≡ count_by is_some slots = count_is 0 slots in
    omega arith

pub deleted_apart : (nodes : Nodes) (id : ℕ) (n : Node) → AreLow (node_at (put id n nodes)) → is_in id n.children ≡ false
deleted_apart nodes id n low =
    no_true (is_in id n.children) (λ h. no_self (node_at (put id n nodes)) low id
    (ap (λ (o : Option Node). is_in id (option_map_or (λ m. m.children) o [])) (node_at_put_any n id nodes id ∙ ap (λ t. cond t (Some n) (node_at nodes id)) (eq-eqb id id refl)) ∙ h))

pub absent_record : (slots : Slots) (id : ℕ) → node_at (nodes_of slots) id ≡ None → is_some (look_of slots id) ≡ false
absent_record slots id none = ap (λ (o : Option Node). is_some o) (sym (found slots id) ∙ none)

-- A node whose children were others

either : (p q : Bool) → (p || q) ≡ false → (p ≡ false) × (q ≡ false)
either true q h = absurd (cc)
either false q h = (refl, h)

pub link_apart : (slots : Slots) (id : ℕ) (cs : List ℕ) → is_some (node_at (nodes_of slots) id) ≡ true → AreLow (node_at (change id (with_children cs) (nodes_of slots)))
    → (x : ℕ) → is_in x cs ≡ true → (x == id || is_below (look_of slots) x id) ≡ false
link_apart slots id cs there low x h = subst (λ (f : Look). (x == id || is_below f x id) ≡ false) (looks slots) (now (either (x == id) (is_below (node_at (change id (with_children cs) (nodes_of slots))) x id) (no_cycle (node_at (change id (with_children cs) (nodes_of slots))) low id x child)))
  where
    child : has_child (node_at (change id (with_children cs) (nodes_of slots))) id x ≡ true
    child =
        ap (is_in x) (children_changed (node_at (nodes_of slots)) (node_at (change id (with_children cs) (nodes_of slots))) id cs there (node_at_change (with_children cs) id (nodes_of slots)) id
        ∙ ap (λ t. cond t cs (children_of (node_at (nodes_of slots)) id)) (eq-eqb id id refl)) ∙ h

    others : AgreeBut id (node_at (change id (with_children cs) (nodes_of slots))) (node_at (nodes_of slots))
    others = λ b e. node_at_change (with_children cs) id (nodes_of slots) b ∙ ap (λ t. cond t (option_map (with_children cs) (node_at (nodes_of slots) b)) (node_at (nodes_of slots) b)) e

    now : ((x == id) ≡ false) × (is_below (node_at (change id (with_children cs) (nodes_of slots))) x id ≡ false) → (x == id || is_below (node_at (nodes_of slots)) x id) ≡ false
    now k =
        ap (λ t. t || is_below (node_at (nodes_of slots)) x id) k.0
        ∙ sym ((agree_at (node_at (change id (with_children cs) (nodes_of slots))) (node_at (nodes_of slots)) id others x k.0 k.1).below id) ∙ k.1

pub there_look : (slots : Slots) (id : ℕ) → is_some (node_at (nodes_of slots) id) ≡ true → is_some (look_of slots id) ≡ true
there_look slots id there = ap (λ (o : Option Node). is_some o) (sym (found slots id)) ∙ there

-- One more edit that can be undone

pub one_more : (us : List Undo) (u : Undo) → reverse (us ++ u ∷ []) ≡ u ∷ reverse us
one_more us u = reverse-append us (u ∷ [])

pub undoable_next : (old new : Work) (u : Undo) (us : List Undo) → IsWorking old → IsUndo u old new → AllUndoable (told old) (parents_of old.records.slots) us
    → AllUndoable (told new) (parents_of new.records.slots) (u ∷ us)
undoable_next old new u us working undo h = (
  undo.can,
  subst IsGraphWithinLimits (sym undo.before) working.within,
  subst (λ (g : SceneGraph). AllUndoable g (parents_before u.id u.older (parents_of new.records.slots)) us) (sym undo.before)
      (undoable_more (told old) (parents_of old.records.slots) (parents_before u.id u.older (parents_of new.records.slots)) us undo.parents h),
)

pub undoable_still : (old new : Work) (us : List Undo) → told new ≡ told old → KeepsParents old new → AllUndoable (told old) (parents_of old.records.slots) us
    → AllUndoable (told new) (parents_of new.records.slots) us
undoable_still old new us same kept h =
    subst (λ (g : SceneGraph). AllUndoable g (parents_of new.records.slots) us) (sym same)
    (undoable_more (told old) (parents_of old.records.slots) (parents_of new.records.slots) us kept h)

-- what is left once the last edit is undone
pub undoable_rest : (old new : Work) (u : Undo) (us : List Undo) → told new ≡ graph_before u.id u.older (told old)
    → ((b p : ℕ) → is_in p (parents_before u.id u.older (parents_of old.records.slots) b) ≡ true → is_in p (parents_of new.records.slots b) ≡ true)
    → AllUndoable (told old) (parents_of old.records.slots) (u ∷ us) → AllUndoable (told new) (parents_of new.records.slots) us
undoable_rest old new u us is kept h =
    subst (λ (g : SceneGraph). AllUndoable g (parents_of new.records.slots) us) (sym is)
    (undoable_more (graph_before u.id u.older (told old)) (parents_before u.id u.older (parents_of old.records.slots)) (parents_of new.records.slots) us kept h.2)

pub before_rest : (g h : SceneGraph) (u : Undo) (us : List Undo) → h ≡ graph_before u.id u.older g → before_all h us ≡ before_all g (u ∷ us)
before_rest g h u us is = ap (λ (x : SceneGraph). before_all x us) is

-- Merges edit by edit

pub fault_next : (k : ℕ) (g : SceneGraph) (e : Edit) (es : List Edit) → fault_of g e ≡ None → fault_from k g (e ∷ es) ≡ fault_from (k + 1) (effect g e) es
fault_next k g e es none = ap (λ (o : Option Fault). option_map_or (λ f. Some (k, f)) o (fault_from (k + 1) (effect g e) es)) none

pub fault_here : (k : ℕ) (g : SceneGraph) (e : Edit) (es : List Edit) (f : Fault) → fault_of g e ≡ Some f → fault_from k g (e ∷ es) ≡ Some (k, f)
fault_here k g e es f some = ap (λ (o : Option Fault). option_map_or (λ f. Some (k, f)) o (fault_from (k + 1) (effect g e) es)) some

pub serial_next : (g : SceneGraph) (e : Edit) → (effect g e).next_serial ≤ g.next_serial + 1
serial_next g (edit.Make id kind) = omega arith
serial_next g (edit.Delete id) = omega arith
serial_next g e = omega arith

pub fits_at : (p : Edit → Bool) (es : List Edit) (i : ℕ) (d : Edit) → i < length es → list_all p es ≡ true → p (get_or es i d) ≡ true
fits_at p [] i d l h = absurd (omega arith)
fits_at p (e ∷ es) zero d l h = first (p e) (list_all p es) h
  where
    first : (s t : Bool) → (s && t) ≡ true → s ≡ true
    first true t h = refl
    first false t h = absurd (cc)
fits_at p (e ∷ es) (suc i) d l h = fits_at p es i d (omega arith) (second (p e) (list_all p es) h)
  where
    second : (s t : Bool) → (s && t) ≡ true → t ≡ true
    second true t h = h
    second false t h = absurd (cc)

pub made_parents : (s t : Slots) (id : ℕ) → ((b : ℕ) → (b == id) ≡ false → parents_of t b ≡ parents_of s b) → (b p : ℕ) → is_in p (cond (b == id) [] (parents_of s b)) ≡ true → is_in p (parents_of t b) ≡ true
made_parents s t id others b p h = by (b == id) refl h
  where
    by : (u : Bool) → (b == id) ≡ u → is_in p (cond u [] (parents_of s b)) ≡ true → is_in p (parents_of t b) ≡ true
    by true e k = absurd (cc)
    by false e k = ap (is_in p) (others b e) ∙ k
