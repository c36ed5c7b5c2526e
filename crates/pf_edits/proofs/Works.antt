-- What a working graph tells, before and after an edit.
use Rattle.std.proofs.Common.{◌≡◌, ℕ, ◌≤◌, Bool, true, false, cond, ◌||◌, ◌&&◌, ◌==◌, ◌⊎◌, inl, inr, List, [], Option, Some, None, is_some, Result, Ok, Err, OnErr, refl, sym, ◌∙◌, ap, subst}
use Rattle.std.specs.Option.{option_map, option_map_or}
use Rattle.std.proofs.lemmas.Bool.{eqb-true, eq-eqb}
use Rattle.pf_model.specs.declared.nodes.Node.{Node}
use Rattle.pf_model.specs.declared.nodes.Gone.{Gone}
use Rattle.pf_model.specs.declared.edits.Edit.{Edit}
use Rattle.pf_model.specs.Graphs.{Look, Nodes, SceneGraph, node_at, children_of, height_of, size_of, is_below}
use Rattle.pf_model.specs.Limits.{has_child, KeepsLimits, IsGraphWithinLimits}
use Rattle.pf_model.specs.Edits.{fault_of, effect}
use Rattle.pf_model.specs.Fits.{fits}
use Rattle.pf_model.specs.Laws.{AreLow}
use Rattle.pf_model.proofs.Places.{funext}
use Rattle.pf_model.proofs.EditLimits.{limits_effect}
use Rattle.pf_edits.specs.declared.records.Record.{Record}
use Rattle.pf_edits.specs.declared.work.Work.{Work}
use Rattle.pf_edits.specs.Tables.{Slots, record_at}
use Rattle.pf_edits.specs.Ways.{is_in, LeadUp, IsUpFrom}
use Rattle.pf_edits.specs.Extents.{look_of, parents_of, child_list, IsSound}
use Rattle.pf_edits.specs.Listed.{nodes_of}
use Rattle.pf_edits.specs.Working.{told, IsWorking}
use Rattle.pf_edits.proofs.Ups.{head_or_rest, ahead, not_true, no_true}
use Rattle.pf_edits.proofs.Relinks.{no_cycle, closes}
use Rattle.pf_edits.proofs.Settles.{both}
use Rattle.pf_edits.proofs.Listed.{found, looks}

pub on_err : {A E : Type 0} {P : Type 0} (r : Result A E) → P → OnErr r P
on_err (Ok x) p = tt
on_err (Err e) p = p

pub low_in : (w : Work) → IsGraphWithinLimits (told w) → AreLow (look_of w.records.slots)
low_in w k = λ b. subst (λ (f : Look). height_of f b ≤ 32) (looks w.records.slots) (k.within.limits.low b)

pub small_in : (w : Work) → IsGraphWithinLimits (told w) → (b : ℕ) → size_of (look_of w.records.slots) b ≤ 131072
small_in w k = λ b. subst (λ (f : Look). size_of f b ≤ 131072) (looks w.records.slots) (k.within.limits.small b)

pub low_of : (w : Work) → IsWorking w → AreLow (look_of w.records.slots)
low_of w k = low_in w k.within

pub small_of : (w : Work) → IsWorking w → (b : ℕ) → size_of (look_of w.records.slots) b ≤ 131072
small_of w k = small_in w k.within

-- what is on a way up from a node: the node and those above it
pub way_up : (look : Look) (start way : List ℕ) (id : ℕ) → start ≡ [] → LeadUp look way → is_in id way ≡ true
    → ((b : ℕ) → is_in b way ≡ true → (is_in b start || (b == id || is_below look b id)) ≡ true) → IsUpFrom look way id
way_up look start way id none leads on above =
    closes look way id leads on (λ b h. subst (λ (xs : List ℕ). (is_in b xs || (b == id || is_below look b id)) ≡ true) none (above b h))

-- a child on the way up from its parent closes a cycle
pub told_cycle : (s : Slots) (way : List ℕ) (p c : ℕ) → IsUpFrom (look_of s) way p → is_in c way ≡ (c == p || is_below (node_at (nodes_of s)) c p)
told_cycle s way p c up = up c ∙ ap (λ (f : Look). c == p || is_below f c p) (sym (looks s))

pub keeps_of : (w : Work) → IsWorking w → KeepsLimits (look_of w.records.slots)
keeps_of w k = subst KeepsLimits (looks w.records.slots) k.within.within.limits

-- graphs that differ in their nodes alone
pub told_nodes : (time serial : ℕ) (gone : List Gone) (ns ms : Nodes) → ns ≡ ms
    → (let g : SceneGraph = record { nodes = ns; time = time; next_serial = serial; gone = gone } in let h : SceneGraph = record { nodes = ms; time = time; next_serial = serial; gone = gone } in g ≡ h)
told_nodes time serial gone ns ms same = ap (λ (xs : Nodes). let g : SceneGraph = record { nodes = xs; time = time; next_serial = serial; gone = gone } in g) same

-- an id without a node is no node's child
pub unused_of : (look : Look) → KeepsLimits look → (id : ℕ) → is_some (look id) ≡ false → (y : ℕ) → has_child look y id ≡ false
unused_of look keeps id none y = no_true (has_child look y id) (λ h. not_true (keeps.linked y id h) none)

pub no_record_of : (slots : Slots) (id : ℕ) → is_some (look_of slots id) ≡ false → record_at slots id ≡ None
no_record_of slots id none = by (record_at slots id) refl none
  where
    by : (o : Option Record) → record_at slots id ≡ o → is_some (option_map (λ (r : Record). r.node) o) ≡ false → o ≡ None
    by None e h = refl
    by (Some r) e h = absurd (cc)

pub within_after : (g h : SceneGraph) (e : Edit) → IsGraphWithinLimits g → fits e ≡ true → None ≡ fault_of g e → h ≡ effect g e → IsGraphWithinLimits h
within_after g h e within fit none is = subst IsGraphWithinLimits (sym is) (limits_effect g e within fit none)

-- The new children of a parent

-- each has the parent noted
pub all_noted : (s t : Slots) (parent child : ℕ) (cs : List ℕ) → IsSound s → ((x : ℕ) → is_in x cs ≡ true → (is_in x (children_of (node_at (nodes_of s)) parent) || child == x) ≡ true)
    → ((b p : ℕ) → is_in p (parents_of s b) ≡ true → is_in p (parents_of t b) ≡ true) → is_in parent (parents_of t child) ≡ true
    → (x : ℕ) → is_in x cs ≡ true → is_in parent (parents_of t x) ≡ true
all_noted s t parent child cs sound members kept noted x h = by (head_or_rest (is_in x (children_of (node_at (nodes_of s)) parent)) (child == x) (members x h))
  where
    by : (is_in x (children_of (node_at (nodes_of s)) parent) ≡ true) ⊎ ((child == x) ≡ true) → is_in parent (parents_of t x) ≡ true
    by (inl k) = kept x parent (sound.noted parent x (subst (λ (f : Look). is_in x (children_of f parent) ≡ true) (looks s) k))
    by (inr e) = subst (λ (y : ℕ). is_in parent (parents_of t y) ≡ true) (eqb-true child x e) noted

-- none is the parent or above it
pub none_above_parent : (s t : Slots) (parent child : ℕ) (cs : List ℕ) → AreLow (look_of s) → ((b : ℕ) → look_of t b ≡ look_of s b)
    → ((x : ℕ) → is_in x cs ≡ true → (is_in x (children_of (node_at (nodes_of s)) parent) || child == x) ≡ true)
    → (child == parent || is_below (node_at (nodes_of s)) child parent) ≡ false
    → (x : ℕ) → is_in x cs ≡ true → (x == parent || is_below (look_of t) x parent) ≡ false
none_above_parent s t parent child cs low same members apart x h =
    ap (λ (f : Look). x == parent || is_below f x parent) (funext (look_of t) (look_of s) same)
    ∙ by (head_or_rest (is_in x (children_of (node_at (nodes_of s)) parent)) (child == x) (members x h))
  where
    by : (is_in x (children_of (node_at (nodes_of s)) parent) ≡ true) ⊎ ((child == x) ≡ true) → (x == parent || is_below (look_of s) x parent) ≡ false
    by (inl k) = no_cycle (look_of s) low parent x (subst (λ (f : Look). is_in x (children_of f parent) ≡ true) (looks s) k)
    by (inr e) =
        subst (λ (y : ℕ). (y == parent || is_below (look_of s) y parent) ≡ false) (eqb-true child x e)
        (subst (λ (f : Look). (child == parent || is_below f child parent) ≡ false) (looks s) apart)

-- For what undoes an edit

children_are : (o : Option Node) (ds : List ℕ) → option_map child_list o ≡ Some ds → option_map_or (λ (n : Node). n.children) o [] ≡ ds
children_are None ds e = absurd (cc)
children_are (Some n) ds e = cc

-- the children of a node have it noted
pub old_noted : (s : Slots) → IsSound s → (id : ℕ) (ds : List ℕ) → option_map child_list (look_of s id) ≡ Some ds → (x : ℕ) → is_in x ds ≡ true → is_in id (parents_of s x) ≡ true
old_noted s sound id ds back x h = sound.noted id x (ap (is_in x) (children_are (look_of s id) ds back) ∙ h)

-- a node that is there is there after a change
pub there_after : (s t : Slots) (id : ℕ) (f : Node → Node) → ((b : ℕ) → look_of t b ≡ cond (b == id) (option_map f (look_of s b)) (look_of s b)) → is_some (look_of s id) ≡ true → is_some (node_at (nodes_of t) id) ≡ true
there_after s t id f set there =
    ap (λ (o : Option Node). is_some o) (found t id ∙ set id ∙ ap (λ u. cond u (option_map f (look_of s id)) (look_of s id)) (eq-eqb id id refl)) ∙ by (look_of s id) there
  where
    by : (o : Option Node) → is_some o ≡ true → is_some (option_map f o) ≡ true
    by None h = absurd (cc)
    by (Some n) h = refl

pub made_there : (s t : Slots) (id : ℕ) (o : Option Node) → ((b : ℕ) → look_of t b ≡ cond (b == id) o (look_of s b)) → node_at (nodes_of t) id ≡ o
made_there s t id o set = found t id ∙ set id ∙ ap (λ u. cond u o (look_of s id)) (eq-eqb id id refl)

-- an id without a record has no parents noted
pub no_parents : (s : Slots) (id : ℕ) → record_at s id ≡ None → (p : ℕ) → is_in p (parents_of s id) ≡ true → ⊥
no_parents s id none p h = let e : is_in p [] ≡ true = sym (ap (λ (o : Option Record). is_in p (option_map_or (λ r. r.parents) o [])) none) ∙ h in cc

pub fresh_parents : (s t : Slots) (id : ℕ) (ps : List ℕ) → record_at s id ≡ None → ((b : ℕ) → parents_of t b ≡ cond (b == id) ps (parents_of s b))
    → (b p : ℕ) → is_in p (parents_of s b) ≡ true → is_in p (cond (b == id) [] (parents_of t b)) ≡ true
fresh_parents s t id ps none set b p h = by (b == id) refl
  where
    by : (u : Bool) → (b == id) ≡ u → is_in p (cond u [] (parents_of t b)) ≡ true
    by true e = absurd (no_parents s id none p (subst (λ (x : ℕ). is_in p (parents_of s x) ≡ true) (eqb-true b id e) h))
    by false e = ap (is_in p) (set b ∙ ap (λ u. cond u ps (parents_of s b)) e) ∙ h

-- a node taken out: its record tells its parents, and the others stay
pub taken_parents : (s t : Slots) (id : ℕ) (r : Record) → record_at s id ≡ Some r → ((b : ℕ) → (b == id) ≡ false → parents_of t b ≡ parents_of s b)
    → (b p : ℕ) → is_in p (parents_of s b) ≡ true → is_in p (cond (b == id) r.parents (parents_of t b)) ≡ true
taken_parents s t id r some others b p h = by (b == id) refl
  where
    by : (u : Bool) → (b == id) ≡ u → is_in p (cond u r.parents (parents_of t b)) ≡ true
    by true e = sym (ap (λ (o : Option Record). is_in p (option_map_or (λ r. r.parents) o [])) (ap (record_at s) (eqb-true b id e) ∙ some)) ∙ h
    by false e = ap (is_in p) (others b e) ∙ h

-- the children of a node taken out have it noted still
pub taken_noted : (s t : Slots) → IsSound s → AreLow (look_of s) → (id : ℕ) (r : Record) → record_at s id ≡ Some r → ((b : ℕ) → (b == id) ≡ false → parents_of t b ≡ parents_of s b)
    → (x : ℕ) → is_in x r.node.children ≡ true → is_in id (parents_of t x) ≡ true
taken_noted s t sound low id r some others x h = ap (is_in id) (others x away) ∙ sound.noted id x is
  where
    is : has_child (look_of s) id x ≡ true
    is = ap (λ (o : Option Record). is_in x (option_map_or (λ (n : Node). n.children) (option_map (λ r. r.node) o) [])) some ∙ h

    away : (x == id) ≡ false
    away = no_true (x == id) (λ e. not_true (ahead (x == id) (is_below (look_of s) x id) e) (no_cycle (look_of s) low id x is))

-- Nodes that are gone, and what is noted again

parent_there : (look : Look) (y x : ℕ) → has_child look y x ≡ true → is_some (look y) ≡ true
parent_there look y x h = by (look y) h
  where
    by : (o : Option Node) → is_in x (option_map_or (λ (n : Node). n.children) o []) ≡ true → is_some o ≡ true
    by None k = absurd (cc)
    by (Some n) k = refl

-- no node is gone
pub none_gone : (s t : Slots) → ((y : ℕ) → is_some (look_of s y) ≡ true → is_some (look_of t y) ≡ true)
    → (y x : ℕ) → has_child (node_at (nodes_of s)) y x ≡ true → is_some (node_at (nodes_of t) y) ≡ false → false ≡ true
none_gone s t still y x h gone =
    absurd (not_true (still y (ap (λ (o : Option Node). is_some o) (sym (found s y)) ∙ parent_there (node_at (nodes_of s)) y x h)) (ap (λ (o : Option Node). is_some o) (sym (found t y)) ∙ gone))

pub put_stays : (s t : Slots) (id : ℕ) (n : Node) → ((b : ℕ) → look_of t b ≡ cond (b == id) (Some n) (look_of s b)) → (y : ℕ) → is_some (look_of s y) ≡ true → is_some (look_of t y) ≡ true
put_stays s t id n set y there = ap (λ (o : Option Node). is_some o) (set y) ∙ by (y == id)
  where
    by : (u : Bool) → is_some (cond u (Some n) (look_of s y)) ≡ true
    by true = refl
    by false = there

pub changed_stays : (s t : Slots) (id : ℕ) (f : Node → Node) → ((b : ℕ) → look_of t b ≡ cond (b == id) (option_map f (look_of s b)) (look_of s b))
    → (y : ℕ) → is_some (look_of s y) ≡ true → is_some (look_of t y) ≡ true
changed_stays s t id f set y there = ap (λ (o : Option Node). is_some o) (set y) ∙ by (y == id) (look_of s y) there
  where
    by : (u : Bool) (o : Option Node) → is_some o ≡ true → is_some (cond u (option_map f o) o) ≡ true
    by u None k = absurd (cc)
    by true (Some n) k = refl
    by false (Some n) k = refl

-- a deleted node's record has the parents that were noted
pub deleted_back : (s : Slots) (id : ℕ) (r : Record) → record_at s id ≡ Some r → (y x : ℕ) → (id == x && is_in y r.parents) ≡ true → is_in y (parents_of s x) ≡ true
deleted_back s id r some y x h = by (both (id == x) (is_in y r.parents) h)
  where
    by : ((id == x) ≡ true) × (is_in y r.parents ≡ true) → is_in y (parents_of s x) ≡ true
    by k =
        subst (λ (z : ℕ). is_in y (parents_of s z) ≡ true) (eqb-true id x k.0)
        (ap (λ (o : Option Record). is_in y (option_map_or (λ r. r.parents) o [])) some ∙ k.1)

-- and its children
pub deleted_freed : (s t : Slots) (id : ℕ) (r : Record) → record_at s id ≡ Some r → ((b : ℕ) → look_of t b ≡ cond (b == id) None (look_of s b))
    → (y x : ℕ) → has_child (node_at (nodes_of s)) y x ≡ true → is_some (node_at (nodes_of t) y) ≡ false → (id == y && is_in x r.node.children) ≡ true
deleted_freed s t id r some set y x h gone = by (y == id) refl
  where
    link : has_child (look_of s) y x ≡ true
    link = ap (λ (f : Look). has_child f y x) (sym (looks s)) ∙ h

    by : (u : Bool) → (y == id) ≡ u → (id == y && is_in x r.node.children) ≡ true
    by true e =
        ap (λ v. v && is_in x r.node.children) (eq-eqb id y (sym (eqb-true y id e)))
        ∙ sym (ap (λ (o : Option Record). is_in x (option_map_or (λ (n : Node). n.children) (option_map (λ r. r.node) o) [])) some)
        ∙ subst (λ (z : ℕ). has_child (look_of s) z x ≡ true) (eqb-true y id e) link
    by false e =
        absurd (not_true (ap (λ (o : Option Node). is_some o) (found t y ∙ set y ∙ ap (λ u. cond u None (look_of s y)) e) ∙ parent_there (look_of s) y x link) gone)
