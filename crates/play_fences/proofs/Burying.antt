-- A node is buried at most once: each serial is given once, and stands in one place.
use Rattle.std.proofs.Common.{◌≡◌, ℕ, ◌+◌, ◌≤◌, nat_le, nat_lt, Bool, true, false, cond, ◌==◌, List, [], ◌∷◌, ◌++◌, map, is_some, Some, refl, ap, ◌∙◌, arith}
use Rattle.std.proofs.lemmas.List.{map-append}
use Rattle.std.proofs.lemmas.Bool.{leb-true, leb-false, eqb-true}
use Rattle.std.specs.List.{fold}
use Rattle.pf_model.specs.declared.nodes.Node.{Node}
use Rattle.pf_model.specs.declared.nodes.Gone.{Gone}
use Rattle.pf_model.specs.declared.edits.Edit.{Edit}
use Rattle.pf_model.specs.Graphs.{SceneGraph, Nodes, node_at, change, put, without}
use Rattle.pf_model.specs.Edits.{fault_of, effect, remains}
use Rattle.pf_model.specs.NodeEdits.{node_after}
use Rattle.pf_model.specs.Laws.{KeepsBirth, IsEdited, Makes, Deletes, Changes}
use Rattle.pf_model.specs.Merges.{merge_fault}
use Rattle.pf_model.specs.Copies.{named_by, grave_of}
use Rattle.pf_model.proofs.Places.{node_at_step}
use Rattle.pf_model.proofs.Editing.{effect_edited}
use Rattle.pf_history.specs.declared.commands.Command.{Command}
use Rattle.pf_history.specs.declared.commands.Command.TheVariants as command
use Rattle.pf_history.specs.Objects.{FrameState, opening_state, next_state}
use Rattle.pf_history.proofs.Freeing.{tags, times, graves_of}
use Rattle.pf_history.proofs.Counting.{one, one_most}
use Rattle.play_fences.specs.Laws.{FreedOnceLaw}
use Rattle.play_fences.proofs.Settling.{settled}
use Rattle.play_fences.proofs.Bare.{commands_of, unsynced}
use Rattle.play_fences.proofs.Freed.{graves_append, buried_along, freed_total}

-- how often a graph has a serial, or is still to give it
abbrev has_or_gives : ℕ → SceneGraph → ℕ
has_or_gives x g = times x (tags g.nodes) + one (nat_le g.next_serial x)

-- how often a serial is among the nodes that were deleted and not yet buried
abbrev gone_in : ℕ → ℕ → SceneGraph → ℕ
gone_in x frames g = graves_of x (map (grave_of frames) g.gone)

-- Nodes changed, put and taken out

change_times : (x id : ℕ) (f : Node → Node) (nodes : Nodes) → KeepsBirth f → times x (tags (change id f nodes)) ≡ times x (tags nodes)
change_times x id f [] keeps = refl
change_times x id f (e ∷ es) keeps = by (e.0 == id) (change_times x id f es keeps)
  where
    by : (t : Bool) → times x (tags (change id f es)) ≡ times x (tags es) → times x (tags (cond t ((e.0, f e.1) ∷ es) (e ∷ change id f es))) ≡ one (e.1.serial == x) + times x (tags es)
    by true rest = ap (λ (n : ℕ). one (n == x) + times x (tags es)) (keeps e.1).0
    by false rest = omega (arith, rest)

put_times : (x id : ℕ) (n : Node) (nodes : Nodes) → times x (tags (put id n nodes)) ≤ one (n.serial == x) + times x (tags nodes)
put_times x id n [] = omega arith
put_times x id n (e ∷ es) = by (nat_lt id e.0) (e.0 == id) (put_times x id n es)
  where
    by : (t u : Bool) → times x (tags (put id n es)) ≤ one (n.serial == x) + times x (tags es) →
        times x (tags (cond t ((id, n) ∷ e ∷ es) (cond u ((id, n) ∷ es) (e ∷ put id n es)))) ≤ one (n.serial == x) + (one (e.1.serial == x) + times x (tags es))
    by true u rest = omega arith
    by false true rest = omega arith
    by false false rest = omega (arith, rest)

without_times : (x frames id : ℕ) (nodes : Nodes) → times x (tags (without id nodes)) + graves_of x (map (grave_of frames) (remains id (node_at nodes id))) ≡ times x (tags nodes)
without_times x frames id [] = refl
without_times x frames id (e ∷ es) = rw (node_at_step id e es) (by (e.0 == id) (without_times x frames id es))
  where
    by : (t : Bool) → times x (tags (without id es)) + graves_of x (map (grave_of frames) (remains id (node_at es id))) ≡ times x (tags es) →
        times x (tags (cond t es (e ∷ without id es))) + graves_of x (map (grave_of frames) (remains id (cond t (Some e.1) (node_at es id)))) ≡ one (e.1.serial == x) + times x (tags es)
    by true rest = omega arith
    by false rest = omega (arith, rest)

-- a serial is given once
given_once : (n x : ℕ) → one (n == x) + one (nat_le (n + 1) x) ≤ one (nat_le n x)
given_once n x = by (n == x) refl (nat_le (n + 1) x) refl (nat_le n x) refl
  where
    by : (t : Bool) → (n == x) ≡ t → (u : Bool) → nat_le (n + 1) x ≡ u → (v : Bool) → nat_le n x ≡ v → one t + one u ≤ one v
    by true e true f v g = let i = eqb-true n x e in let l = leb-true (n + 1) x f in absurd (omega (arith, i, l))
    by true e false f true g = omega arith
    by true e false f false g = let i = eqb-true n x e in let l = leb-false n x g in absurd (omega (arith, i, l))
    by false e true f true g = omega arith
    by false e true f false g = let l = leb-true (n + 1) x f in let m = leb-false n x g in absurd (omega (arith, l, m))
    by false e false f v g = omega arith

-- An edit, a list of edits, a command: what is deleted and what is left, together, do not grow.

abbrev Shrinks : ℕ → ℕ → SceneGraph → SceneGraph → Type 0
Shrinks x frames g h = gone_in x frames h + has_or_gives x h ≤ gone_in x frames g + has_or_gives x g

edit_shrinks : (x frames : ℕ) (g : SceneGraph) (e : Edit) (h : SceneGraph) → IsEdited g e h → Shrinks x frames g h
edit_shrinks x frames g e _ (Makes kind is) =
    let p = put_times x (named_by e) (record { serial = g.next_serial; born = g.time; kind = kind; children = [] }) g.nodes in
    let o = given_once g.next_serial x in
    omega (arith, p, o)
edit_shrinks x frames g e _ (Deletes is) =
    let w = without_times x frames (named_by e) g.nodes in
    let out = remains (named_by e) (node_at g.nodes (named_by e)) in
    let joined : graves_of x (map (grave_of frames) (g.gone ++ out)) ≡ graves_of x (map (grave_of frames) g.gone) + graves_of x (map (grave_of frames) out) =
    ap (graves_of x) (map-append (grave_of frames) g.gone out) ∙ graves_append x (map (grave_of frames) g.gone) (map (grave_of frames) out) in
    omega (arith, w, joined)
edit_shrinks x frames g e _ (Changes keeps) =
    let c = change_times x (named_by e) (node_after g.time e) g.nodes keeps in
    omega (arith, c)

edits_shrink : (x frames : ℕ) (es : List Edit) (g : SceneGraph) → Shrinks x frames g (fold effect g es)
edits_shrink x frames [] g = omega arith
edits_shrink x frames (e ∷ es) g =
    let first = edit_shrinks x frames g e (effect g e) (effect_edited g e) in
    let rest = edits_shrink x frames es (effect g e) in
    omega (arith, first, rest)

-- what a command buries and what is then left is no more than there was
command_shrinks : (x : ℕ) (s : FrameState) (c : Command) → s.graph.gone ≡ [] → graves_of x (next_state (settled s) c).graves + has_or_gives x (next_state (settled s) c).graph ≤ has_or_gives x s.graph
command_shrinks x s (command.Edit e) none = by (is_some (fault_of s.graph e))
  where
    empty : gone_in x s.frames s.graph ≡ 0
    empty = ap (λ (gs : List Gone). graves_of x (map (grave_of s.frames) gs)) none

    by : (t : Bool) → gone_in x s.frames (cond t s.graph (effect s.graph e)) + has_or_gives x (cond t s.graph (effect s.graph e)) ≤ has_or_gives x s.graph
    by true = omega (arith, empty)
    by false = let h = edit_shrinks x s.frames s.graph e (effect s.graph e) (effect_edited s.graph e) in omega (arith, h, empty)
command_shrinks x s (command.Merge m) none = by (is_some (merge_fault s.graph m.edits))
  where
    empty : gone_in x s.frames s.graph ≡ 0
    empty = ap (λ (gs : List Gone). graves_of x (map (grave_of s.frames) gs)) none

    by : (t : Bool) → gone_in x s.frames (cond t s.graph (fold effect s.graph m.edits)) + has_or_gives x (cond t s.graph (fold effect s.graph m.edits)) ≤ has_or_gives x s.graph
    by true = omega (arith, empty)
    by false = let h = edits_shrink x s.frames m.edits s.graph in omega (arith, h, empty)
command_shrinks x s (command.View channel v) none = omega arith
command_shrinks x s (command.Sync r) none = omega arith
command_shrinks x s command.Frame none = omega arith

-- nothing is deleted and not yet buried
buried_at_once : (s : FrameState) (c : Command) → s.graph.gone ≡ [] → (next_state s c).graph.gone ≡ []
buried_at_once s (command.Edit e) none = refl
buried_at_once s (command.Merge m) none = refl
buried_at_once s (command.View channel v) none = none
buried_at_once s (command.Sync r) none = none
buried_at_once s command.Frame none = none

buried_most : (x : ℕ) (s : FrameState) (cs : List Command) → s.graph.gone ≡ [] → buried_along x (settled s) cs ≤ has_or_gives x s.graph
buried_most x s [] none = omega arith
buried_most x s (c ∷ cs) none =
    let first = command_shrinks x s c none in
    let rest = buried_most x (next_state (settled s) c) cs (buried_at_once (settled s) c none) in
    omega (arith, first, rest)

pub freed_once_law : FreedOnceLaw
freed_once_law channels x log legal =
    let total = freed_total x (opening_state channels) log legal in
    let most = buried_most x (opening_state channels) (unsynced (commands_of log)) refl in
    let given = given_once 0 x in
    let few = one_most (nat_le 0 x) in
    omega (arith, total, most, given, few)
