-- A freed serial stands in no frame after the retired ones.
use Rattle.std.proofs.Common.{◌≡◌, ℕ, suc, zero, ◌+◌, ◌<◌, ◌≤◌, Bool, true, false, cond, not, ◌||◌, ◌==◌, nat_lt, nat_le, List, [], ◌∷◌, ◌++◌, map, length, take, drop, is_some, slice_get, Some, refl, sym, ◌∙◌, ap, subst, arith, append_assoc}
use Rattle.std.proofs.lemmas.List.{append-nil, map-append, length-append}
use Rattle.std.proofs.lemmas.Bool.{ltb-true, ltb-false, leb-true, leb-false, eqb-true, eq-eqb, ne_eqb}
use Rattle.std.specs.List.{AllByRecursion, fold, filter, list_any}
use Rattle.pf_model.specs.declared.nodes.Node.{Node}
use Rattle.pf_model.specs.declared.nodes.Gone.{Gone}
use Rattle.pf_model.specs.declared.edits.Edit.{Edit}
use Rattle.pf_model.specs.Graphs.{SceneGraph, Nodes, node_at, change, put, without}
use Rattle.pf_model.specs.Edits.{fault_of, effect, after, remains, deleted}
use Rattle.pf_model.specs.NodeEdits.{node_after}
use Rattle.pf_model.specs.Laws.{KeepsBirth, IsEdited, Makes, Deletes, Changes}
use Rattle.pf_model.specs.Merges.{merge_fault, after_all}
use Rattle.pf_model.specs.Copies.{GraveState, named_by, is_due, freed_by, put_all, grave_of}
use Rattle.pf_model.proofs.Places.{node_at_step}
use Rattle.pf_model.proofs.Editing.{effect_edited}
use Rattle.pf_model.proofs.Levels.{all_map}
use Rattle.pf_history.specs.declared.commands.Command.{Command}
use Rattle.pf_history.specs.declared.commands.Command.TheVariants as command
use Rattle.pf_history.specs.declared.commands.Reply.TheVariants as reply
use Rattle.pf_history.specs.declared.commands.Entry.{Entry}
use Rattle.pf_history.specs.Objects.{FrameState, opening_state, next_state}
use Rattle.pf_history.specs.Commands.{is_frame}
use Rattle.pf_history.specs.Logs.{Log, state_after, state_at, IsLegalEntry}
use Rattle.pf_history.specs.Cuts.{names, Cutting, cuttings, found_by_frames}
use Rattle.pf_history.specs.CutLaws.{has_serial, is_among, sync_entry, FreedLaw}
use Rattle.pf_history.proofs.Lists.{all_append, all_filter, all_drop, all_drop_at}
use Rattle.pf_history.proofs.Folds.{legal_at}
use Rattle.pf_history.proofs.Counting.{one, one_most}

-- Serials and births of nodes

-- the serial of each node, and the frame in preparation when it was made
abbrev pub Tags : Type 0
Tags = List (ℕ × ℕ)

abbrev pub tags : Nodes → Tags
tags nodes = map (λ e. (e.1.serial, e.1.born)) nodes

-- how many nodes have a serial
abbrev pub times : ℕ → Tags → ℕ
times x [] = 0
times x (t ∷ ts) = one (t.0 == x) + times x ts

-- how many graves do
abbrev pub graves_of : ℕ → List GraveState → ℕ
graves_of x [] = 0
graves_of x (g ∷ gs) = one (g.serial == x) + graves_of x gs

times_none : (x : ℕ) (nodes : Nodes) → times x (tags nodes) ≡ 0 → has_serial x nodes ≡ false
times_none x [] h = refl
times_none x (e ∷ es) h = by (e.1.serial == x) (times_none x es) h
  where
    by : (t : Bool) → (times x (tags es) ≡ 0 → has_serial x es ≡ false) → one t + times x (tags es) ≡ 0 → (t || has_serial x es) ≡ false
    by true rest h = absurd (omega arith)
    by false rest h = rest (omega arith)

graves_append : (x : ℕ) (gs hs : List GraveState) → graves_of x (gs ++ hs) ≡ graves_of x gs + graves_of x hs
graves_append x [] hs = omega arith
graves_append x (g ∷ gs) hs = let rest = graves_append x gs hs in omega arith

graves_filter : (x : ℕ) (test : GraveState → Bool) (gs : List GraveState) → graves_of x (filter test gs) ≤ graves_of x gs
graves_filter x test [] = omega arith
graves_filter x test (g ∷ gs) = by (test g) (graves_filter x test gs)
  where
    by : (t : Bool) → graves_of x (filter test gs) ≤ graves_of x gs → graves_of x (cond t (g ∷ filter test gs) (filter test gs)) ≤ one (g.serial == x) + graves_of x gs
    by true rest = omega arith
    by false rest = omega arith

-- A node changed, put and taken out

change_tags : (id : ℕ) (f : Node → Node) (nodes : Nodes) → KeepsBirth f → tags (change id f nodes) ≡ tags nodes
change_tags id f [] same = refl
change_tags id f (e ∷ es) same = by (e.0 == id) (change_tags id f es same)
  where
    by : (t : Bool) → tags (change id f es) ≡ tags es → tags (cond t ((e.0, f e.1) ∷ es) (e ∷ change id f es)) ≡ tags (e ∷ es)
    by true rest = let s = same e.1 in ap (λ (b : ℕ). ((f e.1).serial, b) ∷ tags es) s.1 ∙ ap (λ (a : ℕ). (a, e.1.born) ∷ tags es) s.0
    by false rest = ap (λ ts. (e.1.serial, e.1.born) ∷ ts) rest

put_all_tags : (P : ℕ × ℕ → Type 0) (id : ℕ) (n : Node) (nodes : Nodes) → P (n.serial, n.born) → AllByRecursion P (tags nodes) → AllByRecursion P (tags (put id n nodes))
put_all_tags P id n [] new h = (new, tt)
put_all_tags P id n (e ∷ es) new h = by (nat_lt id e.0) (e.0 == id) (put_all_tags P id n es new h.1)
  where
    by : (t u : Bool) → AllByRecursion P (tags (put id n es)) → AllByRecursion P (tags (cond t ((id, n) ∷ e ∷ es) (cond u ((id, n) ∷ es) (e ∷ put id n es))))
    by true u rest = (new, h)
    by false true rest = (new, h.1)
    by false false rest = (h.0, rest)

put_times : (x id : ℕ) (n : Node) (nodes : Nodes) → times x (tags (put id n nodes)) ≤ one (n.serial == x) + times x (tags nodes)
put_times x id n [] = omega arith
put_times x id n (e ∷ es) = by (nat_lt id e.0) (e.0 == id) (put_times x id n es)
  where
    by : (t u : Bool) → times x (tags (put id n es)) ≤ one (n.serial == x) + times x (tags es) →
        times x (tags (cond t ((id, n) ∷ e ∷ es) (cond u ((id, n) ∷ es) (e ∷ put id n es)))) ≤ one (n.serial == x) + (one (e.1.serial == x) + times x (tags es))
    by true u rest = omega arith
    by false true rest = omega arith
    by false false rest = omega arith

without_all_tags : (P : ℕ × ℕ → Type 0) (id : ℕ) (nodes : Nodes) → AllByRecursion P (tags nodes) → AllByRecursion P (tags (without id nodes))
without_all_tags P id [] h = tt
without_all_tags P id (e ∷ es) h = by (e.0 == id) (without_all_tags P id es h.1)
  where
    by : (t : Bool) → AllByRecursion P (tags (without id es)) → AllByRecursion P (tags (cond t es (e ∷ without id es)))
    by true rest = h.1
    by false rest = (h.0, rest)

remains_all : (P : ℕ × ℕ → Type 0) (id : ℕ) (nodes : Nodes) → AllByRecursion P (tags nodes) → AllByRecursion (λ g. P (g.serial, g.born)) (remains id (node_at nodes id))
remains_all P id [] h = tt
remains_all P id (e ∷ es) h = rw (node_at_step id e es) (by (e.0 == id) (remains_all P id es h.1))
  where
    by : (t : Bool) → AllByRecursion (λ g. P (g.serial, g.born)) (remains id (node_at es id)) → AllByRecursion (λ g. P (g.serial, g.born)) (remains id (cond t (Some e.1) (node_at es id)))
    by true rest = (h.0, tt)
    by false rest = rest

-- what is taken out is what remains
without_times : (x frames id : ℕ) (nodes : Nodes) → times x (tags (without id nodes)) + graves_of x (map (grave_of frames) (remains id (node_at nodes id))) ≡ times x (tags nodes)
without_times x frames id [] = refl
without_times x frames id (e ∷ es) = rw (node_at_step id e es) (by (e.0 == id) (without_times x frames id es))
  where
    by : (t : Bool) → times x (tags (without id es)) + graves_of x (map (grave_of frames) (remains id (node_at es id))) ≡ times x (tags es) →
        times x (tags (cond t es (e ∷ without id es))) + graves_of x (map (grave_of frames) (remains id (cond t (Some e.1) (node_at es id)))) ≡ one (e.1.serial == x) + times x (tags es)
    by true rest = omega arith
    by false rest = omega arith

-- A serial that is gone for good

-- no node has the serial, and it is not to be given again
record IsPast (x : ℕ) (g : SceneGraph) : Type 0 where
  pub none : times x (tags g.nodes) ≡ 0
  pub given : x < g.next_serial

abbrev Lacks : ℕ → FrameState → Type 0
Lacks x s = has_serial x s.graph.nodes ≡ false

past_change : (x : ℕ) (g : SceneGraph) (id : ℕ) (f : Node → Node) → KeepsBirth f → IsPast x g → IsPast x (record g { nodes = change id f g.nodes })
past_change x g id f same h = record { none = ap (times x) (change_tags id f g.nodes same) ∙ h.none; given = h.given }

past_edited : (x : ℕ) (g : SceneGraph) (e : Edit) (h : SceneGraph) → IsEdited g e h → IsPast x g → IsPast x h
past_edited x g e _ (Makes kind is) p =
    let n : Node = record { serial = g.next_serial; born = g.time; kind = kind; children = [] } in
    let more = put_times x (named_by e) n g.nodes in
    let z : one (g.next_serial == x) ≡ 0 = ap one (ne_eqb g.next_serial x (let l = p.given in omega (arith, l))) in
    record { none = omega (arith, more, z, p.none); given = omega (arith, p.given) }
past_edited x g e _ (Deletes is) p =
    let w = without_times x 0 (named_by e) g.nodes in
    record { none = omega (arith, w, p.none); given = p.given }
past_edited x g e _ (Changes keeps) p = past_change x g (named_by e) (node_after g.time e) keeps p

past_effect : (x : ℕ) (g : SceneGraph) (e : Edit) → IsPast x g → IsPast x (effect g e)
past_effect x g e p = past_edited x g e (effect g e) (effect_edited g e) p

past_effects : (x : ℕ) (es : List Edit) (g : SceneGraph) → IsPast x g → IsPast x (fold effect g es)
past_effects x [] g h = h
past_effects x (e ∷ es) g h = past_effects x es (effect g e) (past_effect x g e h)

-- taking the deleted nodes out, or going on to a frame, changes no node
past_same : (x : ℕ) (g h : SceneGraph) → g.nodes ≡ h.nodes → g.next_serial ≡ h.next_serial → IsPast x g → IsPast x h
past_same x g h nodes next p =
    record { none = ap (λ (n : Nodes). times x (tags n)) (sym nodes) ∙ p.none; given = let l = p.given in omega (arith, l, next) }

past_next : (x : ℕ) (s : FrameState) (c : Command) → IsPast x s.graph → IsPast x (next_state s c).graph
past_next x s (command.Edit e) h = past_same x (after s.graph e) (next_state s (command.Edit e)).graph refl refl (by (is_some (fault_of s.graph e)))
  where
    by : (t : Bool) → IsPast x (cond t s.graph (effect s.graph e))
    by true = h
    by false = past_effect x s.graph e h
past_next x s (command.Merge m) h = past_same x (after_all s.graph m.edits) (next_state s (command.Merge m)).graph refl refl (by (is_some (merge_fault s.graph m.edits)))
  where
    by : (t : Bool) → IsPast x (cond t s.graph (fold effect s.graph m.edits))
    by true = h
    by false = past_effects x m.edits s.graph h
past_next x s (command.View channel v) h = h
past_next x s (command.Sync r) h = h
past_next x s command.Frame h = past_same x s.graph (next_state s command.Frame).graph refl refl h

-- the states that the Frames find from here on
abbrev frames_from : List ℕ → FrameState → Log → List FrameState
frames_from ids s log = map (λ (c : Cutting). c.found) (cuttings ids s log)

past_frames : (x : ℕ) (ids : List ℕ) (s : FrameState) (log : Log) → IsPast x s.graph → AllByRecursion (Lacks x) (frames_from ids s log)
past_frames x ids s [] h = tt
past_frames x ids s (e ∷ es) h =
    by (is_frame e.1.command)
    (past_frames x [] (next_state s e.1.command) es (past_next x s e.1.command h))
    (past_frames x (put_all (names s e.1.command) ids) (next_state s e.1.command) es (past_next x s e.1.command h))
  where
    by : (t : Bool) → AllByRecursion (Lacks x) (frames_from [] (next_state s e.1.command) es) → AllByRecursion (Lacks x) (frames_from (put_all (names s e.1.command) ids) (next_state s e.1.command) es) →
        AllByRecursion (Lacks x) (map (λ (c : Cutting). c.found) (cond t (record { ids = ids; found = s } ∷ cuttings [] (next_state s e.1.command) es) (cuttings (put_all (names s e.1.command) ids) (next_state s e.1.command) es)))
    by true framed passed = (times_none x s.graph.nodes h.none, framed)
    by false framed passed = passed

-- Frames after the first r ones

abbrev NoneFrom : ℕ → ℕ → List FrameState → Type 0
NoneFrom r x found = AllByRecursion (Lacks x) (drop r found)

none_append : (r x : ℕ) (xs ys : List FrameState) → NoneFrom r x xs → AllByRecursion (Lacks x) ys → NoneFrom r x (xs ++ ys)
none_append r x [] ys h k = all_drop (Lacks x) r ys k
none_append zero x (s ∷ xs) ys h k = all_append (Lacks x) (s ∷ xs) ys h k
none_append (suc r) x (s ∷ xs) ys h k = none_append r x xs ys h k

none_later : (a b x : ℕ) (xs : List FrameState) → a ≤ b → NoneFrom a x xs → NoneFrom b x xs
none_later zero b x xs l h = all_drop (Lacks x) b xs h
none_later (suc a) zero x xs l h = absurd (omega arith)
none_later (suc a) (suc b) x [] l h = tt
none_later (suc a) (suc b) x (s ∷ xs) l h = none_later a b x xs (omega arith) h

none_past : (x : ℕ) (xs : List FrameState) → NoneFrom (length xs) x xs
none_past x [] = tt
none_past x (s ∷ xs) = none_past x xs

-- What holds of nodes, graves and the frames found so far

pub record AreKept (found : List FrameState) (frames : ℕ) (ts : Tags) (time next : ℕ) (graves : List GraveState) : Type 0 where
  pub preparing : time ≡ frames + 1
  pub many : length found ≡ frames
  -- a node made since the last Frame stood in none
  pub born : AllByRecursion (λ t. t.1 ≤ frames + 1) ts
  pub fresh : AllByRecursion (λ t. frames < t.1 → NoneFrom 0 t.0 found) ts
  -- a buried one stood in none after the last that its grave tells
  pub buried : AllByRecursion (λ g. NoneFrom g.last g.serial found) graves
  -- a serial that was not given stands nowhere, and each other one in at most one place
  pub free : (x : ℕ) → next ≤ x → NoneFrom 0 x found
  pub once : (x : ℕ) → times x ts + graves_of x graves ≤ 1
  pub below : (x : ℕ) → next ≤ x → times x ts + graves_of x graves ≡ 0

-- the graves, with those of the nodes that were deleted since
abbrev all_graves : ℕ → List GraveState → SceneGraph → List GraveState
all_graves frames graves g = graves ++ map (grave_of frames) g.gone

abbrev GraphKept : List FrameState → ℕ → List GraveState → SceneGraph → Type 0
GraphKept found frames graves g = AreKept found frames (tags g.nodes) g.time g.next_serial (all_graves frames graves g)

kept_change : (found : List FrameState) (frames : ℕ) (graves : List GraveState) (g : SceneGraph) (id : ℕ) (f : Node → Node) → KeepsBirth f → GraphKept found frames graves g → GraphKept found frames graves (record g { nodes = change id f g.nodes })
kept_change found frames graves g id f same h =
    subst (λ (ts : Tags). AreKept found frames ts g.time g.next_serial (all_graves frames graves g)) (sym (change_tags id f g.nodes same)) h

kept_make : (found : List FrameState) (frames : ℕ) (graves : List GraveState) (g : SceneGraph) (id : ℕ) (n : Node) → n.serial ≡ g.next_serial → n.born ≡ g.time → GraphKept found frames graves g →
    AreKept found frames (tags (put id n g.nodes)) g.time (g.next_serial + 1) (all_graves frames graves g)
kept_make found frames graves g id n serial born h =
    record {
      preparing = h.preparing;
      many = h.many;
      born = put_all_tags (λ t. t.1 ≤ frames + 1) id n g.nodes (omega (arith, born, h.preparing)) h.born;
      fresh = put_all_tags (λ t. frames < t.1 → NoneFrom 0 t.0 found) id n g.nodes (λ l. h.free n.serial (omega (arith, serial))) h.fresh;
      buried = h.buried;
      free = λ x l. h.free x (omega (arith, l));
      once = λ x. once x (n.serial == x) refl;
      below = λ x l.
          let p = put_times x id n g.nodes in
          let z : one (n.serial == x) ≡ 0 = ap one (ne_eqb n.serial x (omega (arith, l, serial))) in
          let b = h.below x (omega (arith, l)) in
          omega (arith, p, z, b);
    }
  where
    once : (x : ℕ) (t : Bool) → (n.serial == x) ≡ t → times x (tags (put id n g.nodes)) + graves_of x (all_graves frames graves g) ≤ 1
    once x true e =
        let p = put_times x id n g.nodes in
        let z : one (n.serial == x) ≡ 1 = ap one e in
        let i = eqb-true n.serial x e in
        let b = h.below x (omega (arith, i, serial)) in
        omega (arith, p, z, b)
    once x false e =
        let p = put_times x id n g.nodes in
        let z : one (n.serial == x) ≡ 0 = ap one e in
        let o = h.once x in
        omega (arith, p, z, o)

-- the grave of a node that was deleted
buried_now : (found : List FrameState) (frames : ℕ) (g : Gone) → length found ≡ frames → (frames < g.born → NoneFrom 0 g.serial found) → NoneFrom (grave_of frames g).last g.serial found
buried_now found frames g many fresh = by (nat_le g.born frames) refl
  where
    by : (t : Bool) → nat_le g.born frames ≡ t → NoneFrom (cond t frames 0) g.serial found
    by true e = subst (λ (n : ℕ). NoneFrom n g.serial found) many (none_past g.serial found)
    by false e = fresh (leb-false g.born frames e)

all_buried : (found : List FrameState) (frames : ℕ) (gs : List Gone) → length found ≡ frames → AllByRecursion (λ g. frames < g.born → NoneFrom 0 g.serial found) gs → AllByRecursion (λ g. NoneFrom g.last g.serial found) (map (grave_of frames) gs)
all_buried found frames [] many h = tt
all_buried found frames (g ∷ gs) many h = (buried_now found frames g many h.0, all_buried found frames gs many h.1)

kept_delete : (found : List FrameState) (frames : ℕ) (graves : List GraveState) (g : SceneGraph) (id : ℕ) → GraphKept found frames graves g → GraphKept found frames graves (deleted id g)
kept_delete found frames graves g id h =
    let out = map (grave_of frames) (remains id (node_at g.nodes id)) in
    let joined : all_graves frames graves g ++ out ≡ graves ++ map (grave_of frames) (g.gone ++ remains id (node_at g.nodes id)) =
    append_assoc graves (map (grave_of frames) g.gone) out ∙ ap (λ gs. graves ++ gs) (sym (map-append (grave_of frames) g.gone (remains id (node_at g.nodes id)))) in
    subst (λ (gs : List GraveState). AreKept found frames (tags (without id g.nodes)) g.time g.next_serial gs) joined
    (record {
      preparing = h.preparing;
      many = h.many;
      born = without_all_tags (λ t. t.1 ≤ frames + 1) id g.nodes h.born;
      fresh = without_all_tags (λ t. frames < t.1 → NoneFrom 0 t.0 found) id g.nodes h.fresh;
      buried = all_append (λ g. NoneFrom g.last g.serial found) (all_graves frames graves g) out h.buried
          (all_buried found frames (remains id (node_at g.nodes id)) h.many (remains_all (λ t. frames < t.1 → NoneFrom 0 t.0 found) id g.nodes h.fresh));
      free = h.free;
      once = λ x.
          let w = without_times x frames id g.nodes in
          let a = graves_append x (all_graves frames graves g) out in
          let o = h.once x in
          omega (arith, w, a, o);
      below = λ x l.
          let w = without_times x frames id g.nodes in
          let a = graves_append x (all_graves frames graves g) out in
          let o = h.below x l in
          omega (arith, w, a, o);
    })

kept_edited : (found : List FrameState) (frames : ℕ) (graves : List GraveState) (g : SceneGraph) (e : Edit) (h : SceneGraph) → IsEdited g e h → GraphKept found frames graves g → GraphKept found frames graves h
kept_edited found frames graves g e _ (Makes kind is) k =
    kept_make found frames graves g (named_by e) (record { serial = g.next_serial; born = g.time; kind = kind; children = [] }) refl refl k
kept_edited found frames graves g e _ (Deletes is) k = kept_delete found frames graves g (named_by e) k
kept_edited found frames graves g e _ (Changes keeps) k = kept_change found frames graves g (named_by e) (node_after g.time e) keeps k

kept_effect : (found : List FrameState) (frames : ℕ) (graves : List GraveState) (g : SceneGraph) (e : Edit) → GraphKept found frames graves g → GraphKept found frames graves (effect g e)
kept_effect found frames graves g e k = kept_edited found frames graves g e (effect g e) (effect_edited g e) k

kept_effects : (found : List FrameState) (frames : ℕ) (graves : List GraveState) (es : List Edit) (g : SceneGraph) → GraphKept found frames graves g → GraphKept found frames graves (fold effect g es)
kept_effects found frames graves [] g h = h
kept_effects found frames graves (e ∷ es) g h = kept_effects found frames graves es (effect g e) (kept_effect found frames graves g e h)

-- of a state
pub record IsKept (found : List FrameState) (s : FrameState) : Type 0 where
  pub kept : AreKept found s.frames (tags s.graph.nodes) s.graph.time s.graph.next_serial s.graves
  pub emptied : s.graph.gone ≡ []

-- nothing is deleted and not yet buried
graph_kept : (found : List FrameState) (s : FrameState) → IsKept found s → GraphKept found s.frames s.graves s.graph
graph_kept found s h =
    subst (λ (gs : List GraveState). AreKept found s.frames (tags s.graph.nodes) s.graph.time s.graph.next_serial gs)
    (sym (ap (λ (gs : List Gone). s.graves ++ map (grave_of s.frames) gs) h.emptied ∙ append-nil s.graves)) h.kept

-- a serial of a grave has no node
grave_past : (found : List FrameState) (s : FrameState) (x : ℕ) → IsKept found s → 1 ≤ graves_of x s.graves → IsPast x s.graph
grave_past found s x h l = record { none = let o = h.kept.once x in omega (arith, o, l); given = by (nat_lt x s.graph.next_serial) refl }
  where
    by : (t : Bool) → nat_lt x s.graph.next_serial ≡ t → x < s.graph.next_serial
    by true e = ltb-true x s.graph.next_serial e
    by false e = let z = h.kept.below x (ltb-false x s.graph.next_serial e) in absurd (omega (arith, z, l))

-- one more frame: what is in a grave does not stand in it
all_graves_lack : (found : List FrameState) (s : FrameState) → IsKept found s → (gs : List GraveState) → ((x : ℕ) → graves_of x gs ≤ graves_of x s.graves) → AllByRecursion (λ g. NoneFrom g.last g.serial found) gs → AllByRecursion (λ g. NoneFrom g.last g.serial (found ++ s ∷ [])) gs
all_graves_lack found s h [] within k = tt
all_graves_lack found s h (g ∷ gs) within k =
    let this : one (g.serial == g.serial) ≡ 1 = ap one (eq-eqb g.serial g.serial refl) in
    let w = within g.serial in
    let past = grave_past found s g.serial h (omega (arith, this, w)) in (
      none_append g.last g.serial found (s ∷ []) k.0 (times_none g.serial s.graph.nodes past.none, tt),
      all_graves_lack found s h gs (λ x. let v = within x in omega (arith, v)) k.1,
    )

-- the frames found, with this one where the command is a Frame
abbrev pub noted : List FrameState → FrameState → Command → List FrameState
noted found s c = cond (is_frame c) (found ++ s ∷ []) found

pub kept_next : (found : List FrameState) (s : FrameState) (c : Command) → IsKept found s → IsKept (noted found s c) (next_state s c)
kept_next found s (command.Edit e) h = record { kept = by (is_some (fault_of s.graph e)); emptied = refl }
  where
    by : (t : Bool) → GraphKept found s.frames s.graves (cond t s.graph (effect s.graph e))
    by true = graph_kept found s h
    by false = kept_effect found s.frames s.graves s.graph e (graph_kept found s h)
kept_next found s (command.Merge m) h = record { kept = by (is_some (merge_fault s.graph m.edits)); emptied = refl }
  where
    by : (t : Bool) → GraphKept found s.frames s.graves (cond t s.graph (fold effect s.graph m.edits))
    by true = graph_kept found s h
    by false = kept_effects found s.frames s.graves m.edits s.graph (graph_kept found s h)
kept_next found s (command.View channel v) h = record { kept = h.kept; emptied = h.emptied }
kept_next found s (command.Sync r) h =
    record {
      kept = record {
        preparing = h.kept.preparing;
        many = h.kept.many;
        born = h.kept.born;
        fresh = h.kept.fresh;
        buried = all_filter (λ g. NoneFrom g.last g.serial found) (λ g. not (is_due r g)) s.graves h.kept.buried;
        free = h.kept.free;
        once = λ x. let f = graves_filter x (λ g. not (is_due r g)) s.graves in let o = h.kept.once x in omega (arith, f, o);
        below = λ x l. let f = graves_filter x (λ g. not (is_due r g)) s.graves in let o = h.kept.below x l in omega (arith, f, o);
      };
      emptied = h.emptied;
    }
kept_next found s command.Frame h =
    record {
      kept = record {
        preparing = omega arith;
        many = let n = length-append found (s ∷ []) in let m = h.kept.many in omega (arith, n, m);
        born = all_map (λ (t : ℕ × ℕ). t.1 ≤ s.frames + 1) (λ t. t.1 ≤ s.frames + 1 + 1) (λ t l. omega (arith, l)) (tags s.graph.nodes) h.kept.born;
        fresh = all_map (λ (t : ℕ × ℕ). t.1 ≤ s.frames + 1) (λ t. s.frames + 1 < t.1 → NoneFrom 0 t.0 (found ++ s ∷ [])) (λ t l k. absurd (omega (arith, l, k))) (tags s.graph.nodes) h.kept.born;
        buried = all_graves_lack found s h s.graves (λ x. omega arith) h.kept.buried;
        free = λ x l. let z = h.kept.below x l in none_append 0 x found (s ∷ []) (h.kept.free x l) (times_none x s.graph.nodes (omega (arith, z)), tt);
        once = h.kept.once;
        below = h.kept.below;
      };
      emptied = h.emptied;
    }

-- What is freed

-- a freed serial is that of a grave that is due
freed_grave : (found : List FrameState) (r x : ℕ) (gs : List GraveState) → AllByRecursion (λ g. NoneFrom g.last g.serial found) gs → list_any (λ y. y == x) (freed_by r gs) ≡ true → NoneFrom r x found × (1 ≤ graves_of x gs)
freed_grave found r x [] h is = absurd (cc)
freed_grave found r x (g ∷ gs) h is = by (is_due r g) refl (freed_grave found r x gs h.1) is
  where
    more : NoneFrom r x found × (1 ≤ graves_of x gs) → NoneFrom r x found × (1 ≤ one (g.serial == x) + graves_of x gs)
    more rest = let l = rest.1 in (rest.0, omega (arith, l))

    here : is_due r g ≡ true → (list_any (λ y. y == x) (freed_by r gs) ≡ true → NoneFrom r x found × (1 ≤ graves_of x gs)) → (u : Bool) → (g.serial == x) ≡ u → (u || list_any (λ y. y == x) (freed_by r gs)) ≡ true → NoneFrom r x found × (1 ≤ one (g.serial == x) + graves_of x gs)
    here d rest true e is =
        let z : one (g.serial == x) ≡ 1 = ap one e in
        (subst (λ (y : ℕ). NoneFrom r y found) (eqb-true g.serial x e) (none_later g.last r g.serial found (leb-true g.last r d) h.0), omega (arith, z))
    here d rest false e is = more (rest is)

    by : (t : Bool) → is_due r g ≡ t → (list_any (λ y. y == x) (freed_by r gs) ≡ true → NoneFrom r x found × (1 ≤ graves_of x gs)) →
        list_any (λ y. y == x) (map (λ (g : GraveState). g.serial) (cond t (g ∷ filter (is_due r) gs) (filter (is_due r) gs))) ≡ true → NoneFrom r x found × (1 ≤ one (g.serial == x) + graves_of x gs)
    by true d rest is = here d rest (g.serial == x) refl is
    by false d rest is = more (rest is)

-- the frames found, and those found from an entry on
noted_frames : (found : List FrameState) (ids : List ℕ) (s : FrameState) (e : ℕ × Entry) (es : Log) (P : List FrameState → Type 0) →
    ((more : List ℕ) → P (noted found s e.1.command ++ frames_from more (next_state s e.1.command) es)) → P (found ++ frames_from ids s (e ∷ es))
noted_frames found ids s e es P h = by (is_frame e.1.command) h
  where
    by : (t : Bool) → ((more : List ℕ) → P (cond t (found ++ s ∷ []) found ++ frames_from more (next_state s e.1.command) es)) →
        P (found ++ map (λ (c : Cutting). c.found) (cond t (record { ids = ids; found = s } ∷ cuttings [] (next_state s e.1.command) es) (cuttings (put_all (names s e.1.command) ids) (next_state s e.1.command) es)))
    by true h = subst P (append_assoc found (s ∷ []) (frames_from [] (next_state s e.1.command) es)) (h [])
    by false h = h (put_all (names s e.1.command) ids)

freed_from : (found : List FrameState) (ids : List ℕ) (s : FrameState) (log : Log) → IsKept found s → (j : ℕ) (e : ℕ × Entry) (r x : ℕ) → slice_get log j ≡ Some e → e.1.command ≡ command.Sync r → list_any (λ y. y == x) (freed_by r (state_after s (take j log)).graves) ≡ true → NoneFrom r x (found ++ frames_from ids s log)
freed_from found ids s [] h j e r x at is freed = absurd (cc)
freed_from found ids s (d ∷ log) h zero e r x at is freed =
    let f = freed_grave found r x s.graves h.kept.buried freed in
    none_append r x found (frames_from ids s (d ∷ log)) f.0 (past_frames x ids s (d ∷ log) (grave_past found s x h f.1))
freed_from found ids s (d ∷ log) h (suc j) e r x at is freed =
    noted_frames found ids s d log (NoneFrom r x)
    (λ more. freed_from (noted found s d.1.command) more (next_state s d.1.command) log (kept_next found s d.1.command h) j e r x at is freed)

pub opening_kept : (channels : ℕ) → IsKept [] (opening_state channels)
opening_kept channels =
    record {
      kept = record {
        preparing = omega arith;
        many = refl;
        born = (omega arith, tt);
        fresh = (λ l. tt, tt);
        buried = tt;
        free = λ x l. tt;
        once = λ x. let o = one_most (0 == x) in omega (arith, o);
        below = λ x l. let z : one (0 == x) ≡ 0 = ap one (ne_eqb 0 x (omega (arith, l))) in omega (arith, z);
      };
      emptied = refl;
    }

-- Freed in the words of a reply

-- what a Sync of a legal history replies is what is freed
replied : (s : FrameState) (seat r : ℕ) (serials : List ℕ) → IsLegalEntry s (sync_entry r serials) → serials ≡ freed_by r s.graves
replied s seat r serials legal = let same : reply.Freed serials ≡ reply.Freed (freed_by r s.graves) = legal.reply in cc

within : (r x k : ℕ) (s : FrameState) (found : List FrameState) → NoneFrom r x found → slice_get found k ≡ Some s → has_serial x s.graph.nodes ≡ true → k + 1 ≤ r
within r x k s found none at there = by (nat_le r k) refl
  where
    by : (t : Bool) → nat_le r k ≡ t → k + 1 ≤ r
    by true e = absurd (let lacks : has_serial x s.graph.nodes ≡ false = all_drop_at (Lacks x) r found none k s at (leb-true r k e) in cc)
    by false e = let l : k < r = leb-false r k e in omega arith

pub freed_law : FreedLaw
freed_law channels log j r x =
    record {
      object = λ e at is freed. freed_from [] [] (opening_state channels) log (opening_kept channels) j e r x at is freed;
      replied = λ seat serials legal at freed k s found there.
          let e = legal_at (opening_state channels) log j (seat, sync_entry r serials) legal at in
          let same = replied (state_at channels log j) seat r serials e in
          within r x k s (found_by_frames channels log)
          (freed_from [] [] (opening_state channels) log (opening_kept channels) j (seat, sync_entry r serials) r x at refl
          (subst (λ (xs : List ℕ). is_among x xs ≡ true) same freed))
          found there;
    }
