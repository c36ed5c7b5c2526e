-- The copy that the cuts keep has the nodes of each Frame's graph.
use Rattle.std.proofs.Common.{◌≡◌, ℕ, suc, zero, Bool, true, false, cond, ◌==◌, nat_lt, List, [], ◌∷◌, map, take, is_some, slice_get, Some, refl, sym, ◌∙◌, ap, subst, arith, add-one, eqb-true, eq-eqb}
use Rattle.std.proofs.lemmas.Bool.{or_parts, or_from}
use Rattle.std.proofs.lemmas.Bool.Decides.{nat_tests}
use Rattle.std.proofs.lemmas.Option.{same_Some}
use Rattle.std.specs.List.{fold, list_any}
use Rattle.pf_model.specs.declared.edits.Edit.{Edit}
use Rattle.pf_model.specs.Graphs.{SceneGraph, Nodes, node_at, empty_scene}
use Rattle.pf_model.specs.Edits.{fault_of, effect}
use Rattle.pf_model.specs.Merges.{merge_fault}
use Rattle.pf_model.specs.Limits.{IsRising}
use Rattle.pf_model.specs.Copies.{named_by, updated, updated_by, put_in, put_all, updates_of}
use Rattle.pf_model.proofs.Named.{nodes_same, effect_rising, only_named, node_at_updated, updated_rising, updated_by_rising}
use Rattle.pf_history.specs.declared.commands.Command.{Command}
use Rattle.pf_history.specs.declared.commands.Command.TheVariants as command
use Rattle.pf_history.specs.Objects.{FrameState, opening_state, next_state}
use Rattle.pf_history.specs.Commands.{is_frame}
use Rattle.pf_history.specs.Logs.{Log}
use Rattle.pf_history.specs.Cuts.{names, Cutting, cuttings, cut_at}
use Rattle.pf_history.specs.CutLaws.{CopyLaw}

-- the ids of these nodes rise
abbrev pub AreRising : Nodes → Type 0
AreRising nodes = IsRising (map (λ e. e.0) nodes)

other_way : (a b : ℕ) → (a == b) ≡ false → (b == a) ≡ false
other_way a b h = grind (arith, nat_tests)

-- Members of a list of ids

abbrev pub among : ℕ → List ℕ → Bool
among id ids = list_any (λ x. x == id) ids

effects_elsewhere : (g : SceneGraph) (es : List Edit) (id : ℕ) → AreRising g.nodes → among id (map named_by es) ≡ false → node_at (fold effect g es).nodes id ≡ node_at g.nodes id
effects_elsewhere g [] id rising none = refl
effects_elsewhere g (e ∷ es) id rising none =
    let n = or_parts (named_by e == id) (among id (map named_by es)) none in
    effects_elsewhere (effect g e) es id (effect_rising g e rising) n.1 ∙ only_named g e id rising (other_way (named_by e) id n.0)

-- a command changes the nodes of the ids that it names alone
names_elsewhere : (s : FrameState) (c : Command) (id : ℕ) → AreRising s.graph.nodes → among id (names s c) ≡ false → node_at (next_state s c).graph.nodes id ≡ node_at s.graph.nodes id
names_elsewhere s (command.Edit e) id rising none = by (is_some (fault_of s.graph e)) none
  where
    by : (t : Bool) → among id (cond t [] (named_by e ∷ [])) ≡ false → node_at (cond t s.graph (effect s.graph e)).nodes id ≡ node_at s.graph.nodes id
    by true h = refl
    by false h = only_named s.graph e id rising (other_way (named_by e) id (or_parts (named_by e == id) false h).0)
names_elsewhere s (command.Merge m) id rising none = by (is_some (merge_fault s.graph m.edits)) none
  where
    by : (t : Bool) → among id (cond t [] (map named_by m.edits)) ≡ false → node_at (cond t s.graph (fold effect s.graph m.edits)).nodes id ≡ node_at s.graph.nodes id
    by true h = refl
    by false h = effects_elsewhere s.graph m.edits id rising h
names_elsewhere s (command.View channel v) id rising none = refl
names_elsewhere s (command.Sync r) id rising none = refl
names_elsewhere s command.Frame id rising none = refl

put_in_none : (x id : ℕ) (ys : List ℕ) → among id (put_in x ys) ≡ false → ((x == id) ≡ false) × (among id ys ≡ false)
put_in_none x id [] none = or_parts (x == id) false none
put_in_none x id (y ∷ ys) none = by (nat_lt x y) (y == x) refl (put_in_none x id ys) none
  where
    by : (t u : Bool) → (y == x) ≡ u → (among id (put_in x ys) ≡ false → ((x == id) ≡ false) × (among id ys ≡ false)) →
        among id (cond t (x ∷ y ∷ ys) (cond u (y ∷ ys) (y ∷ put_in x ys))) ≡ false → ((x == id) ≡ false) × (among id (y ∷ ys) ≡ false)
    by true u e rest h = or_parts (x == id) (among id (y ∷ ys)) h
    by false true e rest h = (subst (λ (n : ℕ). (n == id) ≡ false) (eqb-true y x e) (or_parts (y == id) (among id ys) h).0, h)
    by false false e rest h =
        let n = or_parts (y == id) (among id (put_in x ys)) h in
        let r = rest n.1 in
        (r.0, or_from (y == id) (among id ys) n.0 r.1)

put_all_none : (id : ℕ) (xs ys : List ℕ) → among id (put_all xs ys) ≡ false → (among id xs ≡ false) × (among id ys ≡ false)
put_all_none id [] ys none = (refl, none)
put_all_none id (x ∷ xs) ys none =
    let r = put_all_none id xs (put_in x ys) none in
    let p = put_in_none x id ys r.1 in
    (or_from (x == id) (among id xs) p.0 r.0, p.1)

-- An update list

-- what agrees with the nodes outside the ids agrees with them once these ids are updated
updates_agree : (nodes : Nodes) (ids : List ℕ) (xs : Nodes) (id : ℕ) → AreRising xs → (among id ids ≡ false → node_at xs id ≡ node_at nodes id) → node_at (updated_by xs (updates_of (node_at nodes) ids)) id ≡ node_at nodes id
updates_agree nodes [] xs id rising agree = agree refl
updates_agree nodes (x ∷ ids) xs id rising agree =
    updates_agree nodes ids (updated xs (x, node_at nodes x)) id (updated_rising xs (x, node_at nodes x) rising)
    (λ none. node_at_updated xs (x, node_at nodes x) id rising ∙ by (x == id) refl none)
  where
    by : (t : Bool) → (x == id) ≡ t → among id ids ≡ false → cond (id == x) (node_at nodes x) (node_at xs id) ≡ node_at nodes id
    by true e none =
        let same : id ≡ x = sym (eqb-true x id e) in
        ap (λ u. cond u (node_at nodes x) (node_at xs id)) (eq-eqb id x same) ∙ ap (node_at nodes) (sym same)
    by false e none =
        ap (λ u. cond u (node_at nodes x) (node_at xs id)) (other_way x id e) ∙ agree (or_from (x == id) (among id ids) e none)

-- Nodes in rising order of their ids

effects_rising : (es : List Edit) (g : SceneGraph) → AreRising g.nodes → AreRising (fold effect g es).nodes
effects_rising [] g rising = rising
effects_rising (e ∷ es) g rising = effects_rising es (effect g e) (effect_rising g e rising)

pub next_rising : (s : FrameState) (c : Command) → AreRising s.graph.nodes → AreRising (next_state s c).graph.nodes
next_rising s (command.Edit e) rising = by (is_some (fault_of s.graph e))
  where
    by : (t : Bool) → AreRising (cond t s.graph (effect s.graph e)).nodes
    by true = rising
    by false = effect_rising s.graph e rising
next_rising s (command.Merge m) rising = by (is_some (merge_fault s.graph m.edits))
  where
    by : (t : Bool) → AreRising (cond t s.graph (fold effect s.graph m.edits)).nodes
    by true = rising
    by false = effects_rising m.edits s.graph rising
next_rising s (command.View channel v) rising = rising
next_rising s (command.Sync r) rising = rising
next_rising s command.Frame rising = rising

-- Copies along a log

-- each Frame's update list makes of the copy the nodes that the Frame found
abbrev pub CopiesRight : Nodes → List Cutting → Type 0
CopiesRight copy [] = Unit {0}
CopiesRight copy (c ∷ cs) = (updated_by copy (cut_at c) ≡ c.found.graph.nodes) × CopiesRight (updated_by copy (cut_at c)) cs

is_frame_same : (s : FrameState) (c : Command) → is_frame c ≡ true → (next_state s c).graph.nodes ≡ s.graph.nodes
is_frame_same s (command.Edit e) h = absurd (cc)
is_frame_same s (command.Merge m) h = absurd (cc)
is_frame_same s (command.View channel v) h = absurd (cc)
is_frame_same s (command.Sync r) h = absurd (cc)
is_frame_same s command.Frame h = refl

pub copies_right : (copy : Nodes) (ids : List ℕ) (s : FrameState) (log : Log) → AreRising copy → AreRising s.graph.nodes → ((id : ℕ) → among id ids ≡ false → node_at copy id ≡ node_at s.graph.nodes id) → CopiesRight copy (cuttings ids s log)
copies_right copy ids s [] rc rg agree = tt
copies_right copy ids s (e ∷ es) rc rg agree =
    by (is_frame e.1.command) refl
    (λ is.
    copies_right (updated_by copy (updates_of (node_at s.graph.nodes) ids)) [] (next_state s e.1.command) es (updated_by_rising copy (updates_of (node_at s.graph.nodes) ids) rc) (next_rising s e.1.command rg)
    (λ id none. updates_agree s.graph.nodes ids copy id rc (agree id) ∙ sym (ap (λ (n : Nodes). node_at n id) (is_frame_same s e.1.command is))))
    (copies_right copy (put_all (names s e.1.command) ids) (next_state s e.1.command) es rc (next_rising s e.1.command rg)
    (λ id none.
    let n = put_all_none id (names s e.1.command) ids none in
    agree id n.1 ∙ sym (names_elsewhere s e.1.command id rg n.0)))
  where
    here : updated_by copy (updates_of (node_at s.graph.nodes) ids) ≡ s.graph.nodes
    here =
        nodes_same (updated_by copy (updates_of (node_at s.graph.nodes) ids)) s.graph.nodes (updated_by_rising copy (updates_of (node_at s.graph.nodes) ids) rc) rg
        (λ id. updates_agree s.graph.nodes ids copy id rc (agree id))

    by : (t : Bool) → is_frame e.1.command ≡ t →
        (is_frame e.1.command ≡ true → CopiesRight (updated_by copy (updates_of (node_at s.graph.nodes) ids)) (cuttings [] (next_state s e.1.command) es)) →
        CopiesRight copy (cuttings (put_all (names s e.1.command) ids) (next_state s e.1.command) es) →
        CopiesRight copy (cond t (record { ids = ids; found = s } ∷ cuttings [] (next_state s e.1.command) es) (cuttings (put_all (names s e.1.command) ids) (next_state s e.1.command) es))
    by true is framed passed = (here, framed is)
    by false is framed passed = passed

copies_at : (copy : Nodes) (cs : List Cutting) (k : ℕ) (s : FrameState) → CopiesRight copy cs → slice_get (map (λ c. c.found) cs) k ≡ Some s → fold updated_by copy (take (suc k) (map cut_at cs)) ≡ s.graph.nodes
copies_at copy [] k s right at = absurd (cc)
copies_at copy (c ∷ cs) zero s right at = right.0 ∙ ap (λ (x : FrameState). x.graph.nodes) (same_Some c.found s at)
copies_at copy (c ∷ cs) (suc k) s right at = copies_at (updated_by copy (cut_at c)) cs k s right.1 at

pub copy_law : CopyLaw
copy_law channels log k s at =
    rw (add-one k) (copies_at empty_scene.nodes (cuttings [] (opening_state channels) log) k s (copies_right empty_scene.nodes [] (opening_state channels) log (tt, tt) (tt, tt) (λ id none. refl)) at)
