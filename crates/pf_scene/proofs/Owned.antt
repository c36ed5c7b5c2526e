-- A cycle is there only under the serial of a geode, or of a deleted node.
use Rattle.std.proofs.Common.{◌≡◌, ◌⊎◌, inl, inr, ℕ, ◌+◌, ◌<◌, ◌≤◌, Bool, true, false, cond, ◌==◌, ◌||◌, nat_eq, List, [], ◌∷◌, ◌++◌, map, Option, Some, None, is_some, refl, sym, ◌∙◌, ap, subst, arith}
use Rattle.std.proofs.lemmas.Bool.{cases_lt, eq-eqb, eqb-true, false≢true}
use Rattle.std.specs.Option.{option_map}
use Rattle.pf_model.specs.declared.geometry.Tri.{Tri}
use Rattle.pf_model.specs.declared.nodes.Node.{Node}
use Rattle.pf_model.specs.declared.nodes.Gone.{Gone}
use Rattle.pf_model.specs.declared.edits.Fault.TheVariants as fault
use Rattle.pf_model.specs.declared.edits.Edit.{Edit}
use Rattle.pf_model.specs.declared.edits.Edit.TheVariants as edit
use Rattle.pf_model.specs.Kinds.{geom_of, is_geode}
use Rattle.pf_model.specs.Graphs.{SceneGraph, node_at}
use Rattle.pf_model.specs.Limits.{IsGraphWithinLimits}
use Rattle.pf_model.specs.NodeEdits.{node_after}
use Rattle.pf_model.specs.Edits.{fault_of, effect, remains, make_rules}
use Rattle.pf_model.specs.Copies.{named_by}
use Rattle.pf_model.proofs.Finds.{node_at_change, node_at_without}
use Rattle.pf_model.proofs.Named.{node_at_put_any}
use Rattle.pf_model.proofs.Rules.{all_passed, when_not}
use Rattle.update_lists.specs.Marks.{among}
use Rattle.pf_scene.specs.Stock.{Written, HasCycle, IsOther, HasNoGeode}
use Rattle.pf_scene.proofs.Edited.{size_after, serial_kept, geode_by_size}

-- the serials of deleted nodes
abbrev pub gone_serials : List Gone → List ℕ
gone_serials gone = map (λ (x : Gone). x.serial) gone

-- there is no cycle under a serial that was given and that neither a geode nor a deleted node has
abbrev pub AreOwned : Written → SceneGraph → Type 0
AreOwned w g = (s : ℕ) → s < g.next_serial → HasNoGeode s g → among s (gone_serials g.gone) ≡ false → w s ≡ None

among_parts : (s : ℕ) (xs ys : List Gone) → among s (gone_serials (xs ++ ys)) ≡ false → (among s (gone_serials xs) ≡ false) × (among s (gone_serials ys) ≡ false)
among_parts s [] ys h = (refl, h)
among_parts s (x ∷ xs) ys h = by (nat_eq s x.serial) (among_parts s xs ys) h
  where
    by : (t : Bool) → (among s (gone_serials (xs ++ ys)) ≡ false → (among s (gone_serials xs) ≡ false) × (among s (gone_serials ys) ≡ false))
        → (t || among s (gone_serials (xs ++ ys))) ≡ false → ((t || among s (gone_serials xs)) ≡ false) × (among s (gone_serials ys) ≡ false)
    by true rest h = absurd (cc)
    by false rest h = rest h

clash : (a b : ℕ) → b ≡ a → (nat_eq a b || false) ≡ false → ⊥
clash a b e h = differ (nat_eq a b) (eq-eqb a b (sym e)) h
  where
    differ : (t : Bool) → t ≡ true → (t || false) ≡ false → ⊥
    differ true is h = absurd (cc)
    differ false is h = absurd (cc)

-- no geode and no deleted node had a serial before an edit where none has it after
none_before : (g : SceneGraph) (e : Edit) (s : ℕ) → IsGraphWithinLimits g → None ≡ fault_of g e → HasNoGeode s (effect g e) → among s (gone_serials (effect g e).gone) ≡ false
    → HasNoGeode s g × (among s (gone_serials g.gone) ≡ false)
none_before g (edit.Make id kind) s within ok none out =
    (λ b. by b (b == id) refl (node_at g.nodes b) refl (subst (λ (o : Option Node). IsOther s o) (node_at_put_any new id g.nodes b) (none b)), out)
  where
    new : Node
    new = record { serial = g.next_serial; born = g.time; kind = kind; children = [] }

    free : is_some (node_at g.nodes id) ≡ false
    free = when_not (is_some (node_at g.nodes id)) (fault.Taken id) (all_passed (make_rules g.nodes id) ok).0

    by : (b : ℕ) (t : Bool) → (b == id) ≡ t → (o : Option Node) → node_at g.nodes b ≡ o → IsOther s (cond t (Some new) o) → IsOther s o
    by b t is None found h = tt
    by b false is (Some n) found h = h
    by b true is (Some n) found h =
        let there : node_at g.nodes id ≡ Some n = subst (λ (x : ℕ). node_at g.nodes x ≡ Some n) (eqb-true b id is) found in
        absurd (false≢true (sym free ∙ ap is_some there))
none_before g (edit.Delete id) s within ok none out =
    (λ b. by b (b == id) refl (node_at g.nodes b) refl (subst (λ (o : Option Node). IsOther s o) (node_at_without id g.nodes b within.rising) (none b)), parts.0)
  where
    parts : (among s (gone_serials g.gone) ≡ false) × (among s (gone_serials (remains id (node_at g.nodes id))) ≡ false)
    parts = among_parts s g.gone (remains id (node_at g.nodes id)) out

    by : (b : ℕ) (t : Bool) → (b == id) ≡ t → (o : Option Node) → node_at g.nodes b ≡ o → IsOther s (cond t None o) → IsOther s o
    by b t is None found h = tt
    by b false is (Some n) found h = h
    by b true is (Some n) found h = λ geode same.
        let there : node_at g.nodes id ≡ Some n = subst (λ (x : ℕ). node_at g.nodes x ≡ Some n) (eqb-true b id is) found in
        clash s n.serial same (subst (λ (o : Option Node). among s (gone_serials (remains id o)) ≡ false) there parts.1)
none_before g e s within ok none out =
    (λ b. by b (b == named_by e) refl (node_at g.nodes b) refl (subst (λ (o : Option Node). IsOther s o) (node_at_change (node_after g.time e) (named_by e) g.nodes b) (none b)), out)
  where
    by : (b : ℕ) (t : Bool) → (b == named_by e) ≡ t → (o : Option Node) → node_at g.nodes b ≡ o → IsOther s (cond t (option_map (node_after g.time e) o) o) → IsOther s o
    by b t is None found h = tt
    by b false is (Some n) found h = h
    by b true is (Some n) found h = λ geode same.
        let there : node_at g.nodes (named_by e) ≡ Some n = subst (λ (x : ℕ). node_at g.nodes x ≡ Some n) (eqb-true b (named_by e) is) found in
        h (geode_by_size (node_after g.time e n).kind n.kind (size_after g e n there ok) geode) (serial_kept g.time e n ∙ same)

pub owned_effect : (w : Written) (g : SceneGraph) (e : Edit) → IsGraphWithinLimits g → None ≡ fault_of g e → HasCycle w g.next_serial e → AreOwned w g → AreOwned w (effect g e)
owned_effect w g (edit.Make id kind) within ok cycle owned s low none out = by (cases_lt s g.next_serial)
  where
    new : Node
    new = record { serial = g.next_serial; born = g.time; kind = kind; children = [] }

    made : is_geode kind ≡ true → g.next_serial ≡ s → ⊥
    made =
        subst (λ (o : Option Node). IsOther s o)
        (node_at_put_any new id g.nodes id ∙ ap (λ (t : Bool). cond t (Some new) (node_at g.nodes id)) (eq-eqb id id refl)) (none id)

    no_tris : (o : Option (List Tri)) → (is_some o ≡ true → ⊥) → o ≡ None
    no_tris None h = refl
    no_tris (Some ts) h = absurd (h refl)

    last : (n : ℕ) → s < n + 1 → n ≤ s → n ≡ s
    last n l h = omega arith

    by : (s < g.next_serial) ⊎ (g.next_serial ≤ s) → w s ≡ None
    by (inl l) = let before = none_before g (edit.Make id kind) s within ok none out in owned s l before.0 before.1
    by (inr l) =
        let same : g.next_serial ≡ s = last g.next_serial low l in
        subst (λ (x : ℕ). w x ≡ None) same (cycle ∙ no_tris (geom_of kind) (λ some. made some same))
owned_effect w g (edit.Delete id) within ok cycle owned s low none out =
    let before = none_before g (edit.Delete id) s within ok none out in owned s low before.0 before.1
owned_effect w g e within ok cycle owned s low none out =
    let before = none_before g e s within ok none out in owned s low before.0 before.1

-- under no other serial either, where there is none under those to come
pub owned_all : (w : Written) (g : SceneGraph) → AreOwned w g → ((s : ℕ) → g.next_serial ≤ s → w s ≡ None) → (s : ℕ) → HasNoGeode s g → among s (gone_serials g.gone) ≡ false → w s ≡ None
owned_all w g owned fresh s none out = by (cases_lt s g.next_serial)
  where
    by : (s < g.next_serial) ⊎ (g.next_serial ≤ s) → w s ≡ None
    by (inl l) = owned s l none out
    by (inr l) = fresh s l
