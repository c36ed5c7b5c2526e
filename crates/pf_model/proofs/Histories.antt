-- The empty scene is within the limits, and frames and merges keep a graph there.
use Rattle.std.proofs.Common.{◌≡◌, ℕ, ◌+◌, ◌≤◌, Bool, true, false, cond, ◌&&◌, ◌==◌, List, [], ◌∷◌, map, sum, Option, Some, None, is_some, refl, sym, ◌∙◌, ap, subst, arith}
use Rattle.std.specs.List.{AllByRecursion, IsDistinct, list_all, fold}
use Rattle.std.specs.Option.{option_map_or}
use Rattle.std.proofs.lemmas.Bool.Decides.{nat_tests}
use Rattle.pf_model.specs.declared.nodes.Kind.{Kind}
use Rattle.pf_model.specs.declared.nodes.Kind.TheVariants.{Seq}
use Rattle.pf_model.specs.declared.nodes.Run.{Run}
use Rattle.pf_model.specs.declared.nodes.Run.TheVariants.{Since, Held}
use Rattle.pf_model.specs.declared.nodes.Node.{Node}
use Rattle.pf_model.specs.declared.edits.Edit.{Edit}
use Rattle.pf_model.specs.declared.edits.Fault.{Fault}
use Rattle.pf_model.specs.Fits.{fits}
use Rattle.pf_model.specs.Graphs.{Look, Nodes, SceneGraph, node_at, children_of, greatest, height_in, size_in, height_of, size_of, empty_scene, scene_node}
use Rattle.pf_model.specs.Limits.{HasBegun, HasBegunRun, IsGraphWithinLimits}
use Rattle.pf_model.specs.Edits.{fault_of, effect}
use Rattle.pf_model.specs.Merges.{fault_from, merge_fault, after_all}
use Rattle.pf_model.proofs.Places.{node_at_step}
use Rattle.pf_model.proofs.Levels.{levels_are, height_step, size_step}
use Rattle.pf_model.proofs.Keeping.{IsFine, keeps_of, few_of}
use Rattle.pf_model.proofs.EditLimits.{limits_effect}

scene_found : (b : ℕ) → node_at empty_scene.nodes b ≡ cond (0 == b) (Some scene_node) None
scene_found b = node_at_step b (0, scene_node) []

lone : (t : Bool) → option_map_or (λ (m : Node). m.children) (cond t (Some scene_node) None) [] ≡ []
lone true = refl
lone false = refl

no_children : (b : ℕ) → children_of (node_at empty_scene.nodes) b ≡ []
no_children b = ap (λ o. option_map_or (λ (m : Node). m.children) o []) (scene_found b) ∙ lone (0 == b)

lone_height : (look : Look) (b : ℕ) → children_of look b ≡ [] → height_of look b ≡ 1
lone_height look b none = ap (λ (n : ℕ). height_in n look b) levels_are ∙ height_step 4096 look b ∙ ap (λ cs. 1 + greatest (map (height_in 4096 look) cs)) none

lone_size : (look : Look) (b : ℕ) → children_of look b ≡ [] → size_of look b ≡ 1
lone_size look b none = ap (λ (n : ℕ). size_in n look b) levels_are ∙ size_step 4096 look b ∙ ap (λ cs. 1 + sum (map (size_in 4096 look) cs)) none

only_node : (P : Node → Type 0) → P scene_node → (b : ℕ) (m : Node) → node_at empty_scene.nodes b ≡ Some m → P m
only_node P p b m found = by (0 == b) (sym (scene_found b) ∙ found)
  where
    by : (t : Bool) → cond t (Some scene_node) None ≡ Some m → P m
    by true h = let is : scene_node ≡ m = cc in subst P is p
    by false h = absurd (cc)

pub limits_empty : IsGraphWithinLimits empty_scene
unfolding IsDistinct
limits_empty = record {
  within = record {
    limits = keeps_of (node_at empty_scene.nodes)
        (λ b l. scene_found b ∙ ap (λ t. cond t (Some scene_node) None) (far b l))
        (few_of empty_scene.nodes (tt, tt) (omega arith))
        (only_node (IsFine (node_at empty_scene.nodes)) (record { linked = λ c h. absurd (cc); short = omega arith; root = refl; leaf = λ h. refl; light = λ ts h. absurd (cc) }))
        (λ b. let h : height_of (node_at empty_scene.nodes) b ≡ 1 = lone_height (node_at empty_scene.nodes) b (no_children b) in omega arith)
        (λ b. let s : size_of (node_at empty_scene.nodes) b ≡ 1 = lone_size (node_at empty_scene.nodes) b (no_children b) in omega arith);
    begun = only_node (λ n. HasBegun 1 n.kind) tt;
  };
  rising = (tt, tt);
  scene = refl;
  serials_differ = (tt, tt);
  serials_given = (omega arith, tt);
  born_before = (omega arith, tt);
}
  where
    far : (b : ℕ) → 65536 ≤ b → (0 == b) ≡ false
    far b l = grind (arith, nat_tests)

-- The next frame

run_later : (time : ℕ) (r : Run) → HasBegunRun time r → HasBegunRun (time + 1) r
run_later time (Since s) h = omega arith
run_later time (Held i) h = tt

begun_later : (time : ℕ) (k : Kind) → HasBegun time k → HasBegun (time + 1) k
begun_later time (Seq ts r) h = run_later time r h
begun_later time k h = tt

born_later : (time : ℕ) (xs : Nodes) → AllByRecursion (λ e. e.1.born ≤ time) xs → AllByRecursion (λ e. e.1.born ≤ time + 1) xs
born_later time [] h = tt
born_later time (x ∷ xs) h = (let l : x.1.born ≤ time = h.0 in omega arith, born_later time xs h.1)

pub limits_next : (g : SceneGraph) → IsGraphWithinLimits g → IsGraphWithinLimits (record g { time = g.time + 1 })
limits_next g w = record {
  within = record { limits = w.within.limits; begun = λ b n found. begun_later g.time n.kind (w.within.begun b n found) };
  rising = w.rising;
  scene = w.scene;
  serials_differ = w.serials_differ;
  serials_given = w.serials_given;
  born_before = born_later g.time g.nodes w.born_before;
}

-- Merges

pub limits_edits : (k : ℕ) (g : SceneGraph) (es : List Edit) → IsGraphWithinLimits g → list_all fits es ≡ true → None ≡ fault_from k g es → IsGraphWithinLimits (fold effect g es)
limits_edits k g [] w fit none = w
limits_edits k g (e ∷ es) w fit none = by (λ v h. limits_edits (k + 1) (effect g e) es v (second (fits e) (list_all fits es) fit) h) (fault_of g e) refl none
  where
    first : (p q : Bool) → (p && q) ≡ true → p ≡ true
    first true q h = refl
    first false q h = absurd (cc)

    second : (p q : Bool) → (p && q) ≡ true → q ≡ true
    second true q h = h
    second false q h = absurd (cc)

    by : (IsGraphWithinLimits (effect g e) → None ≡ fault_from (k + 1) (effect g e) es → IsGraphWithinLimits (fold effect (effect g e) es)) → (o : Option Fault) → fault_of g e ≡ o → None ≡ option_map_or (λ f. Some (k, f)) o (fault_from (k + 1) (effect g e) es) → IsGraphWithinLimits (fold effect (effect g e) es)
    by rest None met h = rest (limits_effect g e w (first (fits e) (list_all fits es) fit) (sym met)) h
    by rest (Some f) met h = absurd (cc)

pub limits_merge : (g : SceneGraph) (es : List Edit) → IsGraphWithinLimits g → list_all fits es ≡ true → IsGraphWithinLimits (after_all g es)
limits_merge g es w fit = by (merge_fault g es) refl
  where
    by : (o : Option (ℕ × Fault)) → merge_fault g es ≡ o → IsGraphWithinLimits (cond (is_some (merge_fault g es)) g (fold effect g es))
    by None none = subst (λ (o : Option (ℕ × Fault)). IsGraphWithinLimits (cond (is_some o) g (fold effect g es))) (sym none) (limits_edits 1 g es w fit (sym none))
    by (Some f) met = subst (λ (o : Option (ℕ × Fault)). IsGraphWithinLimits (cond (is_some o) g (fold effect g es))) (sym met) w
