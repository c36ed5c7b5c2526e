-- Edits of links keep a graph within the limits.
use Rattle.std.proofs.Common.{◌≡◌, ℕ, ◌<◌, ◌≤◌, Bool, true, false, ◌==◌, nat_lt, nat_le, List, [], ◌∷◌, ◌++◌, length, Option, Some, None, is_some, is_none, ◌⊎◌, inl, inr, refl, sym, ◌∙◌, ap, subst, arith, cond}
use Rattle.std.specs.List.{list_any, insert}
use Rattle.std.specs.Option.{option_map_or, option_map}
use Rattle.std.proofs.lemmas.Bool.{eq-eqb}
use Rattle.std.proofs.lemmas.Bool.Decides.{nat_tests}
use Rattle.pf_model.specs.declared.nodes.Node.{Node}
use Rattle.pf_model.specs.declared.edits.Edit.TheVariants as edit
use Rattle.pf_model.specs.declared.edits.Fault.TheVariants as fault
use Rattle.pf_model.specs.Kinds.{is_geode}
use Rattle.pf_model.specs.Graphs.{Nodes, SceneGraph, node_at, children_of, change, height_of, size_of, levels}
use Rattle.pf_model.specs.Limits.{is_there, IsGraphWithinLimits}
use Rattle.pf_model.specs.Children.{replace_first, drop_first}
use Rattle.pf_model.specs.NodeEdits.{with_children, node_after}
use Rattle.pf_model.specs.Edits.{with_nodes, has_kind, deep, large, child_count, rules, fault_of, effect, greatest_height}
use Rattle.pf_model.proofs.Rules.{all_passed, when_not, there_from}
use Rattle.pf_model.proofs.Keeping.{IsFine, fine_of, limits_change, low_of_rule, small_of_rule, heights_less, sizes_less, FewerChildren}
use Rattle.pf_model.proofs.Finds.{node_at_change}
use Rattle.pf_model.proofs.Members.{holds, holds_appended, holds_inserted, holds_replaced, holds_dropped, length_appended, length_inserted, length_replaced, length_dropped, same_fewer, dropped_fewer}

not_zero : (c : ℕ) → (c == 0) ≡ false → (x : ℕ) → c ≡ x → x ≡ 0 → ⊥
not_zero c h x e z = let k : (c == 0) ≡ true = eq-eqb c 0 (e ∙ z) in let l : true ≡ false = sym k ∙ h in cc

-- a node whose children are made of its own
abbrev with_made : (List ℕ → List ℕ) → Node → Node
with_made h n = with_children (h n.children) n

-- new members are there and are not the scene
pub limits_link : (g : SceneGraph) (p : ℕ) (h : List ℕ → List ℕ) → IsGraphWithinLimits g → has_kind is_geode (node_at g.nodes p) ≡ false
    → ((cs : List ℕ) (x : ℕ) → holds x (h cs) ≡ true → (holds x cs ≡ true) ⊎ ((is_there (node_at g.nodes) x ≡ true) × (x ≡ 0 → ⊥)))
    → ((n : Node) → node_at g.nodes p ≡ Some n → length (h n.children) ≤ 256)
    → ((b : ℕ) → height_of (node_at (change p (with_made h) g.nodes)) b ≤ 32) → ((b : ℕ) → size_of (node_at (change p (with_made h) g.nodes)) b ≤ 131072)
    → IsGraphWithinLimits (with_nodes (change p (with_made h)) g)
limits_link g p h w no_geode members short low small =
    limits_change g p (with_made h) w (record { serial = λ n. refl; born = λ n. refl })
    (λ n found. let fine = fine_of (node_at g.nodes) w.within.limits p n found in record {
      linked = λ c k. linked n fine c (members n.children c k);
      short = short n found;
      root = root n fine (holds 0 (h n.children)) refl;
      leaf = λ k. absurd (leaf n found k);
      light = fine.light;
    })
    (λ n found. w.within.begun p n found) low small
  where
    linked : (n : Node) → IsFine (node_at g.nodes) n → (c : ℕ) → (holds c n.children ≡ true) ⊎ ((is_there (node_at g.nodes) c ≡ true) × (c ≡ 0 → ⊥)) → is_there (node_at g.nodes) c ≡ true
    linked n fine c (inl k) = fine.linked c k
    linked n fine c (inr k) = k.0

    no_root : (n : Node) → IsFine (node_at g.nodes) n → (holds 0 n.children ≡ true) ⊎ ((is_there (node_at g.nodes) 0 ≡ true) × (let zero_is : ℕ = 0 in zero_is ≡ 0 → ⊥)) → ⊥
    no_root n fine (inl k) = let l : true ≡ false = sym k ∙ fine.root in cc
    no_root n fine (inr k) = k.1 refl

    root : (n : Node) → IsFine (node_at g.nodes) n → (t : Bool) → holds 0 (h n.children) ≡ t → t ≡ false
    root n fine true e = absurd (no_root n fine (members n.children 0 e))
    root n fine false e = refl

    leaf : (n : Node) → node_at g.nodes p ≡ Some n → is_geode n.kind ≡ true → ⊥
    leaf n found k = let l : true ≡ false = sym k ∙ sym (ap (λ o. option_map_or (λ (m : Node). is_geode m.kind) o false) found) ∙ no_geode in cc

child_room : (g : Nodes) (p : ℕ) (n : Node) → node_at g p ≡ Some n → nat_le 256 (child_count g p) ≡ false → length n.children < 256
child_room g p n found room = bound (length n.children) (sym (ap (λ o. nat_le 256 (length (option_map_or (λ (m : Node). m.children) o []))) found) ∙ room)
  where
    bound : (k : ℕ) → nat_le 256 k ≡ false → k < 256
    bound k h = grind (arith, nat_tests)

new_member : (g : Nodes) (c x : ℕ) (cs : List ℕ) → is_there (node_at g) c ≡ true → (c == 0) ≡ false → (holds x cs ≡ true) ⊎ (c ≡ x) → (holds x cs ≡ true) ⊎ ((is_there (node_at g) x ≡ true) × (x ≡ 0 → ⊥))
new_member g c x cs there nonzero (inl h) = inl h
new_member g c x cs there nonzero (inr e) = inr (subst (λ (d : ℕ). is_there (node_at g) d ≡ true) e there, not_zero c nonzero x e)

low_of : (xs : Nodes) → None ≡ deep xs → (b : ℕ) → height_of (node_at xs) b ≤ 32
low_of xs none = low_of_rule xs (when_not (nat_lt 32 (greatest_height xs)) (fault.Deep (greatest_height xs)) none)

small_of : (xs : Nodes) → None ≡ large xs → (b : ℕ) → size_of (node_at xs) b ≤ 131072
small_of xs none = small_of_rule xs (when_not (list_any (λ e. nat_lt 131072 (size_of (node_at xs) e.0)) xs) fault.Large none)

pub limits_add : (g : SceneGraph) (p c : ℕ) → IsGraphWithinLimits g → None ≡ fault_of g (edit.Add p c) → IsGraphWithinLimits (effect g (edit.Add p c))
limits_add g p c w none =
    let r = all_passed (rules g (edit.Add p c)) none in
    limits_link g p (λ cs. cs ++ c ∷ []) w (when_not (has_kind is_geode (node_at g.nodes p)) (fault.Kind p) r.1.1.0)
    (λ cs x h. new_member g.nodes c x cs (there_from g.nodes c r.1.0) (when_not (c == 0) (fault.Kind 0) r.1.1.1.0) (holds_appended x c cs h))
    (λ n found. let l : length n.children < 256 = child_room g.nodes p n found (when_not (nat_le 256 (child_count g.nodes p)) (fault.Many 257) r.1.1.1.1.1.0) in omega (arith, length_appended c n.children))
    (low_of (effect g (edit.Add p c)).nodes r.1.1.1.1.1.1.0) (small_of (effect g (edit.Add p c)).nodes r.1.1.1.1.1.1.1.0)

pub limits_insert : (g : SceneGraph) (p i c : ℕ) → IsGraphWithinLimits g → None ≡ fault_of g (edit.Insert p i c) → IsGraphWithinLimits (effect g (edit.Insert p i c))
limits_insert g p i c w none =
    let r = all_passed (rules g (edit.Insert p i c)) none in
    limits_link g p (λ cs. insert cs i c) w (when_not (has_kind is_geode (node_at g.nodes p)) (fault.Kind p) r.1.1.0)
    (λ cs x h. new_member g.nodes c x cs (there_from g.nodes c r.1.0) (when_not (c == 0) (fault.Kind 0) r.1.1.1.0) (holds_inserted x c i cs h))
    (λ n found. let l : length n.children < 256 = child_room g.nodes p n found (when_not (nat_le 256 (child_count g.nodes p)) (fault.Many 257) r.1.1.1.1.1.1.0) in omega (arith, length_inserted c i n.children))
    (low_of (effect g (edit.Insert p i c)).nodes r.1.1.1.1.1.1.1.0) (small_of (effect g (edit.Insert p i c)).nodes r.1.1.1.1.1.1.1.1.0)

pub limits_replace : (g : SceneGraph) (p c b : ℕ) → IsGraphWithinLimits g → None ≡ fault_of g (edit.Replace p c b) → IsGraphWithinLimits (effect g (edit.Replace p c b))
limits_replace g p c b w none =
    let r = all_passed (rules g (edit.Replace p c b)) none in
    limits_link g p (replace_first c b) w (when_not (has_kind is_geode (node_at g.nodes p)) (fault.Kind p) r.1.1.1.0)
    (λ cs x h. new_member g.nodes b x cs (there_from g.nodes b r.1.1.0) (when_not (b == 0) (fault.Kind 0) r.1.1.1.1.0) (holds_replaced x c b cs h))
    (λ n found. let l : length n.children ≤ 256 = (fine_of (node_at g.nodes) w.within.limits p n found).short in omega (arith, length_replaced c b n.children))
    (low_of (effect g (edit.Replace p c b)).nodes r.1.1.1.1.1.1.1.0) (small_of (effect g (edit.Replace p c b)).nodes r.1.1.1.1.1.1.1.1.0)

fewer_removed : (c p : ℕ) (xs : Nodes) (b : ℕ) → FewerChildren (children_of (node_at (change p (with_made (drop_first c)) xs)) b) (children_of (node_at xs) b)
fewer_removed c p xs b =
    subst (λ (cs : List ℕ). FewerChildren cs (children_of (node_at xs) b)) (sym (ap (λ o. option_map_or (λ (m : Node). m.children) o []) (node_at_change (with_made (drop_first c)) p xs b)))
    (by (b == p) (node_at xs b))
  where
    by : (t : Bool) (o : Option Node) → FewerChildren (option_map_or (λ (m : Node). m.children) (cond t (option_map (with_made (drop_first c)) o) o) []) (option_map_or (λ (m : Node). m.children) o [])
    by true None = same_fewer []
    by true (Some n) = dropped_fewer c n.children
    by false o = same_fewer (option_map_or (λ (m : Node). m.children) o [])

pub limits_remove : (g : SceneGraph) (p c : ℕ) → IsGraphWithinLimits g → None ≡ fault_of g (edit.Remove p c) → IsGraphWithinLimits (effect g (edit.Remove p c))
limits_remove g p c w none =
    let r = all_passed (rules g (edit.Remove p c)) none in
    limits_link g p (drop_first c) w (when_not (has_kind is_geode (node_at g.nodes p)) (fault.Kind p) r.1.1.0)
    (λ cs x h. inl (holds_dropped x c cs h))
    (λ n found. let l : length n.children ≤ 256 = (fine_of (node_at g.nodes) w.within.limits p n found).short in let k : length (drop_first c n.children) ≤ length n.children = length_dropped c n.children in omega arith)
    (λ b. let l : height_of (node_at after) b ≤ height_of (node_at g.nodes) b = heights_less (node_at after) (node_at g.nodes) (fewer_removed c p g.nodes) levels b in let k : height_of (node_at g.nodes) b ≤ 32 = w.within.limits.low b in omega arith)
    (λ b. let l : size_of (node_at after) b ≤ size_of (node_at g.nodes) b = sizes_less (node_at after) (node_at g.nodes) (fewer_removed c p g.nodes) levels b in let k : size_of (node_at g.nodes) b ≤ 131072 = w.within.limits.small b in omega arith)
  where
    after : Nodes
    after = change p (with_made (drop_first c)) g.nodes
