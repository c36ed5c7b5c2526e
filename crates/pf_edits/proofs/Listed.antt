-- The list of nodes is told by its look-up.
use Rattle.std.proofs.Common.{◌≡◌, ℕ, zero, suc, ◌+◌, ◌<◌, false, cond, ◌==◌, List, [], ◌∷◌, map, length, Option, Some, None, is_some, refl, sym, ◌∙◌, ap, subst, arith, zero-add, add-zero}
use Rattle.std.specs.List.{AllByRecursion, count_by}
use Rattle.std.specs.Option.{option_map}
use Rattle.std.proofs.lemmas.List.Sums.{sum_by-cons}
use Rattle.std.proofs.lemmas.Bool.{eq-eqb}
use Rattle.std.proofs.lemmas.Bool.Decides.{nat_tests}
use Rattle.pf_model.specs.declared.nodes.Node.{Node}
use Rattle.pf_model.specs.Graphs.{Nodes, node_at, change, put, without}
use Rattle.pf_model.specs.Limits.{IsRising}
use Rattle.pf_model.proofs.Places.{funext, node_at_step, put_rising}
use Rattle.pf_model.proofs.Changes.{without_rising}
use Rattle.pf_model.proofs.Finds.{none_above, node_at_change, node_at_without, ids_change}
use Rattle.pf_model.proofs.Named.{nodes_same, node_at_put_any}
use Rattle.pf_edits.specs.declared.records.Record.{Record}
use Rattle.pf_edits.specs.Tables.{Slots}
use Rattle.pf_edits.specs.Extents.{look_of}
use Rattle.pf_edits.specs.Listed.{nodes_from, nodes_of}

above_from : (m k : ℕ) (slots : Slots) → m < k → AllByRecursion (λ y. m < y) (map (λ (e : ℕ × Node). e.0) (nodes_from k slots))
above_from m k [] l = tt
above_from m k (None ∷ rest) l = above_from m (k + 1) rest (omega arith)
above_from m k (Some r ∷ rest) l = (l, above_from m (k + 1) rest (omega arith))

rising_from : (k : ℕ) (slots : Slots) → IsRising (map (λ (e : ℕ × Node). e.0) (nodes_from k slots))
rising_from k [] = tt
rising_from k (None ∷ rest) = rising_from (k + 1) rest
rising_from k (Some r ∷ rest) = (above_from k (k + 1) rest (omega arith), rising_from (k + 1) rest)

pub rising : (slots : Slots) → IsRising (map (λ (e : ℕ × Node). e.0) (nodes_of slots))
rising slots = rising_from 0 slots

pub count_is : (k : ℕ) (slots : Slots) → length (nodes_from k slots) ≡ count_by is_some slots
count_is k [] = refl
count_is k (None ∷ rest) = count_is (k + 1) rest ∙ sym (sum_by-cons (λ (o : Option Record). cond (is_some o) 1 0) None rest ∙ zero-add (count_by is_some rest))
count_is k (Some r ∷ rest) =
    ap suc (count_is (k + 1) rest)
    ∙ sym (sum_by-cons (λ (o : Option Record). cond (is_some o) 1 0) (Some r) rest ∙ one_more (count_by is_some rest))
  where
    one_more : (n : ℕ) → 1 + n ≡ suc n
    one_more n = omega arith

found_from : (k i : ℕ) (slots : Slots) → node_at (nodes_from k slots) (k + i) ≡ look_of slots i
found_from k i [] = refl
found_from k zero (None ∷ rest) = ap (node_at (nodes_from (k + 1) rest)) (add-zero k) ∙ none_above k (nodes_from (k + 1) rest) (above_from k (k + 1) rest (omega arith))
found_from k (suc i) (None ∷ rest) = ap (node_at (nodes_from (k + 1) rest)) (moved k i) ∙ found_from (k + 1) i rest
  where
    moved : (a b : ℕ) → a + suc b ≡ a + 1 + b
    moved a b = omega arith
found_from k zero (Some r ∷ rest) =
    node_at_step (k + 0) (k, r.node) (nodes_from (k + 1) rest)
    ∙ ap (λ t. cond t (Some r.node) (node_at (nodes_from (k + 1) rest) (k + 0))) (eq-eqb k (k + 0) (sym (add-zero k)))
found_from k (suc i) (Some r ∷ rest) =
    node_at_step (k + suc i) (k, r.node) (nodes_from (k + 1) rest)
    ∙ ap (λ t. cond t (Some r.node) (node_at (nodes_from (k + 1) rest) (k + suc i))) (apart k i)
    ∙ ap (node_at (nodes_from (k + 1) rest)) (moved k i) ∙ found_from (k + 1) i rest
  where
    moved : (a b : ℕ) → a + suc b ≡ a + 1 + b
    moved a b = omega arith

    apart : (a b : ℕ) → (a == (a + suc b)) ≡ false
    apart a b = grind (arith, nat_tests)

pub found : (slots : Slots) (b : ℕ) → node_at (nodes_of slots) b ≡ look_of slots b
found slots b = ap (node_at (nodes_of slots)) (sym (zero-add b)) ∙ found_from 0 b slots

pub looks : (slots : Slots) → node_at (nodes_of slots) ≡ look_of slots
looks slots = funext (node_at (nodes_of slots)) (look_of slots) (found slots)

pub nodes_are : (slots : Slots) (nodes : Nodes) → IsRising (map (λ e. e.0) nodes) → ((b : ℕ) → look_of slots b ≡ node_at nodes b) → nodes_of slots ≡ nodes
nodes_are slots nodes up same = nodes_same (nodes_of slots) nodes (rising slots) up (λ b. found slots b ∙ same b)

pub same_nodes : (s t : Slots) → ((b : ℕ) → look_of t b ≡ look_of s b) → nodes_of t ≡ nodes_of s
same_nodes s t same = nodes_are t (nodes_of s) (rising s) (λ b. same b ∙ sym (found s b))

pub changed_nodes : (s t : Slots) (id : ℕ) (f : Node → Node) → ((b : ℕ) → look_of t b ≡ cond (b == id) (option_map f (look_of s b)) (look_of s b)) → nodes_of t ≡ change id f (nodes_of s)
changed_nodes s t id f same =
    nodes_are t (change id f (nodes_of s)) (subst (λ (is : List ℕ). IsRising is) (sym (ids_change f id (nodes_of s))) (rising s))
    (λ b. same b ∙ ap (λ o. cond (b == id) (option_map f o) o) (sym (found s b)) ∙ sym (node_at_change f id (nodes_of s) b))

pub put_nodes : (s t : Slots) (id : ℕ) (n : Node) → ((b : ℕ) → look_of t b ≡ cond (b == id) (Some n) (look_of s b)) → nodes_of t ≡ put id n (nodes_of s)
put_nodes s t id n same =
    nodes_are t (put id n (nodes_of s)) (put_rising id n (nodes_of s) (rising s))
    (λ b. same b ∙ ap (λ o. cond (b == id) (Some n) o) (sym (found s b)) ∙ sym (node_at_put_any n id (nodes_of s) b))

pub without_nodes : (s t : Slots) (id : ℕ) → ((b : ℕ) → look_of t b ≡ cond (b == id) None (look_of s b)) → nodes_of t ≡ without id (nodes_of s)
without_nodes s t id same =
    nodes_are t (without id (nodes_of s)) (without_rising id (nodes_of s) (rising s))
    (λ b. same b ∙ ap (λ o. cond (b == id) None o) (sym (found s b)) ∙ sym (node_at_without id (nodes_of s) b (rising s)))
