-- A node is some node's child where one of its noted parents has it as a child.
use Rattle.std.proofs.Common.{◌≡◌, ℕ, Bool, true, false, cond, ◌||◌, ◌==◌, List, [], ◌∷◌, Option, Some, None, refl, sym, ◌∙◌, ap, subst, ◌⊎◌, inl, inr}
use Rattle.std.specs.List.{list_any}
use Rattle.std.specs.Option.{option_map_or}
use Rattle.std.proofs.lemmas.Bool.{eqb-true}
use Rattle.pf_model.specs.declared.nodes.Node.{Node}
use Rattle.pf_model.specs.Graphs.{Look, Nodes, node_at, has_id}
use Rattle.pf_model.specs.Limits.{has_child}
use Rattle.pf_model.proofs.Places.{node_at_step, all_found, AreFound}
use Rattle.pf_edits.specs.Tables.{Slots}
use Rattle.pf_edits.specs.Ways.{is_in}
use Rattle.pf_edits.specs.Extents.{look_of, parents_of, IsSound}
use Rattle.pf_edits.specs.Listed.{nodes_of}
use Rattle.pf_edits.proofs.Ups.{head_or_rest, ahead, behind, not_true}
use Rattle.pf_edits.proofs.Relinks.{any_case}
use Rattle.pf_edits.proofs.Listed.{looks, found, rising}

-- a node that has a child is listed
pub listed : (nodes : Nodes) (y id : ℕ) → has_child (node_at nodes) y id ≡ true → list_any (λ (e : ℕ × Node). list_any (λ c. c == id) e.1.children) nodes ≡ true
listed nodes y id h = by (node_at nodes y) refl h
  where
    entry : (n : Node) → is_in id n.children ≡ true → (es : Nodes) → node_at es y ≡ Some n → list_any (λ (e : ℕ × Node). list_any (λ c. c == id) e.1.children) es ≡ true
    entry n k [] e = absurd (cc)
    entry n k (x ∷ xs) e = at (entry n k xs) (has_id y x) refl
      where
        at : (node_at xs y ≡ Some n → list_any (λ (e : ℕ × Node). list_any (λ c. c == id) e.1.children) xs ≡ true) → (t : Bool) → has_id y x ≡ t
            → (list_any (λ c. c == id) x.1.children || list_any (λ (e : ℕ × Node). list_any (λ c. c == id) e.1.children) xs) ≡ true
        at rest true f =
            let s : Some x.1 ≡ Some n = sym (node_at_step y x xs ∙ ap (λ t. cond t (Some x.1) (node_at xs y)) f) ∙ e in
            let same : n ≡ x.1 = cc in
            ahead (list_any (λ c. c == id) x.1.children) (list_any (λ (e : ℕ × Node). list_any (λ c. c == id) e.1.children) xs) (subst (λ (m : Node). is_in id m.children ≡ true) same k)
        at rest false f = behind (list_any (λ c. c == id) x.1.children) (list_any (λ (e : ℕ × Node). list_any (λ c. c == id) e.1.children) xs) (rest (sym (node_at_step y x xs ∙ ap (λ t. cond t (Some x.1) (node_at xs y)) f) ∙ e))

    by : (o : Option Node) → node_at nodes y ≡ o → list_any (λ c. c == id) (option_map_or (λ n. n.children) o []) ≡ true → list_any (λ (e : ℕ × Node). list_any (λ c. c == id) e.1.children) nodes ≡ true
    by None e k = absurd (cc)
    by (Some n) e k = entry n k nodes e

-- a listed node with the child has it
unlisted : (nodes es : Nodes) (id : ℕ) → AreFound nodes es → list_any (λ (e : ℕ × Node). list_any (λ c. c == id) e.1.children) es ≡ true → (y : ℕ) × (has_child (node_at nodes) y id ≡ true)
unlisted nodes [] id found h = absurd (cc)
unlisted nodes (e ∷ es) id found h = by (unlisted nodes es id found.1) (head_or_rest (list_any (λ c. c == id) e.1.children) (list_any (λ (e : ℕ × Node). list_any (λ c. c == id) e.1.children) es) h)
  where
    by : (list_any (λ (e : ℕ × Node). list_any (λ c. c == id) e.1.children) es ≡ true → (y : ℕ) × (has_child (node_at nodes) y id ≡ true))
        → (list_any (λ c. c == id) e.1.children ≡ true) ⊎ (list_any (λ (e : ℕ × Node). list_any (λ c. c == id) e.1.children) es ≡ true) → (y : ℕ) × (has_child (node_at nodes) y id ≡ true)
    by rest (inl k) = (e.0, ap (λ o. list_any (λ c. c == id) (option_map_or (λ (n : Node). n.children) o [])) found.0 ∙ k)
    by rest (inr k) = rest k

pub used_is : (slots : Slots) → IsSound slots → (id : ℕ) → list_any (λ p. has_child (look_of slots) p id) (parents_of slots id) ≡ list_any (λ (e : ℕ × Node). list_any (λ c. c == id) e.1.children) (nodes_of slots)
used_is slots sound id = by (list_any (λ p. has_child (look_of slots) p id) (parents_of slots id)) refl (list_any (λ (e : ℕ × Node). list_any (λ c. c == id) e.1.children) (nodes_of slots)) refl
  where
    down : list_any (λ p. has_child (look_of slots) p id) (parents_of slots id) ≡ true → list_any (λ (e : ℕ × Node). list_any (λ c. c == id) e.1.children) (nodes_of slots) ≡ true
    down h = any_case (λ p. has_child (look_of slots) p id) (parents_of slots id) h (λ y on k. listed (nodes_of slots) y id (subst (λ (f : Look). has_child f y id ≡ true) (sym (looks slots)) k))

    noted : (y : ℕ) → has_child (look_of slots) y id ≡ true → (ps : List ℕ) → is_in y ps ≡ true → list_any (λ p. has_child (look_of slots) p id) ps ≡ true
    noted y k [] h = absurd (cc)
    noted y k (p ∷ ps) h = at (noted y k ps) (head_or_rest (p == y) (is_in y ps) h)
      where
        at : (is_in y ps ≡ true → list_any (λ p. has_child (look_of slots) p id) ps ≡ true) → ((p == y) ≡ true) ⊎ (is_in y ps ≡ true) → (has_child (look_of slots) p id || list_any (λ p. has_child (look_of slots) p id) ps) ≡ true
        at rest (inl e) = ahead (has_child (look_of slots) p id) (list_any (λ p. has_child (look_of slots) p id) ps) (subst (λ (q : ℕ). has_child (look_of slots) q id ≡ true) (sym (eqb-true p y e)) k)
        at rest (inr g) = behind (has_child (look_of slots) p id) (list_any (λ p. has_child (look_of slots) p id) ps) (rest g)

    up : list_any (λ (e : ℕ × Node). list_any (λ c. c == id) e.1.children) (nodes_of slots) ≡ true → list_any (λ p. has_child (look_of slots) p id) (parents_of slots id) ≡ true
    up h =
        let u = unlisted (nodes_of slots) (nodes_of slots) id (all_found (nodes_of slots) (rising slots)) h in
        let k : has_child (look_of slots) u.0 id ≡ true = subst (λ (f : Look). has_child f u.0 id ≡ true) (looks slots) u.1 in
        noted u.0 k (parents_of slots id) (sound.noted u.0 id k)

    by : (s : Bool) → list_any (λ p. has_child (look_of slots) p id) (parents_of slots id) ≡ s → (t : Bool) → list_any (λ (e : ℕ × Node). list_any (λ c. c == id) e.1.children) (nodes_of slots) ≡ t → s ≡ t
    by true e true f = refl
    by true e false f = absurd (not_true (down e) f)
    by false e true f = absurd (not_true (up f) e)
    by false e false f = refl
