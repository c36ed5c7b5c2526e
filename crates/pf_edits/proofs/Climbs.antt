-- Going up from a node, parent by parent.
use Rattle.std.proofs.Common.{◌≡◌, ℕ, ◌+◌, ◌<◌, Bool, true, false, cond, ◌||◌, ◌==◌, ◌⊎◌, inl, inr, List, ◌∷◌, length, get_or, take, refl, sym, ◌∙◌, subst}
use Rattle.std.proofs.lemmas.Bool.{eqb-true, eq-eqb}
use Rattle.std.proofs.lemmas.List.Folds.{list_any_more}
use Rattle.pf_model.specs.Graphs.{Look, is_below}
use Rattle.pf_model.specs.Limits.{has_child}
use Rattle.pf_model.specs.Laws.{AreLow}
use Rattle.pf_edits.specs.Ways.{is_in, LeadUp}
use Rattle.pf_edits.proofs.Ups.{head_or_rest, ahead, behind}
use Rattle.pf_edits.proofs.Relinks.{above_more}

-- What is known of a way up from a node after some of its parents.
pub record HasClimbed (look : Look) (start : List ℕ) (id : ℕ) (parents way : List ℕ) : Type 0 where
  pub leads : LeadUp look way
  pub kept : (b : ℕ) → is_in b start ≡ true → is_in b way ≡ true
  pub above : (b : ℕ) → is_in b way ≡ true → (is_in b start || (b == id || is_below look b id)) ≡ true
  pub met : (p : ℕ) → is_in p parents ≡ true → has_child look p id ≡ true → is_in p way ≡ true

-- one more parent, on the way by now where it has the node as a child
pub met_more : (look : Look) (id : ℕ) (parents : List ℕ) (i : ℕ) (way more : List ℕ) → i < length parents → ((b : ℕ) → is_in b way ≡ true → is_in b more ≡ true)
    → (has_child look (get_or parents i 0) id ≡ true → is_in (get_or parents i 0) more ≡ true)
    → ((p : ℕ) → is_in p (take i parents) ≡ true → has_child look p id ≡ true → is_in p way ≡ true)
    → (p : ℕ) → is_in p (take (i + 1) parents) ≡ true → has_child look p id ≡ true → is_in p more ≡ true
met_more look id parents i way more h kept this met p on is =
    by (head_or_rest (is_in p (take i parents)) (get_or parents i 0 == p) (sym (list_any_more (λ other. other == p) parents i 0 h) ∙ on))
  where
    by : (is_in p (take i parents) ≡ true) ⊎ ((get_or parents i 0 == p) ≡ true) → is_in p more ≡ true
    by (inl k) = kept p (met p k is)
    by (inr e) =
        let s : get_or parents i 0 ≡ p = eqb-true (get_or parents i 0) p e in
        subst (λ (q : ℕ). is_in q more ≡ true) s (this (subst (λ (q : ℕ). has_child look q id ≡ true) (sym s) is))

-- after a parent was climbed from
pub climbed_more : (look : Look) → AreLow look → (start : List ℕ) (id : ℕ) (parents : List ℕ) (i : ℕ) (way more : List ℕ) → i < length parents
    → HasClimbed look start id (take i parents) way
    → has_child look (get_or parents i 0) id ≡ true
    → LeadUp look more → is_in (get_or parents i 0) more ≡ true → ((b : ℕ) → is_in b way ≡ true → is_in b more ≡ true)
    → ((b : ℕ) → is_in b more ≡ true → (is_in b way || (b == get_or parents i 0 || is_below look b (get_or parents i 0))) ≡ true)
    → HasClimbed look start id (take (i + 1) parents) more
climbed_more look low start id parents i way more h so is leads member kept above = record {
  leads = leads;
  kept = λ b k. kept b (so.kept b k);
  above = λ b k. by b (head_or_rest (is_in b way) (b == get_or parents i 0 || is_below look b (get_or parents i 0)) (above b k));
  met = met_more look id parents i way more h kept (λ k. member) so.met;
}
  where
    by : (b : ℕ) → (is_in b way ≡ true) ⊎ ((b == get_or parents i 0 || is_below look b (get_or parents i 0)) ≡ true) → (is_in b start || (b == id || is_below look b id)) ≡ true
    by b (inl k) = so.above b k
    by b (inr k) = behind (is_in b start) (b == id || is_below look b id) (behind (b == id) (is_below look b id) (above_more look low b (get_or parents i 0) id is k))

-- where a parent is on the way, or has the node as a child no more
pub climbed_past : (look : Look) (start : List ℕ) (id : ℕ) (parents : List ℕ) (i : ℕ) (way : List ℕ) → i < length parents
    → HasClimbed look start id (take i parents) way → (has_child look (get_or parents i 0) id ≡ true → is_in (get_or parents i 0) way ≡ true)
    → HasClimbed look start id (take (i + 1) parents) way
climbed_past look start id parents i way h so this = record {
  leads = so.leads;
  kept = so.kept;
  above = so.above;
  met = met_more look id parents i way way h (λ b k. k) this so.met;
}

-- the node itself, once all its parents are on the way
pub climbed_all : (look : Look) (start : List ℕ) (id : ℕ) (parents way more : List ℕ) → ((y : ℕ) → has_child look y id ≡ true → is_in y parents ≡ true)
    → HasClimbed look start id parents way → more ≡ cond (is_in id way) way (id ∷ way)
    → LeadUp look more × (is_in id more ≡ true) × ((b : ℕ) → is_in b start ≡ true → is_in b more ≡ true)
    × ((b : ℕ) → is_in b more ≡ true → (is_in b start || (b == id || is_below look b id)) ≡ true)
climbed_all look start id parents way more noted so is = subst
    (λ (xs : List ℕ). LeadUp look xs × (is_in id xs ≡ true) × ((b : ℕ) → is_in b start ≡ true → is_in b xs ≡ true) × ((b : ℕ) → is_in b xs ≡ true → (is_in b start || (b == id || is_below look b id)) ≡ true))
    (sym is) (by (is_in id way) refl)
  where
    new : (b : ℕ) → ((id == b) ≡ true) ⊎ (is_in b way ≡ true) → (is_in b start || (b == id || is_below look b id)) ≡ true
    new b (inl e) = behind (is_in b start) (b == id || is_below look b id) (ahead (b == id) (is_below look b id) (eq-eqb b id (sym (eqb-true id b e))))
    new b (inr k) = so.above b k

    by : (t : Bool) → is_in id way ≡ t → LeadUp look (cond t way (id ∷ way)) × (is_in id (cond t way (id ∷ way)) ≡ true)
        × ((b : ℕ) → is_in b start ≡ true → is_in b (cond t way (id ∷ way)) ≡ true) × ((b : ℕ) → is_in b (cond t way (id ∷ way)) ≡ true → (is_in b start || (b == id || is_below look b id)) ≡ true)
    by true e = (so.leads, e, so.kept, so.above)
    by false e = (
      (λ y k. so.met y (noted y k) k, so.leads),
      ahead (id == id) (is_in id way) (eq-eqb id id refl),
      λ b k. behind (id == b) (is_in b way) (so.kept b k),
      λ b k. new b (head_or_rest (id == b) (is_in b way) k),
    )
