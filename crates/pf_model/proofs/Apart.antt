-- A node is told apart only by what is below it.
use Rattle.std.proofs.Common.{◌≡◌, ℕ, zero, suc, ◌+◌, Bool, true, false, ◌||◌, ◌==◌, List, [], ◌∷◌, map, sum, Option, None, refl, sym, ◌∙◌, ap, subst, add-zero, add-suc}
use Rattle.std.specs.List.{AllByRecursion, list_any}
use Rattle.std.specs.Option.{option_map_or}
use Rattle.pf_model.specs.declared.nodes.Node.{Node}
use Rattle.pf_model.specs.Graphs.{Look, children_of, greatest, height_in, size_in, below_in, levels, is_below}
use Rattle.pf_model.specs.Boxes.{box_from, box_in}
use Rattle.pf_model.proofs.Levels.{levels_are, all_map, map_agree, below_zero, below_agrees, boxes_agree, height_step, size_step, below_step, box_next}
use Rattle.pf_model.specs.Laws.{AgreeBut, AgreeAt}

-- More levels keep what is below

pub any_wider : (p q : ℕ → Bool) → ((c : ℕ) → p c ≡ true → q c ≡ true) → (cs : List ℕ) → list_any p cs ≡ true → list_any q cs ≡ true
any_wider p q f [] h = absurd (cc)
any_wider p q f (c ∷ cs) h = by (any_wider p q f cs) (p c) refl (q c) refl h
  where
    by : (list_any p cs ≡ true → list_any q cs ≡ true) → (s : Bool) → p c ≡ s → (t : Bool) → q c ≡ t → (s || list_any p cs) ≡ true → (t || list_any q cs) ≡ true
    by rest s es true et h = refl
    by rest true es false et h = absurd (let e : q c ≡ true = f c es in cc)
    by rest false es false et h = rest h

or_wider : (p q r : Bool) → (q ≡ true → r ≡ true) → (p || q) ≡ true → (p || r) ≡ true
or_wider true q r f h = refl
or_wider false q r f h = f h

below_more : (n : ℕ) (look : Look) (a b : ℕ) → below_in n look a b ≡ true → below_in (suc n) look a b ≡ true
below_more zero look a b h = absurd (let z : below_in 0 look a b ≡ false = below_zero look a b in cc)
below_more (suc n) look a b h =
    below_step (suc n) look a b
    ∙ any_wider (λ c. c == b || below_in n look c b) (λ c. c == b || below_in (suc n) look c b)
    (λ c k. or_wider (c == b) (below_in n look c b) (below_in (suc n) look c b) (below_more n look c b) k) (children_of look a) (sym (below_step n look a b) ∙ h)

pub below_up : (n k : ℕ) (look : Look) (a b : ℕ) → below_in n look a b ≡ true → below_in (n + k) look a b ≡ true
below_up n zero look a b h = ap (λ m. below_in m look a b) (add-zero n) ∙ h
below_up n (suc k) look a b h = ap (λ m. below_in m look a b) (add-suc n k) ∙ below_more (n + k) look a b (below_up n k look a b h)

-- what is not below is not below with fewer levels
pub below_fewer : (n k : ℕ) (look : Look) (a b : ℕ) → below_in (n + k) look a b ≡ false → below_in n look a b ≡ false
below_fewer n k look a b h = by (below_in n look a b) refl
  where
    by : (t : Bool) → below_in n look a b ≡ t → t ≡ false
    by false e = refl
    by true e = absurd (let u : below_in (n + k) look a b ≡ true = below_up n k look a b e in cc)

-- Look-ups that differ at one node

all_other : (b : ℕ) (p : ℕ → Bool) (cs : List ℕ) → list_any (λ c. c == b || p c) cs ≡ false → AllByRecursion (λ c. ((c == b) ≡ false) × (p c ≡ false)) cs
all_other b p [] h = tt
all_other b p (c ∷ cs) h = by (all_other b p cs) (c == b) (p c) refl refl h
  where
    by : (list_any (λ c. c == b || p c) cs ≡ false → AllByRecursion (λ c. ((c == b) ≡ false) × (p c ≡ false)) cs) → (s t : Bool) → (c == b) ≡ s → p c ≡ t
        → ((s || t) || list_any (λ c. c == b || p c) cs) ≡ false → (((c == b) ≡ false) × (p c ≡ false)) × AllByRecursion (λ c. ((c == b) ≡ false) × (p c ≡ false)) cs
    by rest true t es et h = absurd (cc)
    by rest false true es et h = absurd (cc)
    by rest false false es et h = ((es, et), rest h)

-- what goes down the graph by levels is the same where the node that differs is not reached
pub apart : {X : Type 0} (f g : Look) (b : ℕ) (F G : ℕ → ℕ → X) (up : Option Node → (ℕ → X) → X)
    → ((id : ℕ) → F 0 id ≡ G 0 id)
    → ((n id : ℕ) → F (suc n) id ≡ up (f id) (F n))
    → ((n id : ℕ) → G (suc n) id ≡ up (g id) (G n))
    → ((o : Option Node) (p q : ℕ → X) → AllByRecursion (λ c. p c ≡ q c) (option_map_or (λ n. n.children) o []) → up o p ≡ up o q)
    → AgreeBut b f g → (n id : ℕ) → (id == b) ≡ false → below_in n f id b ≡ false → F n id ≡ G n id
apart f g b F G up none step other same agree zero id away free = none id
apart f g b F G up none step other same agree (suc n) id away free =
    step n id
    ∙ same (f id) (F n) (G n)
    (all_map (λ c. ((c == b) ≡ false) × (below_in n f c b ≡ false)) (λ c. F n c ≡ G n c) (λ c h. apart f g b F G up none step other same agree n c h.0 h.1) (children_of f id)
    (all_other b (λ c. below_in n f c b) (children_of f id) (sym (below_step n f id b) ∙ free)))
    ∙ ap (λ o. up o (G n)) (agree id away)
    ∙ sym (other n id)

no_levels : (f g : Look) (id : ℕ) → height_in 0 f id ≡ height_in 0 g id
unfolding height_in
no_levels f g id = refl

no_sizes : (f g : Look) (id : ℕ) → size_in 0 f id ≡ size_in 0 g id
unfolding size_in
no_sizes f g id = refl

no_boxes : (f g : Look) (id : ℕ) → box_in 0 f id ≡ box_in 0 g id
unfolding box_in
no_boxes f g id = refl

pub agree_at : (f g : Look) (b : ℕ) → AgreeBut b f g → (id : ℕ) → (id == b) ≡ false → is_below f id b ≡ false → AgreeAt f g id
agree_at f g b agree id away free = record {
  height = apart f g b (λ n. height_in n f) (λ n. height_in n g) (λ o h. 1 + greatest (map h (option_map_or (λ n. n.children) o [])))
      (no_levels f g) (λ n id. height_step n f id) (λ n id. height_step n g id)
      (λ o p q h. ap (λ xs. 1 + greatest xs) (map_agree p q (option_map_or (λ n. n.children) o []) h)) agree levels id away free;
  size = apart f g b (λ n. size_in n f) (λ n. size_in n g) (λ o h. 1 + sum (map h (option_map_or (λ n. n.children) o [])))
      (no_sizes f g) (λ n id. size_step n f id) (λ n id. size_step n g id)
      (λ o p q h. ap (λ xs. 1 + sum xs) (map_agree p q (option_map_or (λ n. n.children) o []) h)) agree levels id away free;
  box = apart f g b (λ n. box_in n f) (λ n. box_in n g) (λ o h. option_map_or (box_from h) o None)
      (no_boxes f g) (λ n id. box_next n f id) (λ n id. box_next n g id) boxes_agree agree 32 id away
      (below_fewer 32 4065 f id b (subst (λ (n : ℕ). below_in n f id b ≡ false) levels_are free));
  below = λ x. apart f g b (λ n a. below_in n f a x) (λ n a. below_in n g a x) (λ o p. list_any (λ c. c == x || p c) (option_map_or (λ n. n.children) o []))
      (λ id. below_zero f id x ∙ sym (below_zero g id x)) (λ n id. below_step n f id x) (λ n id. below_step n g id x)
      (λ o p q h. below_agrees x p q (option_map_or (λ n. n.children) o []) h) agree levels id away free;
}
