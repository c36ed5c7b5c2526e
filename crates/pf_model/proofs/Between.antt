-- What is below a node goes by its children, and what is above one by its parents.
use Rattle.std.proofs.Common.{◌≡◌, ℕ, zero, suc, ◌+◌, Bool, true, false, ◌||◌, ◌==◌, List, [], ◌∷◌, refl, sym, ◌∙◌, ap, subst, arith, suc-add}
use Rattle.std.specs.List.{list_any}
use Rattle.std.proofs.lemmas.Bool.{eqb-true, eq-eqb}
use Rattle.pf_model.specs.Graphs.{Look, children_of, below_in, levels, is_below}
use Rattle.pf_model.specs.Limits.{has_child}
use Rattle.pf_model.specs.Laws.{AreLow}
use Rattle.pf_model.proofs.Levels.{levels_are, below_zero, below_step, below_settles, below_at_limit, low_at}
use Rattle.pf_model.specs.Laws.{HasChildAbove, HasParentBelow}
use Rattle.pf_model.proofs.Apart.{any_wider, below_up}

behind : (s t : Bool) → t ≡ true → (s || t) ≡ true
behind true t h = refl
behind false t h = h

-- what is below with any number of levels is below
below_from : (n : ℕ) (look : Look) → AreLow look → (a b : ℕ) → below_in n look a b ≡ true → is_below look a b ≡ true
below_from n look low a b h =
    below_at_limit look a b (low a) ∙ sym (below_settles look b 32 a n (low_at look a (low a))) ∙ ap (λ (m : ℕ). below_in m look a b) (turned n) ∙ below_up n 32 look a b h
  where
    turned : (n : ℕ) → 32 + n ≡ n + 32
    turned n = omega arith

-- By children

-- a member of a list that passes a test
record Member (p : ℕ → Bool) (cs : List ℕ) : Type 0 where
  pub who : ℕ
  pub is : list_any (λ c. c == who) cs ≡ true
  pub passes : p who ≡ true

found : (p : ℕ → Bool) (cs : List ℕ) → list_any p cs ≡ true → Member p cs
found p [] h = absurd (cc)
found p (c ∷ cs) h = by (found p cs) (p c) refl h
  where
    by : (list_any p cs ≡ true → Member p cs) → (t : Bool) → p c ≡ t → (t || list_any p cs) ≡ true → Member p (c ∷ cs)
    by rest true e h = record { who = c; is = ap (λ t. t || list_any (λ d. d == c) cs) (eq-eqb c c refl); passes = e }
    by rest false e h =
        let m = rest h in
        record { who = m.who; is = behind (c == m.who) (list_any (λ d. d == m.who) cs) m.is; passes = m.passes }

-- a child that passes a test
passed : (p : ℕ → Bool) (cs : List ℕ) (c : ℕ) → list_any (λ d. d == c) cs ≡ true → p c ≡ true → list_any p cs ≡ true
passed p cs c is h = any_wider (λ d. d == c) p (λ d e. ap p (eqb-true d c e) ∙ h) cs is

below_by : (n : ℕ) (look : Look) (a c b : ℕ) → has_child look a c ≡ true → (c == b || below_in n look c b) ≡ true → below_in (suc n) look a b ≡ true
below_by n look a c b is h = below_step n look a b ∙ passed (λ d. d == b || below_in n look d b) (children_of look a) c is h

above_of : (n : ℕ) (look : Look) → AreLow look → (c b : ℕ) → (c == b || below_in n look c b) ≡ true → (c == b || is_below look c b) ≡ true
above_of n look low c b h = by (c == b) (below_in n look c b) refl h
  where
    by : (s t : Bool) → below_in n look c b ≡ t → (s || t) ≡ true → (s || is_below look c b) ≡ true
    by true t e h = refl
    by false true e h = below_from n look low c b e
    by false false e h = absurd (cc)

pub by_child : (look : Look) → AreLow look → (a b : ℕ) → is_below look a b ≡ true → HasChildAbove look a b
by_child look low a b h =
    let m = found (λ c. c == b || below_in 4096 look c b) (children_of look a)
    (sym (below_step 4096 look a b) ∙ ap (λ (n : ℕ). below_in n look a b) (sym levels_are) ∙ h) in
    record { child = m.who; is_child = m.is; above = above_of 4096 look low m.who b m.passes }

pub child_above : (look : Look) → AreLow look → (a b : ℕ) → HasChildAbove look a b → is_below look a b ≡ true
child_above look low a b h = below_from (suc levels) look low a b (below_by levels look a h.child b h.is_child h.above)

-- By parents

record ParentIn (n : ℕ) (look : Look) (a b : ℕ) : Type 0 where
  pub parent : ℕ
  pub is_parent : has_child look parent b ≡ true
  pub below : (parent == a || below_in n look a parent) ≡ true

to_parent : (n : ℕ) (look : Look) (a b : ℕ) → below_in n look a b ≡ true → ParentIn n look a b
to_parent zero look a b h = absurd (let z : below_in 0 look a b ≡ false = below_zero look a b in cc)
to_parent (suc n) look a b h =
    let m = found (λ c. c == b || below_in n look c b) (children_of look a) (sym (below_step n look a b) ∙ h) in
    by m.who m.is (to_parent n look m.who b) (m.who == b) (below_in n look m.who b) refl refl m.passes
  where
    same : (x y : ℕ) → (x == y) ≡ true → (y == x) ≡ true
    same x y e = eq-eqb y x (sym (eqb-true x y e))

    by : (c : ℕ) → has_child look a c ≡ true → (below_in n look c b ≡ true → ParentIn n look c b) → (s t : Bool) → (c == b) ≡ s → below_in n look c b ≡ t → (s || t) ≡ true → ParentIn (suc n) look a b
    by c is rest true t es et h = record {
      parent = a;
      is_parent = subst (λ (d : ℕ). has_child look a d ≡ true) (eqb-true c b es) is;
      below = ap (λ t. t || below_in (suc n) look a a) (eq-eqb a a refl);
    }
    by c is rest false true es et h =
        let r = rest et in
        record { parent = r.parent; is_parent = r.is_parent; below = step r.parent (r.parent == c) (below_in n look c r.parent) refl refl r.below }
      where
        step : (p : ℕ) (s t : Bool) → (p == c) ≡ s → below_in n look c p ≡ t → (s || t) ≡ true → (p == a || below_in (suc n) look a p) ≡ true
        step p true t es et h = behind (p == a) (below_in (suc n) look a p) (below_by n look a c p is (ap (λ t. t || below_in n look c p) (same p c es)))
        step p false true es et h = behind (p == a) (below_in (suc n) look a p) (below_by n look a c p is (behind (c == p) (below_in n look c p) et))
        step p false false es et h = absurd (cc)
    by c is rest false false es et h = absurd (cc)

pub by_parent : (look : Look) → AreLow look → (a b : ℕ) → is_below look a b ≡ true → HasParentBelow look a b
by_parent look low a b h =
    let p = to_parent levels look a b h in
    record { parent = p.parent; is_parent = p.is_parent; below = p.below }

-- the levels of two ways down add up
joined_below : (n m : ℕ) (look : Look) (a b c : ℕ) → below_in n look a b ≡ true → below_in m look b c ≡ true → below_in (n + m) look a c ≡ true
joined_below zero m look a b c h k = absurd (let z : below_in 0 look a b ≡ false = below_zero look a b in cc)
joined_below (suc n) m look a b c h k =
    ap (λ (i : ℕ). below_in i look a c) (suc-add n m)
    ∙ below_step (n + m) look a c
    ∙ any_wider (λ d. d == b || below_in n look d b) (λ d. d == c || below_in (n + m) look d c)
    (λ d e. by d (joined_below n m look d b c) (d == b) (below_in n look d b) refl refl e) (children_of look a) (sym (below_step n look a b) ∙ h)
  where
    turned : (n m : ℕ) → m + n ≡ n + m
    turned n m = omega arith

    by : (d : ℕ) → (below_in n look d b ≡ true → below_in m look b c ≡ true → below_in (n + m) look d c ≡ true) → (s t : Bool) → (d == b) ≡ s → below_in n look d b ≡ t → (s || t) ≡ true → (d == c || below_in (n + m) look d c) ≡ true
    by d rest true t es et e =
        behind (d == c) (below_in (n + m) look d c)
        (subst (λ (x : ℕ). below_in (n + m) look x c ≡ true) (sym (eqb-true d b es)) (subst (λ (i : ℕ). below_in i look b c ≡ true) (turned n m) (below_up m n look b c k)))
    by d rest false true es et e = behind (d == c) (below_in (n + m) look d c) (rest et k)
    by d rest false false es et e = absurd (cc)

pub below_through : (look : Look) → AreLow look → (a b c : ℕ) → is_below look a b ≡ true → is_below look b c ≡ true → is_below look a c ≡ true
below_through look low a b c h k = below_from (levels + levels) look low a c (joined_below levels levels look a b c h k)

-- a child is below
child_below : (look : Look) → AreLow look → (a c : ℕ) → has_child look a c ≡ true → is_below look a c ≡ true
child_below look low a c is = child_above look low a c (record { child = c; is_child = is; above = ap (λ t. t || is_below look c c) (eq-eqb c c refl) })

pub parent_below : (look : Look) → AreLow look → (a b : ℕ) → HasParentBelow look a b → is_below look a b ≡ true
parent_below look low a b h = by (h.parent == a) (is_below look a h.parent) refl refl h.below
  where
    by : (s t : Bool) → (h.parent == a) ≡ s → is_below look a h.parent ≡ t → (s || t) ≡ true → is_below look a b ≡ true
    by true t es et e = child_below look low a b (subst (λ (x : ℕ). has_child look x b ≡ true) (eqb-true h.parent a es) h.is_parent)
    by false true es et e = below_through look low a h.parent b et (child_below look low h.parent b h.is_parent)
    by false false es et e = absurd (cc)
