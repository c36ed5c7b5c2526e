-- The members of lists of children after a change, their number, heights and sizes.
use Rattle.std.proofs.Common.{◌≡◌, ℕ, zero, suc, ◌≤◌, max, Bool, true, false, cond, ◌||◌, ◌==◌, List, [], ◌∷◌, ◌++◌, map, sum, length, ◌⊎◌, inl, inr, refl, ap, arith}
use Rattle.std.specs.List.{list_any, insert}
use Rattle.std.proofs.lemmas.Bool.{eqb-true}
use Rattle.std.proofs.lemmas.List.Sums.{sum_by-cons}
use Rattle.pf_model.specs.Graphs.{greatest}
use Rattle.pf_model.specs.Children.{replace_first, drop_first}
use Rattle.pf_model.proofs.Keeping.{FewerChildren}

-- x is a member
abbrev pub holds : ℕ → List ℕ → Bool
holds x cs = list_any (λ d. d == x) cs

-- a member of a list with a new head is the head or a member of the rest
head_or_rest : (p q : Bool) → (p || q) ≡ true → (p ≡ true) ⊎ (q ≡ true)
head_or_rest true q h = inl refl
head_or_rest false q h = inr h

more : (p q : Bool) → q ≡ true → (p || q) ≡ true
more true q h = refl
more false q h = h

widen : (x y c : ℕ) (ys : List ℕ) → (holds x ys ≡ true) ⊎ (c ≡ x) → (holds x (y ∷ ys) ≡ true) ⊎ (c ≡ x)
widen x y c ys (inl h) = inl (more (y == x) (holds x ys) h)
widen x y c ys (inr e) = inr e

keep_head : (x y c : ℕ) (ys zs : List ℕ) → (holds x zs ≡ true → (holds x ys ≡ true) ⊎ (c ≡ x)) → holds x (y ∷ zs) ≡ true → (holds x (y ∷ ys) ≡ true) ⊎ (c ≡ x)
keep_head x y c ys zs rest h = by (y == x) refl h
  where
    by : (t : Bool) → (y == x) ≡ t → (t || holds x zs) ≡ true → (holds x (y ∷ ys) ≡ true) ⊎ (c ≡ x)
    by true e h = inl (ap (λ t. t || holds x ys) e)
    by false e h = widen x y c ys (rest h)

pub holds_appended : (x c : ℕ) (cs : List ℕ) → holds x (cs ++ c ∷ []) ≡ true → (holds x cs ≡ true) ⊎ (c ≡ x)
holds_appended x c [] h = by (c == x) refl h
  where
    by : (t : Bool) → (c == x) ≡ t → (t || false) ≡ true → (false ≡ true) ⊎ (c ≡ x)
    by true e h = inr (eqb-true c x e)
    by false e h = absurd (cc)
holds_appended x c (y ∷ ys) h = keep_head x y c ys (ys ++ c ∷ []) (holds_appended x c ys) h

new_head : (x c : ℕ) (cs : List ℕ) → holds x (c ∷ cs) ≡ true → (holds x cs ≡ true) ⊎ (c ≡ x)
new_head x c cs h = by (c == x) refl h
  where
    by : (t : Bool) → (c == x) ≡ t → (t || holds x cs) ≡ true → (holds x cs ≡ true) ⊎ (c ≡ x)
    by true e h = inr (eqb-true c x e)
    by false e h = inl h

pub holds_inserted : (x c i : ℕ) (cs : List ℕ) → holds x (insert cs i c) ≡ true → (holds x cs ≡ true) ⊎ (c ≡ x)
holds_inserted x c zero cs h = new_head x c cs h
holds_inserted x c (suc i) [] h = new_head x c [] h
holds_inserted x c (suc i) (y ∷ ys) h = keep_head x y c ys (insert ys i c) (holds_inserted x c i ys) h

pub holds_replaced : (x c b : ℕ) (cs : List ℕ) → holds x (replace_first c b cs) ≡ true → (holds x cs ≡ true) ⊎ (b ≡ x)
holds_replaced x c b [] h = absurd (cc)
holds_replaced x c b (y ∷ ys) h = by (holds_replaced x c b ys) (y == c) h
  where
    by : (holds x (replace_first c b ys) ≡ true → (holds x ys ≡ true) ⊎ (b ≡ x)) → (t : Bool) → holds x (cond t (b ∷ ys) (y ∷ replace_first c b ys)) ≡ true → (holds x (y ∷ ys) ≡ true) ⊎ (b ≡ x)
    by rest true h = widen x y b ys (new_head x b ys h)
    by rest false h = keep_head x y b ys (replace_first c b ys) rest h

pub holds_dropped : (x c : ℕ) (cs : List ℕ) → holds x (drop_first c cs) ≡ true → holds x cs ≡ true
holds_dropped x c [] h = absurd (cc)
holds_dropped x c (y ∷ ys) h = by (holds_dropped x c ys) (y == c) h
  where
    by : (holds x (drop_first c ys) ≡ true → holds x ys ≡ true) → (t : Bool) → holds x (cond t ys (y ∷ drop_first c ys)) ≡ true → holds x (y ∷ ys) ≡ true
    by rest true h = more (y == x) (holds x ys) h
    by rest false h = both (y == x) h
      where
        both : (t : Bool) → (t || holds x (drop_first c ys)) ≡ true → (t || holds x ys) ≡ true
        both true h = refl
        both false h = rest h

-- Lengths

pub length_appended : (c : ℕ) (cs : List ℕ) → length (cs ++ c ∷ []) ≡ suc (length cs)
length_appended c [] = refl
length_appended c (y ∷ ys) = ap suc (length_appended c ys)

pub length_inserted : (c i : ℕ) (cs : List ℕ) → length (insert cs i c) ≡ suc (length cs)
length_inserted c zero cs = refl
length_inserted c (suc i) [] = refl
length_inserted c (suc i) (y ∷ ys) = ap suc (length_inserted c i ys)

pub length_replaced : (c b : ℕ) (cs : List ℕ) → length (replace_first c b cs) ≡ length cs
length_replaced c b [] = refl
length_replaced c b (y ∷ ys) = by (length_replaced c b ys) (y == c)
  where
    by : length (replace_first c b ys) ≡ length ys → (t : Bool) → length (cond t (b ∷ ys) (y ∷ replace_first c b ys)) ≡ suc (length ys)
    by rest true = refl
    by rest false = ap suc rest

pub length_dropped : (c : ℕ) (cs : List ℕ) → length (drop_first c cs) ≤ length cs
length_dropped c [] = omega arith
length_dropped c (y ∷ ys) = by (length_dropped c ys) (y == c)
  where
    by : length (drop_first c ys) ≤ length ys → (t : Bool) → length (cond t ys (y ∷ drop_first c ys)) ≤ suc (length ys)
    by rest true = omega arith
    by rest false = omega arith

-- Heights and sizes

pub same_fewer : (cs : List ℕ) → FewerChildren cs cs
same_fewer cs = record { heights = λ h. omega arith; sizes = λ s. omega arith }

pub none_fewer : (cs : List ℕ) → FewerChildren [] cs
none_fewer cs = record { heights = λ h. omega arith; sizes = λ s. omega arith }

heights_dropped : (h : ℕ → ℕ) (c : ℕ) (cs : List ℕ) → greatest (map h (drop_first c cs)) ≤ greatest (map h cs)
heights_dropped h c [] = omega arith
heights_dropped h c (y ∷ ys) = by (heights_dropped h c ys) (y == c)
  where
    by : greatest (map h (drop_first c ys)) ≤ greatest (map h ys) → (t : Bool) → greatest (map h (cond t ys (y ∷ drop_first c ys))) ≤ max (h y) (greatest (map h ys))
    by rest true = omega arith
    by rest false = omega arith

sizes_dropped : (s : ℕ → ℕ) (c : ℕ) (cs : List ℕ) → sum (map s (drop_first c cs)) ≤ sum (map s cs)
sizes_dropped s c [] = omega arith
sizes_dropped s c (y ∷ ys) = by (sizes_dropped s c ys) (y == c)
  where
    by : sum (map s (drop_first c ys)) ≤ sum (map s ys) → (t : Bool) → sum (map s (cond t ys (y ∷ drop_first c ys))) ≤ sum (s y ∷ map s ys)
    by rest true = omega (arith, sum_by-cons (λ (n : ℕ). n) (s y) (map s ys))
    by rest false = omega (arith, sum_by-cons (λ (n : ℕ). n) (s y) (map s ys), sum_by-cons (λ (n : ℕ). n) (s y) (map s (drop_first c ys)))

pub dropped_fewer : (c : ℕ) (cs : List ℕ) → FewerChildren (drop_first c cs) cs
dropped_fewer c cs = record { heights = λ h. heights_dropped h c cs; sizes = λ s. sizes_dropped s c cs }
