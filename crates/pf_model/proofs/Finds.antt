-- What a look-up finds after a change of the nodes, and how many ids can be found.
use Rattle.std.proofs.Common.{◌≡◌, ℕ, suc, ◌<◌, ◌≤◌, Bool, true, false, cond, ◌&&◌, ◌==◌, nat_lt, List, [], ◌∷◌, map, length, Option, Some, None, is_some, refl, sym, ◌∙◌, ap, subst, arith}
use Rattle.std.specs.List.{AllByRecursion, list_all}
use Rattle.std.specs.Option.{option_map}
use Rattle.std.proofs.lemmas.Bool.{eqb-true}
use Rattle.std.proofs.lemmas.Bool.Decides.{nat_tests}
use Rattle.pf_model.specs.declared.nodes.Node.{Node}
use Rattle.pf_model.specs.Graphs.{Nodes, node_at, has_id, change, put, without}
use Rattle.pf_model.specs.Limits.{IsRising, is_there}
use Rattle.pf_model.proofs.Places.{node_at_step, absent_head}

pub apart_true : (a b c : ℕ) → (a == c) ≡ true → (a == b) ≡ true → (b == c) ≡ false → ⊥
apart_true a b c h k l = absurd (grind (arith, nat_tests))

apart_false : (a b c : ℕ) → (a == c) ≡ true → (a == b) ≡ false → (b == c) ≡ true → ⊥
apart_false a b c h k l = absurd (grind (arith, nat_tests))

pub apart_other : (a b c : ℕ) → (a == c) ≡ false → (a == b) ≡ true → (b == c) ≡ true → ⊥
apart_other a b c h k l = absurd (grind (arith, nat_tests))

pub node_at_change : (f : Node → Node) (id : ℕ) (xs : Nodes) (b : ℕ) → node_at (change id f xs) b ≡ cond (b == id) (option_map f (node_at xs b)) (node_at xs b)
node_at_change f id [] b = by (b == id)
  where
    by : (r : Bool) → node_at [] b ≡ cond r (option_map f (node_at [] b)) (node_at [] b)
    by true = refl
    by false = refl
node_at_change f id (x ∷ xs) b = by (node_at_change f id xs b) (x.0 == id) (x.0 == b) (b == id) refl refl refl
  where
    by : node_at (change id f xs) b ≡ cond (b == id) (option_map f (node_at xs b)) (node_at xs b) → (t s r : Bool) → (x.0 == id) ≡ t → (x.0 == b) ≡ s → (b == id) ≡ r
        → node_at (cond t ((x.0, f x.1) ∷ xs) (x ∷ change id f xs)) b ≡ cond r (option_map f (node_at (x ∷ xs) b)) (node_at (x ∷ xs) b)
    by rest true true true et es er = rw (node_at_step b (x.0, f x.1) xs, node_at_step b x xs, es) refl
    by rest true true false et es er = absurd (apart_true x.0 b id et es er)
    by rest true false true et es er = absurd (apart_false x.0 b id et es er)
    by rest true false false et es er = rw (node_at_step b (x.0, f x.1) xs, node_at_step b x xs, es) refl
    by rest false true true et es er = absurd (apart_other x.0 b id et es er)
    by rest false true false et es er = rw (node_at_step b x (change id f xs), node_at_step b x xs, es) refl
    by rest false false true et es er = rw (node_at_step b x (change id f xs), node_at_step b x xs, es) (rest ∙ ap (λ t. cond t (option_map f (node_at xs b)) (node_at xs b)) er)
    by rest false false false et es er = rw (node_at_step b x (change id f xs), node_at_step b x xs, es) (rest ∙ ap (λ t. cond t (option_map f (node_at xs b)) (node_at xs b)) er)

pub turned_eq : (a b : ℕ) → (a == b) ≡ (b == a)
turned_eq a b = grind (arith, nat_tests)

pub node_at_put : (n : Node) (id : ℕ) (xs : Nodes) (b : ℕ) → node_at xs id ≡ None → node_at (put id n xs) b ≡ cond (b == id) (Some n) (node_at xs b)
node_at_put n id [] b none = node_at_step b (id, n) [] ∙ ap (λ t. cond t (Some n) None) (turned_eq id b)
node_at_put n id (x ∷ xs) b none =
    by (node_at_put n id xs b (absent_head id x xs none).1) (absent_head id x xs none).0 (nat_lt id x.0) (x.0 == id) (x.0 == b) (b == id) refl refl refl
  where
    by : node_at (put id n xs) b ≡ cond (b == id) (Some n) (node_at xs b) → (x.0 == id) ≡ false → (l t s r : Bool) → (x.0 == id) ≡ t → (x.0 == b) ≡ s → (b == id) ≡ r
        → node_at (cond l ((id, n) ∷ x ∷ xs) (cond t ((id, n) ∷ xs) (x ∷ put id n xs))) b ≡ cond r (Some n) (node_at (x ∷ xs) b)
    by rest other true t s r et es er = node_at_step b (id, n) (x ∷ xs) ∙ ap (λ u. cond u (Some n) (node_at (x ∷ xs) b)) (turned_eq id b ∙ er)
    by rest other false true s r et es er = absurd (let h : true ≡ false = sym et ∙ other in cc)
    by rest other false false true true et es er = absurd (apart_other x.0 b id et es er)
    by rest other false false true false et es er = rw (node_at_step b x (put id n xs), node_at_step b x xs, es) refl
    by rest other false false false true et es er = rw (node_at_step b x (put id n xs), es) (rest ∙ ap (λ t. cond t (Some n) (node_at xs b)) er)
    by rest other false false false false et es er = rw (node_at_step b x (put id n xs), node_at_step b x xs, es) (rest ∙ ap (λ t. cond t (Some n) (node_at xs b)) er)

-- an id that all ids are above is not among them
pub none_above : (m : ℕ) (xs : Nodes) → AllByRecursion (λ y. m < y) (map (λ e. e.0) xs) → node_at xs m ≡ None
none_above m [] h = refl
none_above m (x ∷ xs) h = rw (node_at_step m x xs, other m x.0 h.0) (none_above m xs h.1)
  where
    other : (a b : ℕ) → a < b → (b == a) ≡ false
    other a b l = grind (arith, nat_tests)

pub node_at_without : (id : ℕ) (xs : Nodes) (b : ℕ) → IsRising (map (λ e. e.0) xs) → node_at (without id xs) b ≡ cond (b == id) None (node_at xs b)
node_at_without id [] b rising = by (b == id)
  where
    by : (r : Bool) → node_at [] b ≡ cond r None (node_at [] b)
    by true = refl
    by false = refl
node_at_without id (x ∷ xs) b rising = by (node_at_without id xs b rising.1) (x.0 == id) (x.0 == b) (b == id) refl refl refl
  where
    gone : (x.0 == b) ≡ true → node_at xs b ≡ None
    gone es = subst (λ (m : ℕ). node_at xs m ≡ None) (eqb-true x.0 b es) (none_above x.0 xs rising.0)

    first : (x.0 == id) ≡ true → (b == id) ≡ true → node_at xs b ≡ None
    first et er = gone (same x.0 b id et er)
      where
        same : (p q r : ℕ) → (p == r) ≡ true → (q == r) ≡ true → (p == q) ≡ true
        same p q r h k = grind (arith, nat_tests)

    by : node_at (without id xs) b ≡ cond (b == id) None (node_at xs b) → (t s r : Bool) → (x.0 == id) ≡ t → (x.0 == b) ≡ s → (b == id) ≡ r
        → node_at (cond t xs (x ∷ without id xs)) b ≡ cond r None (node_at (x ∷ xs) b)
    by rest true s true et es er = first et er
    by rest true true false et es er = absurd (apart_true x.0 b id et es er)
    by rest true false false et es er = rw (node_at_step b x xs, es) refl
    by rest false true true et es er = absurd (apart_other x.0 b id et es er)
    by rest false true false et es er = rw (node_at_step b x (without id xs), node_at_step b x xs, es) refl
    by rest false false true et es er = rw (node_at_step b x (without id xs), es) (rest ∙ ap (λ t. cond t None (node_at xs b)) er)
    by rest false false false et es er = rw (node_at_step b x (without id xs), node_at_step b x xs, es) (rest ∙ ap (λ t. cond t None (node_at xs b)) er)

-- Rising ids that are all found are at most as many as the nodes

found_later : (x : ℕ × Node) (xs : Nodes) (ids : List ℕ) → AllByRecursion (λ y. x.0 < y) ids → list_all (is_there (node_at (x ∷ xs))) ids ≡ true → list_all (is_there (node_at xs)) ids ≡ true
found_later x xs [] above all = refl
found_later x xs (i ∷ is) above all =
    let e : node_at (x ∷ xs) i ≡ node_at xs i = rw (node_at_step i x xs, other x.0 i above.0) refl in
    let both : (is_some (node_at (x ∷ xs) i) ≡ true) × (list_all (is_there (node_at (x ∷ xs))) is ≡ true) = halves (is_some (node_at (x ∷ xs) i)) (list_all (is_there (node_at (x ∷ xs))) is) all in
    rw (sym (ap (λ o. is_some o) e) ∙ both.0) (found_later x xs is above.1 both.1)
  where
    other : (a b : ℕ) → a < b → (a == b) ≡ false
    other a b l = grind (arith, nat_tests)

    halves : (p q : Bool) → (p && q) ≡ true → (p ≡ true) × (q ≡ true)
    halves true q h = (refl, h)
    halves false q h = absurd (cc)

-- a rising list with an id above the first one is above it
all_from : (m i : ℕ) (is : List ℕ) → m < i → AllByRecursion (λ y. i < y) is → AllByRecursion (λ y. m < y) is
all_from m i [] l h = tt
all_from m i (j ∷ js) l h = (let k : i < j = h.0 in omega arith, all_from m i js l h.1)

above_found : (x : ℕ × Node) (xs : Nodes) (i : ℕ) → AllByRecursion (λ y. x.0 < y) (map (λ e. e.0) xs) → (x.0 == i) ≡ false → is_some (node_at (x ∷ xs) i) ≡ true → x.0 < i
above_found x xs i rising other there = by xs rising (subst (λ (o : Option Node). is_some o ≡ true) (node_at_step i x xs ∙ ap (λ t. cond t (Some x.1) (node_at xs i)) other) there)
  where
    by : (ys : Nodes) → AllByRecursion (λ y. x.0 < y) (map (λ e. e.0) ys) → is_some (node_at ys i) ≡ true → x.0 < i
    by [] h there = absurd (cc)
    by (y ∷ ys) h there = at (λ r. by ys h.1 r) (has_id i y) refl there
      where
        at : (is_some (node_at ys i) ≡ true → x.0 < i) → (t : Bool) → has_id i y ≡ t → is_some (node_at (y ∷ ys) i) ≡ true → x.0 < i
        at rec true e there = subst (λ (m : ℕ). x.0 < m) (eqb-true y.0 i e) h.0
        at rec false e there = rec (subst (λ (o : Option Node). is_some o ≡ true) (node_at_step i y ys ∙ ap (λ t. cond t (Some y.1) (node_at ys i)) e) there)

pub few_found : (xs : Nodes) (ids : List ℕ) → IsRising (map (λ e. e.0) xs) → IsRising ids → list_all (is_there (node_at xs)) ids ≡ true → length ids ≤ length xs
few_found xs [] rising up all = omega arith
few_found [] (i ∷ is) rising up all = absurd (cc)
few_found (x ∷ xs) (i ∷ is) rising up all =
    by (λ h. few_found xs is rising.1 up.1 h) (λ h. few_found xs (i ∷ is) rising.1 up h) (x.0 == i) refl
  where
    halves : (p q : Bool) → (p && q) ≡ true → (p ≡ true) × (q ≡ true)
    halves true q h = (refl, h)
    halves false q h = absurd (cc)

    both : (is_some (node_at (x ∷ xs) i) ≡ true) × (list_all (is_there (node_at (x ∷ xs))) is ≡ true)
    both = halves (is_some (node_at (x ∷ xs) i)) (list_all (is_there (node_at (x ∷ xs))) is) all

    by : (list_all (is_there (node_at xs)) is ≡ true → length is ≤ length xs) → (list_all (is_there (node_at xs)) (i ∷ is) ≡ true → suc (length is) ≤ length xs) → (t : Bool) → (x.0 == i) ≡ t → suc (length is) ≤ suc (length xs)
    by fewer same true e =
        let above : AllByRecursion (λ y. x.0 < y) is = subst (λ (m : ℕ). AllByRecursion (λ y. m < y) is) (sym (eqb-true x.0 i e)) up.0 in
        let l : length is ≤ length xs = fewer (found_later x xs is above both.1) in
        omega arith
    by fewer same false e =
        let m : x.0 < i = above_found x xs i rising.0 e both.0 in
        let l : suc (length is) ≤ length xs = same (found_later x xs (i ∷ is) (m, all_from x.0 i is m up.0) all) in
        omega arith

pub length_change : (f : Node → Node) (id : ℕ) (xs : Nodes) → length (change id f xs) ≡ length xs
length_change f id [] = refl
length_change f id (x ∷ xs) = by (length_change f id xs) (x.0 == id)
  where
    by : length (change id f xs) ≡ length xs → (t : Bool) → length (cond t ((x.0, f x.1) ∷ xs) (x ∷ change id f xs)) ≡ suc (length xs)
    by rest true = refl
    by rest false = ap suc rest

pub ids_change : (f : Node → Node) (id : ℕ) (xs : Nodes) → map (λ e. e.0) (change id f xs) ≡ map (λ e. e.0) xs
ids_change f id [] = refl
ids_change f id (x ∷ xs) = by (ids_change f id xs) (x.0 == id)
  where
    by : map (λ e. e.0) (change id f xs) ≡ map (λ e. e.0) xs → (t : Bool) → map (λ e. e.0) (cond t ((x.0, f x.1) ∷ xs) (x ∷ change id f xs)) ≡ x.0 ∷ map (λ e. e.0) xs
    by rest true = refl
    by rest false = ap (λ ys. x.0 ∷ ys) rest

pub length_put : (n : Node) (id : ℕ) (xs : Nodes) → length (put id n xs) ≤ suc (length xs)
length_put n id [] = omega arith
length_put n id (x ∷ xs) = by (length_put n id xs) (nat_lt id x.0) (x.0 == id)
  where
    by : length (put id n xs) ≤ suc (length xs) → (l t : Bool) → length (cond l ((id, n) ∷ x ∷ xs) (cond t ((id, n) ∷ xs) (x ∷ put id n xs))) ≤ suc (suc (length xs))
    by rest true t = omega arith
    by rest false true = omega arith
    by rest false false = omega arith

pub length_without : (id : ℕ) (xs : Nodes) → length (without id xs) ≤ length xs
length_without id [] = omega arith
length_without id (x ∷ xs) = by (length_without id xs) (x.0 == id)
  where
    by : length (without id xs) ≤ length xs → (t : Bool) → length (cond t xs (x ∷ without id xs)) ≤ suc (length xs)
    by rest true = omega arith
    by rest false = omega arith
