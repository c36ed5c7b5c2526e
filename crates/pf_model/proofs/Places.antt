-- Nodes by their ids: the place of an id, and what stands there.
use Rattle.std.proofs.Common.{◌≡◌, ℕ, ◌<◌, ◌≤◌, Bool, true, false, cond, List, [], ◌∷◌, map, length, get_or, Option, Some, None, is_some, refl, sym, ◌∙◌, ap, arith, nat_lt, ◌==◌, suc, ◌+◌, not, subst}
use Rattle.std.specs.List.{position, position_or_len, find, insert, AllByRecursion}
use Rattle.std.specs.Option.{option_map}
use Rattle.std.proofs.lemmas.Bool.{eqb-true, eq-eqb, ltb-true}
use Rattle.std.proofs.lemmas.Bool.Decides.{nat_tests}
use Rattle.std.proofs.lemmas.List.Quantifiers.{position-Some}
use Rattle.std.proofs.lemmas.List.Sums.{fails_before_first, prefix_len-le-length}
use Rattle.std.proofs.lemmas.List.Recursion.{found_at, found_nowhere}
use Rattle.pf_model.specs.declared.nodes.Node.{Node}
use Rattle.pf_model.specs.Limits.{IsRising}
use Rattle.pf_model.specs.Graphs.{Nodes, node_at, has_id, scene_node, put}

-- equal functions, from equal values
pub funext : {A B : Type 0} (f g : A → B) → ((a : A) → f a ≡ g a) → f ≡ g
funext f g h = λ i a. h a i

-- what a look-up in a list with one more entry gives
pub node_at_step : (id : ℕ) (e : ℕ × Node) (es : Nodes) → node_at (e ∷ es) id ≡ cond (has_id id e) (Some e.1) (node_at es id)
node_at_step id e es = by (has_id id e)
  where
    by : (t : Bool) → option_map (λ (f : ℕ × Node). f.1) (cond t (Some e) (find (has_id id) es)) ≡ cond t (Some e.1) (node_at es id)
    by true = refl
    by false = refl

abbrev pub any_entry : ℕ × Node
any_entry = (0, scene_node)

-- the node at the place of an id is the node of the id
pub node_at_place_or : (nodes : Nodes) (id p : ℕ) (d : ℕ × Node) → position (has_id id) nodes ≡ Some p → node_at nodes id ≡ Some (get_or nodes p d).1
node_at_place_or nodes id p d e =
    let s = position-Some (has_id id) nodes p d e in
    found_at (λ es. node_at es id) (has_id id) (λ f. Some f.1) None refl (node_at_step id) nodes p d s.0 s.2 s.1

-- the entry at the place of an id has the id
pub id_at_place : (nodes : Nodes) (id p : ℕ) → position (has_id id) nodes ≡ Some p → (get_or nodes p any_entry).0 ≡ id
id_at_place nodes id p e = eqb-true _ _ ((position-Some (has_id id) nodes p any_entry e).1)

-- an id without a place has no node
pub node_at_none : (nodes : Nodes) (id : ℕ) → position (has_id id) nodes ≡ None → node_at nodes id ≡ None
node_at_none nodes id e =
    found_nowhere (λ es. node_at es id) (has_id id) (λ f. Some f.1) None refl (node_at_step id) nodes any_entry
    (λ k l. fails_before_first (has_id id) nodes k any_entry (grind (arith, nat_tests)))

-- Nodes in rising order of their ids

-- what holds of each entry of two lists of facts
pub same_map : {Y : Type 0} (f g : ℕ × Node → Y) (es : Nodes) → AllByRecursion (λ e. f e ≡ g e) es → map f es ≡ map g es
same_map f g [] h = refl
same_map f g (e ∷ es) h = λ i. h.0 i ∷ same_map f g es h.1 i

-- each entry is what a look-up of its id finds
abbrev pub AreFound : Nodes → Nodes → Type 0
AreFound nodes es = AllByRecursion (λ e. node_at nodes e.0 ≡ Some e.1) es

ltb_not_eqb : (a b : ℕ) → a < b → (a == b) ≡ false
ltb_not_eqb a b l = grind (arith, nat_tests)

found_after : (x : ℕ × Node) (xs ys : Nodes) → AllByRecursion (λ y. x.0 < y) (map (λ e. e.0) ys) → AreFound xs ys → AreFound (x ∷ xs) ys
found_after x xs [] above found = tt
found_after x xs (y ∷ ys) above found =
    (rw (node_at_step y.0 x xs, ltb_not_eqb x.0 y.0 above.0) found.0, found_after x xs ys above.1 found.1)

pub all_found : (nodes : Nodes) → IsRising (map (λ e. e.0) nodes) → AreFound nodes nodes
all_found [] rising = tt
all_found (x ∷ xs) rising = (rw (node_at_step x.0 x xs, eq-eqb x.0 x.0 refl) refl, found_after x xs xs rising.0 (all_found xs rising.1))

-- what holds of entries that are found holds of all of them
pub from_found : (P : ℕ × Node → Type 0) (nodes es : Nodes) → ((e : ℕ × Node) → node_at nodes e.0 ≡ Some e.1 → P e) → AreFound nodes es → AllByRecursion P es
from_found P nodes [] h found = tt
from_found P nodes (e ∷ es) h found = (h e found.0, from_found P nodes es h found.1)

pub none_there : (o : Option Node) → o ≡ None → is_some o ≡ true → ⊥
none_there None e h = cc
none_there (Some n) e h = cc

-- A node put under an id that has none

pub absent_head : (id : ℕ) (x : ℕ × Node) (xs : Nodes) → node_at (x ∷ xs) id ≡ None → ((x.0 == id) ≡ false) × (node_at xs id ≡ None)
absent_head id x xs none = by (has_id id x) refl
  where
    by : (t : Bool) → has_id id x ≡ t → (has_id id x ≡ false) × (node_at xs id ≡ None)
    by true e = absurd (none_there (node_at (x ∷ xs) id) none (rw (node_at_step id x xs, e) refl))
    by false e = (e, sym (node_at_step id x xs ∙ ap (λ t. cond t (Some x.1) (node_at xs id)) e) ∙ none)

-- it goes before the first id above it
pub put_is_insert : (id : ℕ) (n : Node) (xs : Nodes) → node_at xs id ≡ None → put id n xs ≡ insert xs (position_or_len (λ e. nat_lt id e.0) xs) (id, n)
put_is_insert id n [] none = refl
put_is_insert id n (x ∷ xs) none = by (put_is_insert id n xs (absent_head id x xs none).1) (nat_lt id x.0)
  where
    add_one : (p : ℕ) → insert (x ∷ xs) (1 + p) (id, n) ≡ x ∷ insert xs p (id, n)
    add_one p = rw (one_more p) refl
      where
        one_more : (k : ℕ) → 1 + k ≡ suc k
        one_more k = omega arith

    by : put id n xs ≡ insert xs (position_or_len (λ e. nat_lt id e.0) xs) (id, n) → (t : Bool) →
        cond t ((id, n) ∷ x ∷ xs) (cond (x.0 == id) ((id, n) ∷ xs) (x ∷ put id n xs)) ≡ insert (x ∷ xs) (cond (not t) (1 + position_or_len (λ e. nat_lt id e.0) xs) 0) (id, n)
    by rest true = refl
    by rest false = rw (absent_head id x xs none).0 (ap (λ ys. x ∷ ys) rest ∙ sym (add_one (position_or_len (λ e. nat_lt id e.0) xs)))

above_put : (m id : ℕ) (n : Node) (xs : Nodes) → m < id → AllByRecursion (λ y. m < y) (map (λ e. e.0) xs) → AllByRecursion (λ y. m < y) (map (λ e. e.0) (put id n xs))
above_put m id n [] l h = (l, tt)
above_put m id n (x ∷ xs) l h = by (above_put m id n xs l h.1) (nat_lt id x.0) (x.0 == id)
  where
    by : AllByRecursion (λ y. m < y) (map (λ e. e.0) (put id n xs)) → (t s : Bool) → AllByRecursion (λ y. m < y) (map (λ e. e.0) (cond t ((id, n) ∷ x ∷ xs) (cond s ((id, n) ∷ xs) (x ∷ put id n xs))))
    by rest true s = (l, h)
    by rest false true = (l, h.1)
    by rest false false = (h.0, rest)

all_above : (a b : ℕ) (ys : List ℕ) → a < b → AllByRecursion (λ y. b < y) ys → AllByRecursion (λ y. a < y) ys
all_above a b [] l h = tt
all_above a b (y ∷ ys) l h = (let k : b < y = h.0 in omega arith, all_above a b ys l h.1)

less : (a b : ℕ) → nat_lt a b ≡ false → (b == a) ≡ false → b < a
less a b h k = grind (arith, nat_tests)

pub put_rising : (id : ℕ) (n : Node) (xs : Nodes) → IsRising (map (λ e. e.0) xs) → IsRising (map (λ e. e.0) (put id n xs))
put_rising id n [] rising = (tt, tt)
put_rising id n (x ∷ xs) rising = by (put_rising id n xs rising.1) (nat_lt id x.0) (x.0 == id) refl refl
  where
    by : IsRising (map (λ e. e.0) (put id n xs)) → (t s : Bool) → nat_lt id x.0 ≡ t → (x.0 == id) ≡ s → IsRising (map (λ e. e.0) (cond t ((id, n) ∷ x ∷ xs) (cond s ((id, n) ∷ xs) (x ∷ put id n xs))))
    by rest true s et es = let l : id < x.0 = ltb-true id x.0 et in ((l, all_above id x.0 (map (λ e. e.0) xs) l rising.0), rising)
    by rest false true et es = let same : x.0 ≡ id = eqb-true x.0 id es in (let P : ℕ → Type 0 = λ m. AllByRecursion (λ y. m < y) (map (λ (e : ℕ × Node). e.0) xs) in subst P same rising.0, rising.1)
    by rest false false et es = (above_put x.0 id n xs (less id x.0 et es) rising.0, rest)

-- what a position says of the first place that passes, or the end

pub place_found : {X : Type 0} (p : X → Bool) (xs : List X) (i : ℕ) → Some i ≡ position p xs → (i ≡ position_or_len p xs) × (i ≤ length xs)
place_found p xs i e = by (position_or_len p xs) (nat_lt (position_or_len p xs) (length xs)) (prefix_len-le-length (λ x. not (p x)) xs) e
  where
    by : (n : ℕ) (t : Bool) → n ≤ length xs → Some i ≡ cond t (Some n) None → (i ≡ n) × (i ≤ length xs)
    by n true l e = let same : i ≡ n = cc in (same, omega arith)
    by n false l e = absurd (cc)

pub place_end : {X : Type 0} (p : X → Bool) (xs : List X) → None ≡ position p xs → length xs ≡ position_or_len p xs
place_end p xs e = by (position_or_len p xs) (nat_lt (position_or_len p xs) (length xs)) refl (prefix_len-le-length (λ x. not (p x)) xs) e
  where
    above : (n m : ℕ) → nat_lt n m ≡ false → m ≤ n
    above n m h = grind (arith, nat_tests)

    by : (n : ℕ) (t : Bool) → nat_lt n (length xs) ≡ t → n ≤ length xs → None ≡ cond t (Some n) None → length xs ≡ n
    by n true et l e = absurd (cc)
    by n false et l e = let a : length xs ≤ n = above n (length xs) et in omega arith
