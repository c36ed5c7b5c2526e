-- Slots written and read are nodes set, cleared and found.
use Rattle.std.proofs.Common.{◌≡◌, ℕ, zero, suc, ◌+◌, ◌-◌, ◌<◌, ◌≤◌, true, false, cond, ◌==◌, nat_lt, List, [], ◌∷◌, ◌++◌, map, length, get_or, set, replicate, Option, Some, None, refl, sym, ◌∙◌, ap, arith, zero-add}
use Rattle.std.specs.List.{AllByRecursion}
use Rattle.std.proofs.lemmas.Bool.Decides.{nat_tests}
use Rattle.pf_model.specs.declared.nodes.Node.{Node}
use Rattle.pf_model.specs.Graphs.{Nodes, node_at, put, without}
use Rattle.pf_model.specs.Copies.{updated}
use Rattle.pf_model.proofs.Places.{node_at_step}
use Rattle.pf_model.proofs.Finds.{none_above}
use Rattle.multibuffer.specs.Slots.{nodes_from}

-- tests of numbers

less_true : (a b : ℕ) → a < b → nat_lt a b ≡ true
less_true a b l = grind (arith, nat_tests)

less_false : (a b : ℕ) → b ≤ a → nat_lt a b ≡ false
less_false a b l = grind (arith, nat_tests)

equal_true : (a b : ℕ) → a ≡ b → (a == b) ≡ true
equal_true a b e = grind (arith, nat_tests)

equal_false : (a b : ℕ) → a < b → (a == b) ≡ false
equal_false a b l = grind (arith, nat_tests)

-- slots without a node

none_in : (id n : ℕ) → nodes_from id (replicate n None) ≡ []
none_in id zero = refl
none_in id (suc n) = none_in (suc id) n

slots_longer : (id : ℕ) (slots : List (Option Node)) (n : ℕ) → nodes_from id (slots ++ replicate n None) ≡ nodes_from id slots
slots_longer id [] n = none_in id n
slots_longer id (None ∷ slots) n = slots_longer (suc id) slots n
slots_longer id (Some m ∷ slots) n = ap (λ ns. (id, m) ∷ ns) (slots_longer (suc id) slots n)

-- such slots, up to a place, change no node
pub same_nodes : (slots longer : List (Option Node)) (place : ℕ) → longer ≡ slots ++ replicate (place + 1 - length slots) None → nodes_from 0 longer ≡ nodes_from 0 slots
same_nodes slots longer place written = ap (λ (ns : List (Option Node)). nodes_from 0 ns) written ∙ slots_longer 0 slots (place + 1 - length slots)

-- the ids of slots

pub nodes_above : (m id : ℕ) (slots : List (Option Node)) → m < id → AllByRecursion (λ y. m < y) (map (λ e. e.0) (nodes_from id slots))
nodes_above m id [] l = tt
nodes_above m id (None ∷ slots) l = nodes_above m (suc id) slots (omega arith)
nodes_above m id (Some n ∷ slots) l = (l, nodes_above m (suc id) slots (omega arith))

-- what is found in slots
pub found_in : (first i : ℕ) (slots : List (Option Node)) → node_at (nodes_from first slots) (first + i) ≡ get_or slots i None
found_in first i [] = refl
found_in first zero (None ∷ slots) =
    let l : first + 0 < suc first = omega arith in
    none_above (first + 0) (nodes_from (suc first) slots) (nodes_above (first + 0) (suc first) slots l)
found_in first (suc i) (None ∷ slots) = ap (λ k. node_at (nodes_from (suc first) slots) k) (later first i) ∙ found_in (suc first) i slots
  where
    later : (a b : ℕ) → a + suc b ≡ suc a + b
    later a b = omega arith
found_in first zero (Some n ∷ slots) =
    node_at_step (first + 0) (first, n) (nodes_from (suc first) slots)
    ∙ ap (λ t. cond t (Some n) (node_at (nodes_from (suc first) slots) (first + 0))) (equal_true first (first + 0) (omega arith))
found_in first (suc i) (Some n ∷ slots) =
    node_at_step (first + suc i) (first, n) (nodes_from (suc first) slots)
    ∙ ap (λ t. cond t (Some n) (node_at (nodes_from (suc first) slots) (first + suc i))) (equal_false first (first + suc i) (omega arith))
    ∙ ap (λ k. node_at (nodes_from (suc first) slots) k) (later first i) ∙ found_in (suc first) i slots
  where
    later : (a b : ℕ) → a + suc b ≡ suc a + b
    later a b = omega arith

pub found : (slots : List (Option Node)) (i : ℕ) → node_at (nodes_from 0 slots) i ≡ get_or slots i None
found slots i = ap (λ k. node_at (nodes_from 0 slots) k) (sym (zero-add i)) ∙ found_in 0 i slots

-- a node set or cleared below all others

without_first : (m : ℕ) (xs : Nodes) → AllByRecursion (λ y. m < y) (map (λ e. e.0) xs) → without m xs ≡ xs
without_first m [] h = refl
without_first m (x ∷ xs) h = ap (λ t. cond t xs (x ∷ without m xs)) (other x.0 m h.0) ∙ ap (λ ys. x ∷ ys) (without_first m xs h.1)
  where
    other : (a b : ℕ) → b < a → (a == b) ≡ false
    other a b l = grind (arith, nat_tests)

put_first : (m : ℕ) (n : Node) (xs : Nodes) → AllByRecursion (λ y. m < y) (map (λ e. e.0) xs) → put m n xs ≡ (m, n) ∷ xs
put_first m n [] h = refl
put_first m n (x ∷ xs) h = ap (λ t. cond t ((m, n) ∷ x ∷ xs) (cond (x.0 == m) ((m, n) ∷ xs) (x ∷ put m n xs))) (less_true m x.0 h.0)

first_updated : (m : ℕ) (new : Option Node) (xs : Nodes) → AllByRecursion (λ y. m < y) (map (λ e. e.0) xs) → updated xs (m, new) ≡ nodes_from m (new ∷ []) ++ xs
first_updated m None xs h = without_first m xs h
first_updated m (Some n) xs h = put_first m n xs h

head_updated : (m id : ℕ) (new : Option Node) (n : Node) (xs : Nodes) → m ≡ id → updated ((m, n) ∷ xs) (id, new) ≡ nodes_from id (new ∷ []) ++ xs
head_updated m id None n xs e = ap (λ t. cond t xs ((m, n) ∷ without id xs)) (equal_true m id e)
head_updated m id (Some p) n xs e =
    ap (λ t. cond t ((id, p) ∷ (m, n) ∷ xs) (cond (m == id) ((id, p) ∷ xs) ((m, n) ∷ put id p xs))) (less_false id m (omega arith))
    ∙ ap (λ t. cond t ((id, p) ∷ xs) ((m, n) ∷ put id p xs)) (equal_true m id e)

tail_updated : (m id : ℕ) (new : Option Node) (n : Node) (xs : Nodes) → m < id → updated ((m, n) ∷ xs) (id, new) ≡ (m, n) ∷ updated xs (id, new)
tail_updated m id None n xs l = ap (λ t. cond t xs ((m, n) ∷ without id xs)) (equal_false m id l)
tail_updated m id (Some p) n xs l =
    ap (λ t. cond t ((id, p) ∷ (m, n) ∷ xs) (cond (m == id) ((id, p) ∷ xs) ((m, n) ∷ put id p xs))) (less_false id m (omega arith))
    ∙ ap (λ t. cond t ((id, p) ∷ xs) ((m, n) ∷ put id p xs)) (equal_false m id l)

from_head : (first : ℕ) (new : Option Node) (slots : List (Option Node)) → nodes_from first (new ∷ slots) ≡ nodes_from first (new ∷ []) ++ nodes_from (suc first) slots
from_head first None slots = refl
from_head first (Some n) slots = refl

-- a slot written is a node set or cleared
pub written_in : (first i : ℕ) (slots : List (Option Node)) (new : Option Node) → i < length slots → nodes_from first (set slots i new) ≡ updated (nodes_from first slots) (first + i, new)
written_in first i [] new l = absurd (omega arith)
written_in first zero (None ∷ slots) new l =
    from_head first new slots
    ∙ sym (first_updated first new (nodes_from (suc first) slots) (nodes_above first (suc first) slots (omega arith)))
    ∙ ap (λ k. updated (nodes_from (suc first) slots) (k, new)) (same first)
  where
    same : (a : ℕ) → a ≡ a + 0
    same a = omega arith
written_in first zero (Some n ∷ slots) new l =
    from_head first new slots
    ∙ ap (λ k. nodes_from k (new ∷ []) ++ nodes_from (suc first) slots) (same first)
    ∙ sym (head_updated first (first + 0) new n (nodes_from (suc first) slots) (same first))
  where
    same : (a : ℕ) → a ≡ a + 0
    same a = omega arith
written_in first (suc i) (None ∷ slots) new l =
    written_in (suc first) i slots new (omega arith)
    ∙ ap (λ k. updated (nodes_from (suc first) slots) (k, new)) (later first i)
  where
    later : (a b : ℕ) → suc a + b ≡ a + suc b
    later a b = omega arith
written_in first (suc i) (Some n ∷ slots) new l =
    ap (λ xs. (first, n) ∷ xs) (written_in (suc first) i slots new (omega arith) ∙ ap (λ k. updated (nodes_from (suc first) slots) (k, new)) (later first i))
    ∙ sym (tail_updated first (first + suc i) new n (nodes_from (suc first) slots) (omega arith))
  where
    later : (a b : ℕ) → suc a + b ≡ a + suc b
    later a b = omega arith

pub written : (slots : List (Option Node)) (i : ℕ) (new : Option Node) → i < length slots → nodes_from 0 (set slots i new) ≡ updated (nodes_from 0 slots) (i, new)
written slots i new l = written_in 0 i slots new l ∙ ap (λ k. updated (nodes_from 0 slots) (k, new)) (zero-add i)

pub written_found : (slots : List (Option Node)) (i : ℕ) (new : Option Node) (k : ℕ) → get_or (set slots i new) k None ≡ cond (k == i) new (get_or slots k None) → node_at (nodes_from 0 (set slots i new)) k ≡ cond (k == i) new (node_at (nodes_from 0 slots) k)
written_found slots i new k read = found (set slots i new) k ∙ read ∙ ap (λ o. cond (k == i) new o) (sym (found slots k))
