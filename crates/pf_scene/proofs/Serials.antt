-- The serials of a graph's nodes differ.
use Rattle.std.proofs.Common.{◌≡◌, ℕ, ◌<◌, Bool, true, false, cond, ◌==◌, nat_eq, List, [], ◌∷◌, ◌++◌, map, Option, Some, None, refl, sym, ◌∙◌, ap, subst, arith}
use Rattle.std.proofs.lemmas.Bool.Decides.{nat_tests}
use Rattle.std.proofs.lemmas.Map.Keys.{IsDistinct-head, IsDistinct-tail, IsDistinct-cons}
use Rattle.std.specs.List.{AllByRecursion, IsDistinct}
use Rattle.pf_model.specs.declared.nodes.Node.{Node}
use Rattle.pf_model.specs.Kinds.{is_geode}
use Rattle.pf_model.specs.Graphs.{Nodes, node_at}
use Rattle.pf_model.specs.Limits.{IsRising}
use Rattle.pf_model.proofs.Finds.{apart_true, turned_eq}
use Rattle.pf_model.proofs.Places.{node_at_step}
use Rattle.pf_model.proofs.Keeping.{all_found_have}
use Rattle.update_lists.specs.Taking.{geode_serial, geode_serials}

abbrev serials : Nodes → List ℕ
serials xs = map (λ (e : ℕ × Node). e.1.serial) xs

unmapped : (q : ℕ) (xs : Nodes) → AllByRecursion (λ y. nat_eq q y ≡ false) (serials xs) → AllByRecursion (λ (e : ℕ × Node). nat_eq q e.1.serial ≡ false) xs
unmapped q [] h = tt
unmapped q (x ∷ xs) h = (h.0, unmapped q xs h.1)

flipped : (a b : ℕ) → nat_eq a b ≡ false → nat_eq b a ≡ false
flipped a b h = grind (arith, nat_tests)

both_same : (a b c : ℕ) → (a == b) ≡ true → (a == c) ≡ true → (b == c) ≡ false → ⊥
both_same a b c p q r = apart_true a c b p q (turned_eq c b ∙ r)

-- nodes of different ids have different serials
pub apart_serials : (xs : Nodes) → IsDistinct nat_eq (map (λ e. e.1.serial) xs) → (a b : ℕ) (n m : Node) → (a == b) ≡ false → node_at xs a ≡ Some n → node_at xs b ≡ Some m → nat_eq n.serial m.serial ≡ false
apart_serials [] once a b n m apart fa fb = absurd (cc)
apart_serials (x ∷ xs) once a b n m apart fa fb =
    by (x.0 == a) (x.0 == b) refl refl (apart_serials xs (IsDistinct-tail nat_eq x.1.serial (serials xs) once) a b n m apart)
    (sym (node_at_step a x xs) ∙ fa) (sym (node_at_step b x xs) ∙ fb)
  where
    head : (id : ℕ) (k : Node) → node_at xs id ≡ Some k → nat_eq x.1.serial k.serial ≡ false
    head id k found = all_found_have (λ (e : ℕ × Node). nat_eq x.1.serial e.1.serial ≡ false) xs (unmapped x.1.serial xs (IsDistinct-head nat_eq x.1.serial (serials xs) once)) id k found

    by : (s t : Bool) → (x.0 == a) ≡ s → (x.0 == b) ≡ t → (node_at xs a ≡ Some n → node_at xs b ≡ Some m → nat_eq n.serial m.serial ≡ false) → cond s (Some x.1) (node_at xs a) ≡ Some n → cond t (Some x.1) (node_at xs b) ≡ Some m → nat_eq n.serial m.serial ≡ false
    by true true p q rest ga gb = absurd (both_same x.0 a b p q apart)
    by true false p q rest ga gb = let same : x.1 ≡ n = cc in subst (λ (k : Node). nat_eq k.serial m.serial ≡ false) same (head b m gb)
    by false true p q rest ga gb = let same : x.1 ≡ m = cc in flipped m.serial n.serial (subst (λ (k : Node). nat_eq k.serial n.serial ≡ false) same (head a n ga))
    by false false p q rest ga gb = rest ga gb

-- a node is known by its serial
pub same_node : (xs : Nodes) → IsDistinct nat_eq (map (λ e. e.1.serial) xs) → (a b : ℕ) (n m : Node) → node_at xs a ≡ Some n → node_at xs b ≡ Some m → n.serial ≡ m.serial → n ≡ m
same_node xs once a b n m fa fb same = by (a == b) refl
  where
    equal : (a == b) ≡ true → a ≡ b
    equal h = grind (arith, nat_tests)

    clash : nat_eq n.serial m.serial ≡ false → ⊥
    clash h = grind (arith, nat_tests)

    by : (t : Bool) → (a == b) ≡ t → n ≡ m
    by true h = let e : Some n ≡ Some m = sym fa ∙ ap (node_at xs) (equal h) ∙ fb in cc
    by false h = absurd (clash (apart_serials xs once a b n m h fa fb))

-- The serials of the geodes under rising ids

below_apart : (a b : ℕ) → a < b → (a == b) ≡ false
below_apart a b l = grind (arith, nat_tests)

apart_from : (xs : Nodes) → IsDistinct nat_eq (map (λ e. e.1.serial) xs) → (a : ℕ) (n : Node) → node_at xs a ≡ Some n → (ids : List ℕ) → AllByRecursion (λ y. a < y) ids
    → AllByRecursion (λ s. nat_eq n.serial s ≡ false) (geode_serials (node_at xs) ids)
apart_from xs once a n found [] above = tt
apart_from xs once a n found (id ∷ ids) above = by (node_at xs id) refl (apart_from xs once a n found ids above.1)
  where
    P : List ℕ → Type 0
    P ss = AllByRecursion (λ s. nat_eq n.serial s ≡ false) ss

    or_not : (m : Node) (t : Bool) → nat_eq n.serial m.serial ≡ false → P (geode_serials (node_at xs) ids) → P (cond t (m.serial ∷ []) [] ++ geode_serials (node_at xs) ids)
    or_not m true h rest = (h, rest)
    or_not m false h rest = rest

    by : (o : Option Node) → node_at xs id ≡ o → P (geode_serials (node_at xs) ids) → P (geode_serial o ++ geode_serials (node_at xs) ids)
    by None is rest = rest
    by (Some m) is rest = or_not m (is_geode m.kind) (apart_serials xs once a id n m (below_apart a id above.0) found is) rest

once_none : IsDistinct nat_eq []
unfolding IsDistinct
once_none = tt

pub geodes_once : (xs : Nodes) → IsDistinct nat_eq (map (λ e. e.1.serial) xs) → (ids : List ℕ) → IsRising ids → IsDistinct nat_eq (geode_serials (node_at xs) ids)
geodes_once xs once [] rising = once_none
geodes_once xs once (id ∷ ids) rising = by (node_at xs id) refl (geodes_once xs once ids rising.1)
  where
    or_not : (m : Node) (t : Bool) → AllByRecursion (λ s. nat_eq m.serial s ≡ false) (geode_serials (node_at xs) ids) → IsDistinct nat_eq (geode_serials (node_at xs) ids)
        → IsDistinct nat_eq (cond t (m.serial ∷ []) [] ++ geode_serials (node_at xs) ids)
    or_not m true h rest = IsDistinct-cons nat_eq m.serial (geode_serials (node_at xs) ids) h rest
    or_not m false h rest = rest

    by : (o : Option Node) → node_at xs id ≡ o → IsDistinct nat_eq (geode_serials (node_at xs) ids) → IsDistinct nat_eq (geode_serial o ++ geode_serials (node_at xs) ids)
    by None is rest = rest
    by (Some m) is rest = or_not m (is_geode m.kind) (apart_from xs once id m is ids rising.0) rest
