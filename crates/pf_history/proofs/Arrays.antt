-- What update lists put into a copy, and what comes back of them, by any count of nodes.
use Rattle.std.proofs.Common.{◌≡◌, ℕ, zero, suc, ◌+◌, ◌<◌, ◌≤◌, Bool, true, false, cond, ◌==◌, nat_lt, List, [], ◌∷◌, ◌++◌, map, take, drop, length, Option, Some, None, refl, sym, ◌∙◌, ap, subst, arith}
use Rattle.std.proofs.lemmas.List.{take_all}
use Rattle.std.proofs.lemmas.List.Sums.{sum_by-cons, sum_by_push}
use Rattle.std.proofs.lemmas.Bool.{ltb-true}
use Rattle.std.proofs.lemmas.Bool.Decides.{nat_tests}
use Rattle.std.specs.List.{AllByRecursion, fold, sum_by}
use Rattle.pf_model.specs.declared.nodes.Node.{Node}
use Rattle.pf_model.specs.Graphs.{Nodes, node_at, put, without}
use Rattle.pf_model.specs.Limits.{IsRising}
use Rattle.pf_model.specs.Copies.{UpdateList, updated, updated_by, updates_of}
use Rattle.pf_model.proofs.Places.{node_at_step}
use Rattle.pf_model.proofs.Finds.{none_above}
use Rattle.pf_model.proofs.Levels.{all_map}
use Rattle.pf_model.proofs.Named.{node_at_updated, updated_rising, updated_by_rising}
use Rattle.pf_history.specs.CutLaws.{HasRisingIds, with_last}
use Rattle.pf_history.specs.Away.{replaced, replaced_by_all}
use Rattle.pf_history.proofs.Copying.{AreRising}

-- how many a copy holds, an update list, and update lists together
abbrev pub held : (Option Node → ℕ) → Nodes → ℕ
held f nodes = sum_by (λ e. f (Some e.1)) nodes

abbrev pub carried : (Option Node → ℕ) → UpdateList → ℕ
carried f us = sum_by (λ u. f u.1) us

abbrev pub carried_all : (Option Node → ℕ) → List UpdateList → ℕ
carried_all f lists = sum_by (λ us. carried f us) lists

held_step : (f : Option Node → ℕ) (x : ℕ × Node) (xs : Nodes) → held f (x ∷ xs) ≡ f (Some x.1) + held f xs
held_step f x xs = sum_by-cons (λ (e : ℕ × Node). f (Some e.1)) x xs

carried_step : (f : Option Node → ℕ) (u : ℕ × Option Node) (us : UpdateList) → carried f (u ∷ us) ≡ f u.1 + carried f us
carried_step f u us = sum_by-cons (λ (e : ℕ × Option Node). f e.1) u us

carried_all_step : (f : Option Node → ℕ) (us : UpdateList) (lists : List UpdateList) → carried_all f (us ∷ lists) ≡ carried f us + carried_all f lists
carried_all_step f us lists = sum_by-cons (λ (vs : UpdateList). carried f vs) us lists

-- One update

put_held : (f : Option Node → ℕ) → f None ≡ 0 → (id : ℕ) (n : Node) (xs : Nodes) → AreRising xs → held f (put id n xs) + f (node_at xs id) ≡ held f xs + f (Some n)
put_held f none id n [] rising = let s = held_step f (id, n) [] in omega (arith, s, none)
put_held f none id n (x ∷ xs) rising = by (nat_lt id x.0) (x.0 == id) refl refl (put_held f none id n xs rising.1)
  where
    by : (l t : Bool) → nat_lt id x.0 ≡ l → (x.0 == id) ≡ t → held f (put id n xs) + f (node_at xs id) ≡ held f xs + f (Some n) →
        held f (cond l ((id, n) ∷ x ∷ xs) (cond t ((id, n) ∷ xs) (x ∷ put id n xs))) + f (node_at (x ∷ xs) id) ≡ held f (x ∷ xs) + f (Some n)
    by true t el et rest =
        let l : id < x.0 = ltb-true id x.0 el in
        let gone : f (node_at (x ∷ xs) id) ≡ 0 =
        ap f (none_above id (x ∷ xs) (l, all_map (λ y. x.0 < y) (λ y. id < y) (λ y k. omega (arith, k, l)) (map (λ e. e.0) xs) rising.0)) ∙ none in
        let s = held_step f (id, n) (x ∷ xs) in
        omega (arith, gone, s)
    by false true el et rest =
        let here : f (node_at (x ∷ xs) id) ≡ f (Some x.1) = ap f (node_at_step id x xs ∙ ap (λ t. cond t (Some x.1) (node_at xs id)) et) in
        let s = held_step f (id, n) xs in
        let o = held_step f x xs in
        omega (arith, here, s, o)
    by false false el et rest =
        let there : f (node_at (x ∷ xs) id) ≡ f (node_at xs id) = ap f (node_at_step id x xs ∙ ap (λ t. cond t (Some x.1) (node_at xs id)) et) in
        let s = held_step f x (put id n xs) in
        let o = held_step f x xs in
        omega (arith, there, s, o, rest)

without_held : (f : Option Node → ℕ) → f None ≡ 0 → (id : ℕ) (xs : Nodes) → held f (without id xs) + f (node_at xs id) ≡ held f xs
without_held f none id [] = omega (arith, none)
without_held f none id (x ∷ xs) = by (x.0 == id) refl (without_held f none id xs)
  where
    by : (t : Bool) → (x.0 == id) ≡ t → held f (without id xs) + f (node_at xs id) ≡ held f xs → held f (cond t xs (x ∷ without id xs)) + f (node_at (x ∷ xs) id) ≡ held f (x ∷ xs)
    by true et rest =
        let here : f (node_at (x ∷ xs) id) ≡ f (Some x.1) = ap f (node_at_step id x xs ∙ ap (λ t. cond t (Some x.1) (node_at xs id)) et) in
        let o = held_step f x xs in
        omega (arith, here, o)
    by false et rest =
        let there : f (node_at (x ∷ xs) id) ≡ f (node_at xs id) = ap f (node_at_step id x xs ∙ ap (λ t. cond t (Some x.1) (node_at xs id)) et) in
        let s = held_step f x (without id xs) in
        let o = held_step f x xs in
        omega (arith, there, s, o, rest)

updated_held : (f : Option Node → ℕ) → f None ≡ 0 → (xs : Nodes) (u : ℕ × Option Node) → AreRising xs → held f (updated xs u) + f (node_at xs u.0) ≡ held f xs + f u.1
updated_held f none xs (id, None) rising = let w = without_held f none id xs in omega (arith, w, none)
updated_held f none xs (id, Some n) rising = put_held f none id n xs rising

-- An update list

apart : (a b : ℕ) → a < b → (b == a) ≡ false
apart a b l = grind (arith, nat_tests)

-- an update changes nothing that stands under later ids
replaced_past : (xs : Nodes) (u : ℕ × Option Node) (us : UpdateList) → AreRising xs → AllByRecursion (λ y. u.0 < y) (map (λ v. v.0) us) → replaced (updated xs u) us ≡ replaced xs us
replaced_past xs u [] rising above = refl
replaced_past xs u (v ∷ us) rising above = λ i. (v.0, same i) ∷ replaced_past xs u us rising above.1 i
  where
    same : node_at (updated xs u) v.0 ≡ node_at xs v.0
    same = node_at_updated xs u v.0 rising ∙ ap (λ t. cond t u.1 (node_at xs v.0)) (apart u.0 v.0 above.0)

-- what goes into a copy stands in it, and what stood in its place comes back
pub updated_by_held : (f : Option Node → ℕ) → f None ≡ 0 → (xs : Nodes) (us : UpdateList) → AreRising xs → HasRisingIds us → held f (updated_by xs us) + carried f (replaced xs us) ≡ held f xs + carried f us
updated_by_held f none xs [] rising ids = refl
updated_by_held f none xs (u ∷ us) rising ids =
    let first = updated_held f none xs u rising in
    let rest : held f (updated_by (updated xs u) us) + carried f (replaced xs us) ≡ held f (updated xs u) + carried f us =
    subst (λ (r : UpdateList). held f (updated_by (updated xs u) us) + carried f r ≡ held f (updated xs u) + carried f us) (replaced_past xs u us rising ids.0)
    (updated_by_held f none (updated xs u) us (updated_rising xs u rising) ids.1) in
    let b = carried_step f (u.0, node_at xs u.0) (replaced xs us) in
    let c = carried_step f u us in
    omega (arith, first, rest, b, c)

-- the update list that clears ids
abbrev cleared : List ℕ → UpdateList
cleared ids = map (λ id. (id, None)) ids

cleared_ids : (ids : List ℕ) → map (λ u. u.0) (cleared ids) ≡ ids
cleared_ids [] = refl
cleared_ids (x ∷ ids) = ap (λ xs. x ∷ xs) (cleared_ids ids)

cleared_none : (f : Option Node → ℕ) → f None ≡ 0 → (ids : List ℕ) → carried f (cleared ids) ≡ 0
cleared_none f none [] = refl
cleared_none f none (x ∷ ids) = let s = carried_step f (x, None) (cleared ids) in let rest = cleared_none f none ids in omega (arith, s, rest, none)

-- an update list of nodes of a copy holds no more than the copy
pub picked_held : (f : Option Node → ℕ) → f None ≡ 0 → (xs : Nodes) (ids : List ℕ) → AreRising xs → IsRising ids → carried f (updates_of (node_at xs) ids) ≤ held f xs
picked_held f none xs ids rising above =
    let all = updated_by_held f none xs (cleared ids) rising (subst IsRising (sym (cleared_ids ids)) above) in
    let same : carried f (replaced xs (cleared ids)) ≡ carried f (updates_of (node_at xs) ids) = ap (λ (is : List ℕ). carried f (updates_of (node_at xs) is)) (cleared_ids ids) in
    let zero = cleared_none f none ids in
    omega (arith, all, same, zero)

-- Update lists one after the other

-- what the copy holds that the first k lists keep, and the lists behind them
abbrev pub away_of : (Option Node → ℕ) → Nodes → List UpdateList → ℕ → ℕ
away_of f xs lists k = held f (fold updated_by xs (take k lists)) + carried_all f (drop k lists)

taken_back : (f : Option Node → ℕ) → f None ≡ 0 → (xs : Nodes) (lists : List UpdateList) (r : ℕ) → AreRising xs → AllByRecursion HasRisingIds lists →
    away_of f xs lists r + carried_all f (take r (replaced_by_all xs lists)) ≡ held f xs + carried_all f lists
taken_back f none xs lists zero rising ids = omega arith
taken_back f none xs [] (suc r) rising ids = omega arith
taken_back f none xs (us ∷ lists) (suc r) rising ids =
    let first = updated_by_held f none xs us rising ids.0 in
    let rest = taken_back f none (updated_by xs us) lists r (updated_by_rising xs us rising) ids.1 in
    let a = carried_all_step f us lists in
    let b = carried_all_step f (replaced xs us) (take r (replaced_by_all (updated_by xs us) lists)) in
    omega (arith, first, rest, a, b)

-- more lists go into the copy, and theirs come back
pub taken_later : (f : Option Node → ℕ) → f None ≡ 0 → (xs : Nodes) (lists : List UpdateList) (k r d : ℕ) → r ≡ k + d → AreRising xs → AllByRecursion HasRisingIds lists →
    away_of f xs lists r + carried_all f (take d (drop k (replaced_by_all xs lists))) ≡ away_of f xs lists k
taken_later f none xs lists zero r d is rising ids =
    let same : d ≡ r = omega (arith, is) in
    subst (λ (m : ℕ). away_of f xs lists m + carried_all f (take d (replaced_by_all xs lists)) ≡ held f xs + carried_all f lists) same (taken_back f none xs lists d rising ids)
taken_later f none xs lists (suc k) zero d is rising ids = absurd (omega (arith, is))
taken_later f none xs [] (suc k) (suc r) d is rising ids = let zero : carried_all f (take d []) ≡ 0 = ap (carried_all f) (take_all d [] (omega arith)) in omega (arith, zero)
taken_later f none xs (us ∷ lists) (suc k) (suc r) d is rising ids = taken_later f none (updated_by xs us) lists k r d (omega (arith, is)) (updated_by_rising xs us rising) ids.1

-- one more list at the end
pub away_push : (f : Option Node → ℕ) (xs : Nodes) (lists : List UpdateList) (us : UpdateList) (k : ℕ) → k ≤ length lists → away_of f xs (lists ++ us ∷ []) k ≡ away_of f xs lists k + carried f us
away_push f xs lists us zero l = let s = sum_by_push (λ (vs : UpdateList). carried f vs) lists us in omega (arith, s)
away_push f xs [] us (suc k) l = absurd (omega (arith, l))
away_push f xs (vs ∷ lists) us (suc k) l = away_push f (updated_by xs vs) lists us k (omega (arith, l))

pub replaced_last : (t : Bool) (xs : Nodes) (lists : List UpdateList) (us : UpdateList) → replaced_by_all xs (with_last t lists us) ≡ with_last t (replaced_by_all xs lists) (replaced (fold updated_by xs lists) us)
replaced_last false xs lists us = refl
replaced_last true xs [] us = refl
replaced_last true xs (vs ∷ lists) us = ap (λ rs. replaced xs vs ∷ rs) (replaced_last true (updated_by xs vs) lists us)

pub replaced_many : (xs : Nodes) (lists : List UpdateList) → length (replaced_by_all xs lists) ≡ length lists
replaced_many xs [] = refl
replaced_many xs (us ∷ lists) = let rest = replaced_many (updated_by xs us) lists in omega (arith, rest)

-- lists that hold at most one each hold at most as many as they are
pub one_each : (f : Option Node → ℕ) (lists : List UpdateList) (k : ℕ) → AllByRecursion (λ us. carried f us ≤ 1) lists → k ≤ length lists → carried_all f (drop k lists) + k ≤ length lists
one_each f [] zero h l = omega arith
one_each f (us ∷ lists) zero h l =
    let a = carried_all_step f us lists in
    let first = h.0 in
    let rest = one_each f lists zero h.1 (omega arith) in
    omega (arith, a, first, rest)
one_each f [] (suc k) h l = absurd (omega (arith, l))
one_each f (us ∷ lists) (suc k) h l = let rest = one_each f lists k h.1 (omega (arith, l)) in omega (arith, rest)
