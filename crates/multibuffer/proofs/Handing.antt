-- An update list whose entries are exchanged, one after the other, for what stood under their ids.
use Rattle.std.proofs.Common.{◌≡◌, ℕ, zero, suc, ◌+◌, ◌<◌, List, [], ◌∷◌, map, length, set, Option, Some, None, refl, sym, ◌∙◌, ap, arith, add-one}
use Rattle.std.specs.List.{slice_get}
use Rattle.std.specs.Option.{option_map}
use Rattle.pf_model.specs.declared.nodes.Node.{Node}
use Rattle.pf_model.specs.Graphs.{Look}
use Rattle.pf_model.specs.Copies.{UpdateList, updates_of}
use Rattle.multibuffer.specs.StageCopies.{entry_at}

-- an entry whose node was exchanged, through an empty place

set_twice : {X : Type 0} (xs : List X) (i : ℕ) (x y : X) → set (set xs i x) i y ≡ set xs i y
set_twice [] i x y = refl
set_twice (z ∷ zs) zero x y = refl
set_twice (z ∷ zs) (suc i) x y = ap (λ l. z ∷ l) (set_twice zs i x y)

rewritten : (us vs : UpdateList) (i : ℕ) (x : Option Node) → map (λ e. e.0) vs ≡ map (λ e. e.0) us → map (λ e. e.1) vs ≡ set (map (λ e. e.1) us) i x → vs ≡ set us i ((entry_at us i).0, x)
rewritten [] [] i x ids nodes = refl
rewritten [] (v ∷ vs) i x ids nodes = absurd (cc)
rewritten (u ∷ us) [] i x ids nodes = absurd (cc)
rewritten (u ∷ us) (v ∷ vs) zero x ids nodes =
    let id : v.0 ≡ u.0 = cc in
    let node : v.1 ≡ x = cc in
    let rest : vs ≡ us = same us vs (cc) (cc) in
    λ j. (id j, node j) ∷ rest j
  where
    same : (xs ys : UpdateList) → map (λ e. e.0) ys ≡ map (λ e. e.0) xs → map (λ e. e.1) ys ≡ map (λ e. e.1) xs → ys ≡ xs
    same [] [] h k = refl
    same [] (b ∷ ys) h k = absurd (cc)
    same (a ∷ xs) [] h k = absurd (cc)
    same (a ∷ xs) (b ∷ ys) h k =
        let id : b.0 ≡ a.0 = cc in
        let node : b.1 ≡ a.1 = cc in
        let rest : ys ≡ xs = same xs ys (cc) (cc) in
        λ j. (id j, node j) ∷ rest j
rewritten (u ∷ us) (v ∷ vs) (suc i) x ids nodes =
    let id : v.0 ≡ u.0 = cc in
    let node : v.1 ≡ u.1 = cc in
    let rest : vs ≡ set us i ((entry_at us i).0, x) = rewritten us vs i x (cc) (cc) in
    λ j. (id j, node j) ∷ rest j

pub exchanged : (us vs ws : UpdateList) (i : ℕ) (x : Option Node) → map (λ e. e.0) vs ≡ map (λ e. e.0) us → map (λ e. e.1) vs ≡ set (map (λ e. e.1) us) i None
    → map (λ e. e.0) ws ≡ map (λ e. e.0) vs → map (λ e. e.1) ws ≡ set (map (λ e. e.1) vs) i x → ws ≡ set us i ((entry_at us i).0, x)
exchanged us vs ws i x ids nodes ids' nodes' =
    rewritten us ws i x (ids' ∙ ids) (nodes' ∙ ap (λ (l : List (Option Node)). set l i x) nodes ∙ set_twice (map (λ (e : ℕ × Option Node). e.1) us) i None x)

-- what is told of an entry

pub told_id : (us : UpdateList) (i id : ℕ) → option_map (λ e. e.0) (slice_get us i) ≡ Some id → id ≡ (entry_at us i).0
told_id [] i id e = absurd (cc)
told_id (u ∷ us) zero id e = sym (cc)
told_id (u ∷ us) (suc i) id e = told_id us i id e

pub told_node : (us : UpdateList) (i : ℕ) (n : Option Node) → option_map (λ e. e.1) (slice_get us i) ≡ Some n → n ≡ (entry_at us i).1
told_node [] i n e = absurd (cc)
told_node (u ∷ us) zero n e = sym (cc)
told_node (u ∷ us) (suc i) n e = told_node us i n e

pub told_none : (us : UpdateList) (i : ℕ) → i < length us → option_map (λ e. e.0) (slice_get us i) ≡ None → ⊥
told_none [] i l e = absurd (omega arith)
told_none (u ∷ us) zero l e = absurd (cc)
told_none (u ∷ us) (suc i) l e = told_none us i (omega arith) e

-- the first entries exchanged
abbrev pub handed : Look → ℕ → UpdateList → UpdateList
handed look zero us = us
handed look (suc i) [] = []
handed look (suc i) (e ∷ us) = (e.0, look e.0) ∷ handed look i us

pub handed_entry : (look : Look) (i : ℕ) (us : UpdateList) → entry_at (handed look i us) i ≡ entry_at us i
handed_entry look zero us = refl
handed_entry look (suc i) [] = refl
handed_entry look (suc i) (e ∷ us) = handed_entry look i us

pub handed_length : (look : Look) (i : ℕ) (us : UpdateList) → length (handed look i us) ≡ length us
handed_length look zero us = refl
handed_length look (suc i) [] = refl
handed_length look (suc i) (e ∷ us) = ap suc (handed_length look i us)

handed_next : (look : Look) (i : ℕ) (us : UpdateList) → i < length us → set (handed look i us) i ((entry_at us i).0, look (entry_at us i).0) ≡ handed look (suc i) us
handed_next look i [] l = absurd (omega arith)
handed_next look zero (e ∷ us) l = refl
handed_next look (suc i) (e ∷ us) l = ap (λ xs. (e.0, look e.0) ∷ xs) (handed_next look i us (omega arith))

pub handed_more : (look : Look) (i : ℕ) (us : UpdateList) → i < length us → set (handed look i us) i ((entry_at us i).0, look (entry_at us i).0) ≡ handed look (i + 1) us
handed_more look i us l = handed_next look i us l ∙ ap (λ k. handed look k us) (sym (add-one i))

pub handed_all : (look : Look) (us : UpdateList) → handed look (length us) us ≡ updates_of look (map (λ e. e.0) us)
handed_all look [] = refl
handed_all look (e ∷ us) = ap (λ xs. (e.0, look e.0) ∷ xs) (handed_all look us)
