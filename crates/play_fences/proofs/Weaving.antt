-- Two lists of commands with the same merges at the same places among the same other commands are one.
use Rattle.std.proofs.Common.{◌≡◌, ℕ, ◌+◌, ◌≤◌, Bool, true, false, cond, not, List, [], ◌∷◌, refl, sym, subst, arith}
use Rattle.std.specs.List.{AllByRecursion}
use Rattle.pf_history.specs.declared.commands.Command.{Command}
use Rattle.pf_history.specs.Commands.{is_merge}
use Rattle.play_fences.specs.Unsynced.{is_sync, places_from}
use Rattle.play_fences.proofs.Bare.{unsynced}
use Rattle.play_fences.proofs.Making.{merges_in, others_in}

abbrev pub HasNoSync : List Command → Type 0
HasNoSync cs = AllByRecursion (λ c. is_sync c ≡ false) cs

pub unsynced_none : (cs : List Command) → HasNoSync (unsynced cs)
unsynced_none [] = tt
unsynced_none (c ∷ cs) = by (is_sync c) refl (unsynced_none cs)
  where
    by : (b : Bool) → is_sync c ≡ b → HasNoSync (unsynced cs) → HasNoSync (cond (not b) (c ∷ unsynced cs) (unsynced cs))
    by true e rest = rest
    by false e rest = (e, rest)

-- no merge stands before so many commands
least_place : (n : ℕ) (cs : List Command) → AllByRecursion (λ p. n ≤ p) (places_from n cs)
least_place n [] = tt
least_place n (c ∷ cs) = by (is_merge c) (is_sync c) (least_place n cs) (later (places_from (n + 1) cs) (least_place (n + 1) cs))
  where
    later : (ps : List ℕ) → AllByRecursion (λ p. n + 1 ≤ p) ps → AllByRecursion (λ p. n ≤ p) ps
    later [] h = tt
    later (p ∷ ps) h = let l : n + 1 ≤ p = h.0 in (omega arith, later ps h.1)

    by : (t u : Bool) → AllByRecursion (λ p. n ≤ p) (places_from n cs) → AllByRecursion (λ p. n ≤ p) (places_from (n + 1) cs) →
        AllByRecursion (λ p. n ≤ p) (cond t (n ∷ places_from n cs) (places_from (cond u n (n + 1)) cs))
    by true u here more = (omega arith, here)
    by false true here more = here
    by false false here more = more

-- a merge and another command do not stand at one place
apart : (n : ℕ) (xs ys : List Command) → n ∷ places_from n xs ≡ places_from (n + 1) ys → ⊥
apart n xs ys same =
    let least = subst (AllByRecursion (λ p. n + 1 ≤ p)) (sym same) (least_place (n + 1) ys) in
    omega (arith, least.0)

pub woven : (n : ℕ) (xs ys : List Command) → HasNoSync xs → HasNoSync ys → merges_in xs ≡ merges_in ys → others_in xs ≡ others_in ys → places_from n xs ≡ places_from n ys → xs ≡ ys
woven n [] [] none none' merges others places = refl
woven n [] (y ∷ ys) none none' merges others places = by (is_merge y) merges others
  where
    by : (t : Bool) → [] ≡ cond t (y ∷ merges_in ys) (merges_in ys) → [] ≡ cond (not t) (y ∷ others_in ys) (others_in ys) → [] ≡ y ∷ ys
    by true m o = absurd (cc)
    by false m o = absurd (cc)
woven n (x ∷ xs) [] none none' merges others places = by (is_merge x) merges others
  where
    by : (t : Bool) → cond t (x ∷ merges_in xs) (merges_in xs) ≡ [] → cond (not t) (x ∷ others_in xs) (others_in xs) ≡ [] → x ∷ xs ≡ []
    by true m o = absurd (cc)
    by false m o = absurd (cc)
woven n (x ∷ xs) (y ∷ ys) none none' merges others places =
    by (λ k. woven k xs ys none.1 none'.1) (is_merge x) (is_merge y) merges others
    (subst (λ b. cond (is_merge x) (n ∷ places_from n xs) (places_from (n + 1) xs) ≡ cond (is_merge y) (n ∷ places_from n ys) (places_from (cond b n (n + 1)) ys)) none'.0
    (subst (λ b. cond (is_merge x) (n ∷ places_from n xs) (places_from (cond b n (n + 1)) xs) ≡ places_from n (y ∷ ys)) none.0 places))
  where
    by : ((k : ℕ) → merges_in xs ≡ merges_in ys → others_in xs ≡ others_in ys → places_from k xs ≡ places_from k ys → xs ≡ ys) → (t u : Bool) →
        cond t (x ∷ merges_in xs) (merges_in xs) ≡ cond u (y ∷ merges_in ys) (merges_in ys) →
        cond (not t) (x ∷ others_in xs) (others_in xs) ≡ cond (not u) (y ∷ others_in ys) (others_in ys) →
        cond t (n ∷ places_from n xs) (places_from (n + 1) xs) ≡ cond u (n ∷ places_from n ys) (places_from (n + 1) ys) → x ∷ xs ≡ y ∷ ys
    by more true true m o p =
        let first : x ≡ y = cc in
        let rest = more n (cc) o (cc) in
        λ i. first i ∷ rest i
    by more true false m o p = absurd (apart n xs ys p)
    by more false true m o p = absurd (apart n ys xs (sym p))
    by more false false m o p =
        let first : x ≡ y = cc in
        let rest = more (n + 1) m (cc) p in
        λ i. first i ∷ rest i
