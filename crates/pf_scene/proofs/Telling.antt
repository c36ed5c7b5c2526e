-- Entries that are told one after another.
use Rattle.std.proofs.Common.{◌≡◌, ℕ, zero, suc, ◌+◌, List, [], ◌∷◌, ◌++◌, take, drop, sym, ap, ◌∙◌, add-one}
use Rattle.std.proofs.lemmas.List.{drop-drop}
use Rattle.std.proofs.Math.Seq.{drop-nil}

next_here : {A : Type 0} (xs : List A) (n : ℕ) (x : A) (rest : List A) → drop n xs ≡ x ∷ rest → take (suc n) xs ≡ take n xs ++ x ∷ []
next_here [] n x rest is = absurd (let none = sym (drop-nil n) ∙ is in cc)
next_here (y ∷ ys) zero x rest is = ap (take 1) is
next_here (y ∷ ys) (suc n) x rest is = ap (λ l. y ∷ l) (next_here ys n x rest is)

-- the next element of a list, behind so many
pub next_taken : {A : Type 0} (xs : List A) (start n : ℕ) (x : A) (rest : List A) → drop (start + n) xs ≡ x ∷ rest →
    take (n + 1) (drop start xs) ≡ take n (drop start xs) ++ x ∷ []
next_taken xs start n x rest is =
    ap (λ (k : ℕ). take k (drop start xs)) (add-one n) ∙ next_here (drop start xs) n x rest (drop-drop n start xs ∙ is)
