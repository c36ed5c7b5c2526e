-- The greatest of numbers, one by one.
use Rattle.std.proofs.Common.{◌≡◌, ℕ, ◌+◌, ◌<◌, max, List, map, length, get_or, take, refl, ◌∙◌, ap}
use Rattle.std.proofs.lemmas.List.{take_more}
use Rattle.std.proofs.lemmas.List.Recursion.{max_push}
use Rattle.pf_model.specs.Graphs.{greatest}
use Rattle.pf_edits.specs.declared.extents.Extent.{Extent}

more : (f : ℕ → ℕ) (xs : List ℕ) (i d : ℕ) → i < length xs → greatest (map f (take (i + 1) xs)) ≡ max (greatest (map f (take i xs))) (f (get_or xs i d))
more f xs i d l =
    ap (λ ys. greatest (map f ys)) (take_more xs i d l)
    ∙ max_push (λ ys. greatest (map f ys)) f refl (λ x xs. refl) (take i xs) (get_or xs i d)

pub heights_more : (extents : ℕ → Extent) (xs : List ℕ) (i d : ℕ) → i < length xs
    → greatest (map (λ b. (extents b).height) (take (i + 1) xs)) ≡ max (greatest (map (λ b. (extents b).height) (take i xs))) (extents (get_or xs i d)).height
heights_more extents xs i d l = more (λ b. (extents b).height) xs i d l

pub sizes_more : (extents : ℕ → Extent) (xs : List ℕ) (i d : ℕ) → i < length xs
    → greatest (map (λ b. (extents b).size) (take (i + 1) xs)) ≡ max (greatest (map (λ b. (extents b).size) (take i xs))) (extents (get_or xs i d)).size
sizes_more extents xs i d l = more (λ b. (extents b).size) xs i d l
