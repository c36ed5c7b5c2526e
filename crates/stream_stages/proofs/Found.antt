-- What is found at stops, numbered.
use Rattle.std.proofs.Common.{◌≡◌, ◌∙◌, ℕ, suc, ◌+◌, List, [], ◌∷◌, ◌++◌, length, Option, Some, None, ap, refl, arith}
use Rattle.std.specs.Prelude.{map, filter_map}
use Rattle.std.specs.List.{enumerate_from, cons_option}
use Rattle.pf_model.specs.Walks.{Instance}
use Rattle.tri_cover.specs.Labels.{placed}
use Rattle.cull_walk.specs.Working.{Scene}
use Rattle.stream_stages.specs.Stops.{Stop, found_at, found_from}

abbrev pub numbered : ℕ → List Instance → List Instance
numbered n xs = map placed (enumerate_from n xs)

pub numbered-append : (n : ℕ) (xs ys : List Instance) → numbered n (xs ++ ys) ≡ numbered n xs ++ numbered (n + length xs) ys
numbered-append n [] ys = ap (λ (k : ℕ). numbered k ys) (omega arith)
numbered-append n (x ∷ xs) ys =
    ap (λ (zs : List Instance). placed (n, x) ∷ zs)
    (numbered-append (n + 1) xs ys ∙ ap (λ (k : ℕ). numbered (n + 1) xs ++ numbered k ys) (omega arith))

pub length_numbered : (n : ℕ) (xs : List Instance) → length (numbered n xs) ≡ length xs
length_numbered n [] = refl
length_numbered n (x ∷ xs) = ap (λ (k : ℕ). suc k) (length_numbered (n + 1) xs)

-- a stop at which nothing is found
pub found_none : (n : ℕ) (s : Scene) (o : Stop) (os : List Stop) → found_at s o ≡ None → found_from n s (o ∷ os) ≡ found_from n s os
found_none n s o os e = ap (λ (f : Option Instance). numbered n (cons_option f (filter_map (found_at s) os))) e

-- a stop at which an instance is found
pub found_one : (n : ℕ) (s : Scene) (o : Stop) (os : List Stop) (x : Instance) → found_at s o ≡ Some x → found_from n s (o ∷ os) ≡ placed (n, x) ∷ found_from (n + 1) s os
found_one n s o os x e = ap (λ (f : Option Instance). numbered n (cons_option f (filter_map (found_at s) os))) e
