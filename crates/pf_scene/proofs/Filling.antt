-- The views before any is set.
use Rattle.std.proofs.Common.{◌≡◌, ℕ, zero, suc, ◌-◌, List, [], ◌++◌, take, refl, ap, ◌∙◌, arith}
use Rattle.std.specs.Prelude.{replicate}

-- a list made by filling an empty one up
pub filled : {X : Type 0} (n k : ℕ) (x : X) (xs : List X) → xs ≡ [] → k ≡ 0 → take n xs ++ replicate (n - k) x ≡ replicate n x
filled {X} n k x xs none at_zero =
    let less : n - k ≡ n = omega arith in
    ap (λ (ys : List X). take n ys ++ replicate (n - k) x) none ∙ ap (λ (ys : List X). ys ++ replicate (n - k) x) (take_none n) ∙ ap (λ m. replicate m x) less
  where
    take_none : (n : ℕ) → ◌≡◌ {A = List X} (take n []) []
    take_none zero = refl
    take_none (suc n) = refl
