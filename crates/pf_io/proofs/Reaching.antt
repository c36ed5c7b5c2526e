-- How far a call over memory goes.
use Rattle.std.proofs.Common.{◌≡◌, ℕ, ◌-◌, ◌<◌, ◌≤◌, List, [], ◌∷◌, true, nat_lt, min, All, fold, filter, arith}
use Rattle.std.proofs.lemmas.Bool.{ltb-true}
use Rattle.std.proofs.lemmas.List.Elements.{filter_passes, All-head, All-tail}
use Rattle.pf_io.specs.Memory.{FaultPlan, reach}

-- no further than it is asked to
fold_most : (place most : ℕ) (ps : List ℕ) → fold (λ n p. min n (p - place)) most ps ≤ most
fold_most place most [] = omega arith
fold_most place most (p ∷ ps) =
    let rest = fold_most place (min most (p - place)) ps in omega (arith, rest)

-- a byte at least, where each place lies further on
fold_some : (place most : ℕ) (ps : List ℕ) → All (λ p. nat_lt place p ≡ true) ps → 0 < most
    → 0 < fold (λ n p. min n (p - place)) most ps
fold_some place most [] further some = some
fold_some place most (p ∷ ps) further some =
    let lies : place < p = ltb-true place p (All-head (λ p. nat_lt place p ≡ true) p ps further) in
    let first : 0 < min most (p - place) = omega arith in
    fold_some place (min most (p - place)) ps (All-tail (λ p. nat_lt place p ≡ true) p ps further) first

pub reach_most : (plan : FaultPlan) (place most : ℕ) → reach plan place most ≤ most
reach_most plan place most = fold_most place most (filter (λ p. nat_lt place p) plan.places)

pub reach_some : (plan : FaultPlan) (place most : ℕ) → 0 < most → 0 < reach plan place most
reach_some plan place most some =
    fold_some place most (filter (λ p. nat_lt place p) plan.places)
    (filter_passes (λ p. nat_lt place p) plan.places) some
