-- How many graves a sweep drops.
use Rattle.std.proofs.Common.{◌≡◌, ℕ, ◌+◌, List, length, not, refl, arith}
use Rattle.std.proofs.lemmas.List.{length-map}
use Rattle.std.proofs.lemmas.List.Filters.{length-filter_both}
use Rattle.std.proofs.lemmas.List.Sums.{length-filter}
use Rattle.std.specs.List.{filter, count_by}
use Rattle.pf_model.specs.Copies.{GraveState, is_due, freed_by, graves_kept}

pub kept_and_freed : (r : ℕ) (graves : List GraveState) → length (graves_kept r graves) + length (freed_by r graves) ≡ length graves
kept_and_freed r graves =
    omega (arith, length-map (filter (is_due r) graves) (λ g. g.serial), length-filter_both (is_due r) (λ g. not (is_due r g)) (λ _. refl) graves)

-- as many are due as are freed
pub due_freed : (r : ℕ) (graves : List GraveState) → count_by (is_due r) graves ≡ length (freed_by r graves)
due_freed r graves =
    let counted = length-filter (is_due r) graves in
    let serials : length (freed_by r graves) ≡ length (filter (is_due r) graves) = length-map (filter (is_due r) graves) (λ (g : GraveState). g.serial) in
    omega (arith, counted, serials)
