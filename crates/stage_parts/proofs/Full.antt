-- What a refused push tells.
use Rattle.std.proofs.Common.{◌≡◌, ℕ, ◌+◌, ◌<◌, ◌≤◌, true, false, List, length, Option, Some, None, sym, true≢false, arith}
use Rattle.std.specs.Prelude.{IfSome, MatchOption}

-- a link that refuses an item has no room
pub no_room : {X : Type 0} (room : ℕ) (told : Option (List X)) (sent : List X) →
    IfSome told (λ taken. length taken + room ≤ length sent) → (length sent < room → false ≡ true) →
    MatchOption told (room ≤ length sent) (λ taken. length taken + room ≤ length sent)
no_room room None sent full spare =
    let none : length sent < room → ⊥ = λ less. true≢false (sym (spare less)) in omega (arith, none)
no_room room (Some taken) sent full spare = full
