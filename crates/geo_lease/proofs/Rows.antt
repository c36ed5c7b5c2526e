-- For the tests: slots that are put back, and the geodes 0, 1 and so on.
use Rattle.std.proofs.Common.{◌≡◌, ℕ, ◌<◌, Bool, cond, List, [], ◌∷◌, length, refl, ap, ◌∙◌, Some, eq-eqb}
use Rattle.std.specs.Prelude.{slice_get, is_some, Contains, Option, None, true}
use Rattle.std.proofs.lemmas.Option.{slice_get_within, get_or_from_slice_get}
use Rattle.geo_lease.specs.Views.{without}

pub without_only : (k : ℕ) → without k (k ∷ []) ≡ []
without_only k = ap (λ (b : Bool). cond b [] (k ∷ [])) (eq-eqb k k refl)

-- a slot that is put back was the only one that was fetched
pub put_back_only : (k : ℕ) (before fetched after : List ℕ) → before ≡ [] → fetched ≡ k ∷ before → after ≡ without k fetched → after ≡ []
put_back_only k before fetched after none one last = last ∙ (ap (without k) (one ∙ ap (λ (l : List ℕ). k ∷ l) none) ∙ without_only k)

module _ {T : Type 0} where
  pub some_value : (o : Option T) → is_some o ≡ true → (x : T) × (o ≡ Some x)
  some_value None h = absurd (cc h)
  some_value (Some x) h = (x, refl)

pub named_in : (names : List ℕ) → ((g : ℕ) → g < length names → slice_get names g ≡ Some g) → (g : ℕ) → g < length names → Contains names g
named_in names each g lt = (g, slice_get_within names g g (each g lt), get_or_from_slice_get names g g g (each g lt))
