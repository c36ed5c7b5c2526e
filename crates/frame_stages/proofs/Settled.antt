-- Draw lists that get a joint each, one after the other.
use Rattle.std.proofs.Common.{◌≡◌, ◌⊎◌, inl, inr, ℕ, zero, suc, ◌+◌, ◌<◌, List, [], ◌∷◌, length, Some, refl, sym, ap, ◌∙◌, subst, arith}
use Rattle.std.proofs.lemmas.Option.{same_Some}
use Rattle.std.specs.Prelude.{slice_get, slice_set}
use Rattle.draw_list.specs.Lists.{Drawables}

split : (k i : ℕ) → k < i + 1 → (k < i) ⊎ (k ≡ i)
split zero zero below = inr refl
split zero (suc i) below = inl (omega arith)
split (suc k) zero below = absurd (omega (arith, below))
split (suc k) (suc i) below = next (split k i (omega (arith, below)))
  where
    next : (k < i) ⊎ (k ≡ i) → (suc k < suc i) ⊎ (suc k ≡ suc i)
    next (inl l) = inl (omega (arith, l))
    next (inr e) = inr (ap suc e)

get_here : (lists : List Drawables) (i : ℕ) (new d : Drawables) → i < length lists → slice_get (slice_set lists i new) i ≡ Some d → new ≡ d
get_here [] i new d within at = absurd (omega (arith, within))
get_here (x ∷ lists) zero new d within at = same_Some new d at
get_here (x ∷ lists) (suc i) new d within at = get_here lists i new d (omega (arith, within)) at

get_else : (lists : List Drawables) (i k : ℕ) (new : Drawables) → k < i → slice_get (slice_set lists i new) k ≡ slice_get lists k
get_else [] i k new below = refl
get_else (x ∷ lists) zero k new below = absurd (omega (arith, below))
get_else (x ∷ lists) (suc i) zero new below = refl
get_else (x ∷ lists) (suc i) (suc k) new below = get_else lists i k new (omega (arith, below))

-- one more list has a joint
pub first_more : (lists lists' : List Drawables) (i : ℕ) (new : Drawables) → i < length lists → lists' ≡ slice_set lists i new →
    0 < length new.joints.lists → ((k : ℕ) (d : Drawables) → k < i → slice_get lists k ≡ Some d → 0 < length d.joints.lists) →
    (k : ℕ) (d : Drawables) → k < i + 1 → slice_get lists' k ≡ Some d → 0 < length d.joints.lists
first_more lists lists' i new within is one before k d below at =
    by (split k i below) (subst (λ (xs : List Drawables). slice_get xs k ≡ Some d) is at)
  where
    by : (k < i) ⊎ (k ≡ i) → slice_get (slice_set lists i new) k ≡ Some d → 0 < length d.joints.lists
    by (inl earlier) there = before k d earlier (sym (get_else lists i k new earlier) ∙ there)
    by (inr same) there =
        subst (λ (x : Drawables). 0 < length x.joints.lists)
        (get_here lists i new d within (subst (λ j. slice_get (slice_set lists i new) j ≡ Some d) same there)) one
