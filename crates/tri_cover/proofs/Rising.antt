-- Lists whose places rise.
use Rattle.std.proofs.Common.{◌≡◌, ℕ, ◌+◌, ◌<◌, ◌≤◌, List, [], ◌∷◌, Bool, true, false, cond, refl, ap, ◌∙◌, arith}
use Rattle.std.specs.Prelude.{filter, map, count_by, ◌==◌}
use Rattle.std.specs.List.{AllZip, AllByRecursion, enumerate_from}
use Rattle.std.specs.List.Sorted.{IsPermutation}
use Rattle.std.proofs.lemmas.Bool.Decides.{nat_tests}
use Rattle.std.proofs.lemmas.List.Sums.{sum_by-cons}
use Rattle.fx_math.specs.declared.lenses.Lens.{Lens}
use Rattle.pf_model.specs.Walks.{Instance}
use Rattle.tri_cover.specs.Orders.{PlacesDiffer, HaveOneColour, HaveOnePicture}
use Rattle.tri_cover.specs.LeftOut.{LeavesOutNoHit}
use Rattle.tri_cover.specs.Labels.{IsRelabelled, IsSeenAlike, AreInOneOrder, PlacesAgree, PlacesRise, placed, renumbered}
use Rattle.tri_cover.proofs.AnyOrder.{drawn_alike}
use Rattle.tri_cover.proofs.Alike.{one_colour, one_picture, seen_relabelled}
use Rattle.tri_cover.proofs.Zips.{zip_weaker}
use Rattle.tri_cover.proofs.Unseen.{same_pixel}

abbrev place : Instance → ℕ
place x = x.place

-- all places are greater than this
abbrev AreAbove : ℕ → List Instance → Type 0
AreAbove p xs = AllByRecursion (λ q. p < q) (map place xs)

both_above : (p q r s : ℕ) → p < r → q < s → AreInOneOrder p q r s
both_above p q r s h g = record { below = grind (arith, nat_tests); above = grind (arith, nat_tests) }

orders_above : (R : Instance → Instance → Type 0) (p q : ℕ) (xs ys : List Instance) → AllZip R xs ys → AreAbove p xs → AreAbove q ys → AllZip (λ v w. AreInOneOrder p q v.place w.place) xs ys
orders_above R p q [] [] z a b = tt
orders_above R p q [] (y ∷ ys) z a b = absurd z
orders_above R p q (x ∷ xs) [] z a b = absurd z
orders_above R p q (x ∷ xs) (y ∷ ys) z a b = (both_above p q x.place y.place a.0 b.0, orders_above R p q xs ys z.1 a.1 b.1)

rise_agree : (R : Instance → Instance → Type 0) (xs ys : List Instance) → AllZip R xs ys → PlacesRise xs → PlacesRise ys → PlacesAgree xs ys
rise_agree R [] ys z a b = tt
rise_agree R (x ∷ xs) [] z a b = tt
rise_agree R (x ∷ xs) (y ∷ ys) z a b = (orders_above R x.place y.place xs ys z.1 a.0 b.0, rise_agree R xs ys z.1 a.1 b.1)

pub risen_picture : (xs ys : List Instance) → AllZip IsRelabelled xs ys → PlacesRise xs → PlacesRise ys → HaveOnePicture xs ys
risen_picture xs ys z a b = one_picture xs ys z (rise_agree IsRelabelled xs ys z a b)

-- ---- places that rise differ
none_at : (p q : ℕ) (xs : List Instance) → q ≤ p → AreAbove p xs → count_by (λ x. x.place == q) xs ≡ 0
none_at p q [] h a = refl
none_at p q (x ∷ xs) h a =
    let apart : (x.place == q) ≡ false = grind (arith, nat_tests, h, a.0) in
    sum_by-cons (λ (y : Instance). cond (y.place == q) 1 0) x xs
    ∙ ap (λ (t : Bool). cond t 1 0 + count_by (λ (y : Instance). y.place == q) xs) apart
    ∙ omega (arith, none_at p q xs h a.1)

-- how often a test that answers so counts
abbrev counted : Bool → ℕ
counted t = cond t 1 0

pub rise_differ : (xs : List Instance) → PlacesRise xs → PlacesDiffer xs
rise_differ [] rise q = omega arith
rise_differ (x ∷ xs) rise q = by (x.place == q) refl (rise_differ xs rise.1 q)
  where
    rest : ℕ
    rest = count_by (λ (y : Instance). y.place == q) xs

    next : count_by (λ (y : Instance). y.place == q) (x ∷ xs) ≡ counted (x.place == q) + rest
    next = sum_by-cons (λ (y : Instance). cond (y.place == q) 1 0) x xs

    by : (t : Bool) → (x.place == q) ≡ t → rest ≤ 1 → count_by (λ (y : Instance). y.place == q) (x ∷ xs) ≤ 1
    by true e few =
        let same : x.place ≡ q = grind (arith, nat_tests, e) in
        omega (arith, next, ap counted e, none_at x.place q xs (omega (arith, same)) rise.0)
    by false e few = omega (arith, next, few, ap counted e)

-- ---- lists that were cut, numbered anew and put in another order
above_filter : (p : ℕ) (keep : Instance → Bool) (xs : List Instance) → AreAbove p xs → AreAbove p (filter keep xs)
above_filter p keep [] a = tt
above_filter p keep (x ∷ xs) a = by (keep x) (above_filter p keep xs a.1)
  where
    by : (t : Bool) → AreAbove p (filter keep xs) → AreAbove p (cond t (x ∷ filter keep xs) (filter keep xs))
    by true rest = (a.0, rest)
    by false rest = rest

rise_filter : (keep : Instance → Bool) (xs : List Instance) → PlacesRise xs → PlacesRise (filter keep xs)
rise_filter keep [] rise = tt
rise_filter keep (x ∷ xs) rise = by (keep x) (rise_filter keep xs rise.1)
  where
    by : (t : Bool) → PlacesRise (filter keep xs) → PlacesRise (cond t (x ∷ filter keep xs) (filter keep xs))
    by true rest = (above_filter x.place keep xs rise.0, rest)
    by false rest = rest

numbers_above : (p n : ℕ) (xs : List Instance) → p < n → AreAbove p (map placed (enumerate_from n xs))
numbers_above p n [] h = tt
numbers_above p n (x ∷ xs) h = (h, numbers_above p (n + 1) xs (omega (arith, h)))

numbers_rise : (n : ℕ) (xs : List Instance) → PlacesRise (map placed (enumerate_from n xs))
numbers_rise n [] = tt
numbers_rise n (x ∷ xs) = (numbers_above n (n + 1) xs (omega arith), numbers_rise (n + 1) xs)

relabelled_from : (n : ℕ) (xs : List Instance) → AllZip IsRelabelled xs (map placed (enumerate_from n xs))
relabelled_from n [] = tt
relabelled_from n (x ∷ xs) = (record { tint = refl; shift = refl; steps = refl; tris = refl; far = refl }, relabelled_from (n + 1) xs)

pub culled_alike : (lens : Lens) (px py : ℕ) (keep : Instance → Bool) (xs zs ys : List Instance) → PlacesRise xs → LeavesOutNoHit lens px py keep xs → AllZip (IsSeenAlike lens px py) (filter keep xs) zs → PlacesRise zs → IsPermutation zs ys → HaveOneColour lens px py xs ys
culled_alike lens px py keep xs zs ys rise missed alike rises perm back =
    (drawn_alike zs ys (rise_differ zs rises) perm).pixels lens px py back
    ∙ one_colour lens px py (filter keep xs) zs alike (rise_agree (IsSeenAlike lens px py) (filter keep xs) zs alike (rise_filter keep xs rise) rises) back
    ∙ same_pixel lens px py keep xs missed back

pub culled : (lens : Lens) (px py : ℕ) (keep : Instance → Bool) (xs ys : List Instance) → PlacesRise xs → LeavesOutNoHit lens px py keep xs → IsPermutation (renumbered (filter keep xs)) ys → HaveOneColour lens px py xs ys
culled lens px py keep xs ys rise missed perm =
    let kept : List Instance = filter keep xs in
    culled_alike lens px py keep xs (renumbered kept) ys rise missed
    (zip_weaker IsRelabelled (IsSeenAlike lens px py) (λ x y r. seen_relabelled lens px py x y r) kept (renumbered kept) (relabelled_from 0 kept))
    (numbers_rise 0 kept) perm
