-- Relations that hold of two lists place by place.
use Rattle.std.proofs.Common.{◌≡◌, List, [], ◌∷◌, Bool, true, false, cond, refl, ap, ◌∙◌}
use Rattle.std.specs.Prelude.{⊤, filter, fold}
use Rattle.std.specs.List.{AllZip}
use Rattle.tri_cover.specs.Sorting.{put_in, sorted}

pub zip_same : {X : Type 0} (R : X → X → Type 0) → ((x : X) → R x x) → (xs : List X) → AllZip R xs xs
zip_same R same [] = tt
zip_same R same (x ∷ xs) = (same x, zip_same R same xs)

pub zip_weaker : {X : Type 0} (R Q : X → X → Type 0) → ((x y : X) → R x y → Q x y) → (xs ys : List X) → AllZip R xs ys → AllZip Q xs ys
zip_weaker R Q f [] [] z = tt
zip_weaker R Q f [] (y ∷ ys) z = absurd z
zip_weaker R Q f (x ∷ xs) [] z = absurd z
zip_weaker R Q f (x ∷ xs) (y ∷ ys) z = (f x y z.0, zip_weaker R Q f xs ys z.1)

-- what follows from two relations
pub zip_both : {X : Type 0} (R Q S : X → X → Type 0) → ((x y : X) → R x y → Q x y → S x y) → (xs ys : List X) → AllZip R xs ys → AllZip Q xs ys → AllZip S xs ys
zip_both R Q S f [] [] z w = tt
zip_both R Q S f [] (y ∷ ys) z w = absurd z
zip_both R Q S f (x ∷ xs) [] z w = absurd z
zip_both R Q S f (x ∷ xs) (y ∷ ys) z w = (f x y z.0 w.0, zip_both R Q S f xs ys z.1 w.1)

-- a test that answers alike place by place
abbrev pub TestsAlike : {X : Type 0} → (X → Bool) → List X → List X → Type 0
TestsAlike p xs ys = AllZip (λ x y. p x ≡ p y) xs ys

pub zip_filter : {X : Type 0} (R : X → X → Type 0) (p : X → Bool) (xs ys : List X) → TestsAlike p xs ys → AllZip R xs ys → AllZip R (filter p xs) (filter p ys)
zip_filter R p [] [] a z = tt
zip_filter R p [] (y ∷ ys) a z = absurd z
zip_filter R p (x ∷ xs) [] a z = absurd z
zip_filter {X} R p (x ∷ xs) (y ∷ ys) a z = by (p x) (p y) a.0 (zip_filter R p xs ys a.1 z.1)
  where
    by : (t u : Bool) → t ≡ u → AllZip R (filter p xs) (filter p ys) → AllZip R (cond t (x ∷ filter p xs) (filter p xs)) (cond u (y ∷ filter p ys) (filter p ys))
    by true true e rest = (z.0, rest)
    by true false e rest = cc
    by false true e rest = cc
    by false false e rest = rest

-- ---- two sorts whose tests answer alike
-- of each pair, whether a later one goes before it is so in the one list as in the other
abbrev pub GoAlike : {X : Type 0} → (X → X → Bool) → List X → List X → Type 0
GoAlike before [] ys = ⊤
GoAlike before (x ∷ xs) [] = ⊤
GoAlike before (x ∷ xs) (y ∷ ys) = AllZip (λ v w. before v x ≡ before w y) xs ys × GoAlike before xs ys

put_zip : {X : Type 0} (before : X → X → Bool) (R : X → X → Type 0) (x y : X) (xs ys : List X) → R x y → AllZip R xs ys → AllZip (λ v w. before v x ≡ before w y) xs ys → AllZip R (put_in before x xs) (put_in before y ys)
put_zip before R x y [] [] r z a = (r, tt)
put_zip before R x y [] (w ∷ ws) r z a = absurd z
put_zip before R x y (v ∷ vs) [] r z a = absurd z
put_zip {X} before R x y (v ∷ vs) (w ∷ ws) r z a = by (before v x) (before w y) a.0 (put_zip before R x y vs ws r z.1 a.1)
  where
    by : (t u : Bool) → t ≡ u → AllZip R (put_in before x vs) (put_in before y ws) → AllZip R (cond t (v ∷ put_in before x vs) (x ∷ v ∷ vs)) (cond u (w ∷ put_in before y ws) (y ∷ w ∷ ws))
    by true true e rest = (z.0, rest)
    by true false e rest = cc
    by false true e rest = cc
    by false false e rest = (r, z)

pub sorted_zip : {X : Type 0} (before : X → X → Bool) (R : X → X → Type 0) (xs ys : List X) → AllZip R xs ys → GoAlike before xs ys → AllZip R (sorted before xs) (sorted before ys)
sorted_zip before R [] [] z a = tt
sorted_zip before R [] (y ∷ ys) z a = absurd z
sorted_zip before R (x ∷ xs) [] z a = absurd z
sorted_zip before R (x ∷ xs) (y ∷ ys) z a =
    put_zip before R x y (sorted before xs) (sorted before ys) z.0 (sorted_zip before R xs ys z.1 a.1)
    (sorted_zip before (λ v w. before v x ≡ before w y) xs ys a.0 a.1)

-- two folds whose steps do the same
pub fold_zip : {A X : Type 0} (f g : A → X → A) (R : X → X → Type 0) → ((a : A) (x y : X) → R x y → f a x ≡ g a y) → (a : A) (xs ys : List X) → AllZip R xs ys → fold f a xs ≡ fold g a ys
fold_zip f g R same a [] [] z = refl
fold_zip f g R same a [] (y ∷ ys) z = absurd z
fold_zip f g R same a (x ∷ xs) [] z = absurd z
fold_zip {A} f g R same a (x ∷ xs) (y ∷ ys) z =
    ap (λ (b : A). fold f b xs) (same a x y z.0) ∙ fold_zip f g R same (g a y) xs ys z.1
