-- Filters of lists.
use Rattle.std.proofs.Common.{◌≡◌, List, [], ◌∷◌, ◌++◌, Bool, true, false, cond, ◌&&◌, refl, ap, sym, ◌∙◌}
use Rattle.std.specs.Prelude.{filter, flat_map, fold}
use Rattle.std.specs.List.{All}
use Rattle.std.proofs.Math.Bool.{and_comm}
use Rattle.std.proofs.lemmas.List.Elements.{All-head, All-tail}

pub filter-filter : {X : Type 0} (p q : X → Bool) (xs : List X) → filter q (filter p xs) ≡ filter (λ x. p x && q x) xs
filter-filter p q [] = refl
filter-filter {X} p q (x ∷ xs) = by (p x) (filter-filter p q xs)
  where
    by : (t : Bool) → filter q (filter p xs) ≡ filter (λ y. p y && q y) xs → filter q (cond t (x ∷ filter p xs) (filter p xs)) ≡ cond (t && q x) (x ∷ filter (λ y. p y && q y) xs) (filter (λ y. p y && q y) xs)
    by true rest = ap (λ (ys : List X). cond (q x) (x ∷ ys) ys) rest
    by false rest = rest

pub filter_comm : {X : Type 0} (p q : X → Bool) (xs : List X) → filter q (filter p xs) ≡ filter p (filter q xs)
filter_comm {X} p q xs =
    filter-filter p q xs ∙ ap (λ (r : X → Bool). filter r xs) (λ i x. and_comm (p x) (q x) i) ∙ sym (filter-filter q p xs)

-- what is left out gives nothing
pub flat_map-filter : {X Y : Type 0} (f : X → List Y) (keep : X → Bool) (xs : List X) → All (λ x. keep x ≡ false → f x ≡ []) xs → flat_map f (filter keep xs) ≡ flat_map f xs
flat_map-filter f keep [] none = refl
flat_map-filter {X} {Y} f keep (x ∷ xs) none =
    by (keep x) (All-head (λ x. keep x ≡ false → f x ≡ []) x xs none) (flat_map-filter f keep xs (All-tail (λ x. keep x ≡ false → f x ≡ []) x xs none))
  where
    by : (t : Bool) → (t ≡ false → f x ≡ []) → flat_map f (filter keep xs) ≡ flat_map f xs → flat_map f (cond t (x ∷ filter keep xs) (filter keep xs)) ≡ f x ++ flat_map f xs
    by true nothing rest = ap (λ (ys : List Y). f x ++ ys) rest
    by false nothing rest = rest ∙ ap (λ (ys : List Y). ys ++ flat_map f xs) (sym (nothing refl))

-- what is left out changes nothing
pub fold-filter : {A X : Type 0} (f : A → X → A) (keep : X → Bool) (a : A) (xs : List X) → All (λ x. keep x ≡ false → (b : A) → f b x ≡ b) xs → fold f a (filter keep xs) ≡ fold f a xs
fold-filter f keep a [] same = refl
fold-filter {A} {X} f keep a (x ∷ xs) same =
    by (keep x) (All-head (λ x. keep x ≡ false → (b : A) → f b x ≡ b) x xs same) (λ b. fold-filter f keep b xs (All-tail (λ x. keep x ≡ false → (b : A) → f b x ≡ b) x xs same))
  where
    by : (t : Bool) → (t ≡ false → (b : A) → f b x ≡ b) → ((b : A) → fold f b (filter keep xs) ≡ fold f b xs) → fold f a (cond t (x ∷ filter keep xs) (filter keep xs)) ≡ fold f (f a x) xs
    by true still rest = rest (f a x)
    by false still rest = rest a ∙ ap (λ (b : A). fold f b xs) (sym (still refl a))
