-- Elements of lists by their places.
use Rattle.std.proofs.Common.{◌≡◌, ◌⊎◌, ℕ, zero, suc, ◌≤◌, List, [], ◌∷◌, ◌++◌, map, take, length, slice_get, Some, refl, sym, ap, ◌∙◌, arith, inl, inr}
use Rattle.std.proofs.lemmas.Option.{same_Some}
use Rattle.std.specs.List.{AllByRecursion}

pub get_take : {X : Type 0} (n : ℕ) (xs : List X) (i : ℕ) (x : X) → slice_get (take n xs) i ≡ Some x → slice_get xs i ≡ Some x
get_take zero xs i x at = absurd (cc)
get_take (suc n) [] i x at = absurd (cc)
get_take (suc n) (y ∷ xs) zero x at = at
get_take (suc n) (y ∷ xs) (suc i) x at = get_take n xs i x at

pub front_of : {X : Type 0} (xs ys : List X) → ((i : ℕ) (x : X) → slice_get xs i ≡ Some x → slice_get ys i ≡ Some x) →
    xs ≡ take (length xs) ys
front_of [] ys h = refl
front_of (x ∷ xs) [] h = absurd (let none = h 0 x refl in cc)
front_of (x ∷ xs) (y ∷ ys) h =
    ap (λ z. z ∷ xs) (sym (same_Some y x (h 0 x refl))) ∙ ap (λ zs. y ∷ zs) (front_of xs ys (λ i z at. h (suc i) z at))

pub get_map : {X Y : Type 0} (f : X → Y) (xs : List X) (i : ℕ) (x : X) → slice_get xs i ≡ Some x → slice_get (map f xs) i ≡ Some (f x)
get_map f [] i x at = absurd (cc)
get_map f (y ∷ xs) zero x at = ap (λ z. Some (f z)) (same_Some y x at)
get_map f (y ∷ xs) (suc i) x at = get_map f xs i x at

pub get_below : {X : Type 0} (xs : List X) (i j : ℕ) (x : X) → slice_get xs i ≡ Some x → j ≤ i → (y : X) × (slice_get xs j ≡ Some y)
get_below [] i j x at l = absurd (cc)
get_below (y ∷ xs) i zero x at l = (y, refl)
get_below (y ∷ xs) zero (suc j) x at l = absurd (omega arith)
get_below (y ∷ xs) (suc i) (suc j) x at l = get_below xs i j x at (omega arith)

pub get_length : {X : Type 0} (xs : List X) (i : ℕ) (x : X) → slice_get xs i ≡ Some x → suc i ≤ length xs
get_length [] i x at = absurd (cc)
get_length (y ∷ xs) zero x at = omega arith
get_length (y ∷ xs) (suc i) x at = let l = get_length xs i x at in omega (arith, l)

pub map_take : {X Y : Type 0} (f : X → Y) (n : ℕ) (xs : List X) → map f (take n xs) ≡ take n (map f xs)
map_take f zero xs = refl
map_take f (suc n) [] = refl
map_take f (suc n) (x ∷ xs) = ap (λ ys. f x ∷ ys) (map_take f n xs)

pub take_front : {X : Type 0} (k n : ℕ) (xs : List X) → k ≤ n → take k (take n xs) ≡ take k xs
take_front zero n xs l = refl
take_front (suc k) zero xs l = absurd (omega arith)
take_front (suc k) (suc n) [] l = refl
take_front (suc k) (suc n) (x ∷ xs) l = ap (λ ys. x ∷ ys) (take_front k n xs (omega arith))

pub map_map : {X Y Z : Type 0} (f : X → Y) (g : Y → Z) (xs : List X) → map g (map f xs) ≡ map (λ x. g (f x)) xs
map_map f g [] = refl
map_map f g (x ∷ xs) = ap (λ zs. g (f x) ∷ zs) (map_map f g xs)

pub all_take : {X : Type 0} (P : X → Type 0) (n : ℕ) (xs : List X) → AllByRecursion P xs → AllByRecursion P (take n xs)
all_take P zero xs h = tt
all_take P (suc n) [] h = tt
all_take P (suc n) (x ∷ xs) h = (h.0, all_take P n xs h.1)

-- An element of a list, whose image stands at a place of the list of images.
pub record IsMapped {X Y : Type 0} (f : X → Y) (xs : List X) (i : ℕ) (y : Y) : Type 0 where
  pub from : X
  pub stands : slice_get xs i ≡ Some from
  pub same : f from ≡ y

pub get_mapped : {X Y : Type 0} (f : X → Y) (xs : List X) (i : ℕ) (y : Y) → slice_get (map f xs) i ≡ Some y → IsMapped f xs i y
get_mapped f [] i y at = absurd (cc)
get_mapped f (x ∷ xs) zero y at = record { from = x; stands = refl; same = same_Some (f x) y at }
get_mapped f (x ∷ xs) (suc i) y at = let r = get_mapped f xs i y at in record { from = r.from; stands = r.stands; same = r.same }

-- where an element of a list with one more stands
pub get_push : {X : Type 0} (xs : List X) (x : X) (i : ℕ) (y : X) → slice_get (xs ++ x ∷ []) i ≡ Some y →
    (slice_get xs i ≡ Some y) ⊎ ((i ≡ length xs) × (x ≡ y))
get_push [] x zero y at = inr (refl, same_Some x y at)
get_push [] x (suc i) y at = absurd (cc)
get_push (z ∷ xs) x zero y at = inl at
get_push (z ∷ xs) x (suc i) y at = by (get_push xs x i y at)
  where
    by : (slice_get xs i ≡ Some y) ⊎ ((i ≡ length xs) × (x ≡ y)) → (slice_get xs i ≡ Some y) ⊎ ((suc i ≡ suc (length xs)) × (x ≡ y))
    by (inl there) = inl there
    by (inr last) = inr (ap suc last.0, last.1)
