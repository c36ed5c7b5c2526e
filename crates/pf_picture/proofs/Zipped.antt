-- Lists that a relation joins, element by element.
use Rattle.std.proofs.Common.{◌≡◌, ℕ, ◌+◌, ◌<◌, List, [], ◌∷◌, ◌++◌, length, take, get_or, ap, sym, ◌∙◌, subst}
use Rattle.std.specs.Prelude.{map}
use Rattle.std.specs.List.{AllZip}
use Rattle.std.proofs.lemmas.List.{map-append, take_more}

pub zip_push : {A B : Type 0} (R : A → B → Type 0) (xs : List A) (ys : List B) (x : A) (y : B) → AllZip R xs ys → R x y → AllZip R (xs ++ x ∷ []) (ys ++ y ∷ [])
zip_push R [] [] x y all one = (one, all)
zip_push R [] (z ∷ zs) x y all one = absurd all
zip_push R (w ∷ ws) [] x y all one = absurd all
zip_push R (w ∷ ws) (z ∷ zs) x y all one = (all.0, zip_push R ws zs x y all.1 one)

-- a loop's step, where the first list is made by f of the elements gone over
pub zip_more : {X A B : Type 0} (R : A → B → Type 0) (f : X → A) (xs : List X) (i : ℕ) (x : X) (ys : List B) (y : B) → i < length xs → x ≡ get_or xs i x → AllZip R (map f (take i xs)) ys → R (f x) y → AllZip R (map f (take (i + 1) xs)) (ys ++ y ∷ [])
zip_more {X} {A} {B} R f xs i x ys y l is all one = subst (λ (zs : List A). AllZip R zs (ys ++ y ∷ [])) (sym taken) (zip_push R (map f (take i xs)) ys (f x) y all one)
  where
    taken : map f (take (i + 1) xs) ≡ map f (take i xs) ++ f x ∷ []
    taken = ap (map f) (take_more xs i x l ∙ ap (λ (w : X). take i xs ++ w ∷ []) (sym is)) ∙ map-append f (take i xs) (x ∷ [])
