-- A loop over numbered elements that goes on from what some of them give.
use Rattle.std.proofs.Common.{◌≡◌, ℕ, ◌+◌, ◌<◌, ◌≤◌, List, [], ◌∷◌, length, take, get_or, Option, Some, None, refl, ap, sym, ◌∙◌, subst, zero-add}
use Rattle.std.specs.Prelude.{fold, filter_map}
use Rattle.std.specs.List.{enumerate_from, cons_option}
use Rattle.std.specs.Option.{option_map_or}
use Rattle.std.proofs.lemmas.List.{take_more, take_all}
use Rattle.std.proofs.lemmas.List.Sums.{fold-append}
use Rattle.std.proofs.lemmas.List.Elements.{filter_map-append}
use Rattle.std.proofs.lemmas.List.FromFn.{length-enumerate_from, get_or-enumerate_from}

fold_one : {X Y B : Type 0} (f : B → Y → B) (h : X → Option Y) (b : B) (x : X) → fold f b (filter_map h (x ∷ [])) ≡ option_map_or (f b) (h x) b
fold_one {X} {Y} {B} f h b x = by (h x)
  where
    by : (o : Option Y) → fold f b (cons_option o []) ≡ option_map_or (f b) o b
    by None = refl
    by (Some y) = refl

pub fold_filter_more : {X Y B : Type 0} (f : B → Y → B) (h : X → Option Y) (a : B) (xs : List X) (i : ℕ) (d : X) → i < length xs → fold f a (filter_map h (take (i + 1) xs)) ≡ option_map_or (f (fold f a (filter_map h (take i xs)))) (h (get_or xs i d)) (fold f a (filter_map h (take i xs)))
fold_filter_more {X} f h a xs i d l =
    ap (λ (ys : List X). fold f a (filter_map h ys)) (take_more xs i d l)
    ∙ ap (fold f a) (filter_map-append h (take i xs) (get_or xs i d ∷ []))
    ∙ fold-append f a (filter_map h (take i xs)) (filter_map h (get_or xs i d ∷ []))
    ∙ fold_one f h (fold f a (filter_map h (take i xs))) (get_or xs i d)

abbrev numbered : {X : Type 0} → ℕ → X → ℕ × X
numbered n x = (n, x)

-- the step: the element at i, under its number
pub fold_numbered_more : {X Y B : Type 0} (f : B → Y → B) (h : ℕ × X → Option Y) (a : B) (xs : List X) (i : ℕ) (x : X) → i < length xs → x ≡ get_or xs i x → fold f a (filter_map h (take (i + 1) (enumerate_from 0 xs))) ≡ option_map_or (f (fold f a (filter_map h (take i (enumerate_from 0 xs))))) (h (i, x)) (fold f a (filter_map h (take i (enumerate_from 0 xs))))
fold_numbered_more {X} {Y} {B} f h a xs i x l is =
    fold_filter_more f h a (enumerate_from 0 xs) i (i, x) (subst (λ (n : ℕ). i < n) (sym (length-enumerate_from 0 xs)) l)
    ∙ ap (λ (e : ℕ × X). option_map_or (f (fold f a (filter_map h (take i (enumerate_from 0 xs))))) (h e) (fold f a (filter_map h (take i (enumerate_from 0 xs))))) at
  where
    at : get_or (enumerate_from 0 xs) i (numbered i x) ≡ numbered i x
    at = get_or-enumerate_from 0 xs i (numbered i x) l ∙ ap (λ (n : ℕ). numbered n (get_or xs i x)) (zero-add i) ∙ ap (numbered i) (sym is)

-- the end: all of them
pub fold_numbered_all : {X Y B : Type 0} (f : B → Y → B) (h : ℕ × X → Option Y) (a : B) (xs : List X) (n : ℕ) → length xs ≤ n → fold f a (filter_map h (take n (enumerate_from 0 xs))) ≡ fold f a (filter_map h (enumerate_from 0 xs))
fold_numbered_all {X} f h a xs n l = ap (λ (es : List (ℕ × X)). fold f a (filter_map h es)) (take_all n (enumerate_from 0 xs) (subst (λ (m : ℕ). m ≤ n) (sym (length-enumerate_from 0 xs)) l))
