-- Lists joined end to end, and one of them.
use Rattle.std.proofs.Common.{◌≡◌, ℕ, zero, suc, ◌+◌, ◌*◌, ◌<◌, ◌≤◌, List, [], ◌∷◌, ◌++◌, refl, sym, ap, ◌∙◌, arith, length, take, drop, set, get_or, length-append, append_assoc, append-nil}
use Rattle.std.specs.List.{concat}
use Rattle.std.proofs.lemmas.List.{set-append_left}
use Rattle.std.proofs.lemmas.List.Folds.{concat-append}

-- those before one, that one, and those behind it
pub parted : (xss : List (List ℕ)) (k : ℕ) → k < length xss
    → concat xss ≡ concat (take k xss) ++ (get_or xss k [] ++ concat (drop (suc k) xss))
parted [] k within = absurd (omega arith)
parted (xs ∷ xss) zero within = refl
parted (xs ∷ xss) (suc k) within =
    ap (λ rest. xs ++ rest) (parted xss k (omega (arith, within)))
    ∙ sym (append_assoc xs (concat (take k xss)) (get_or xss k [] ++ concat (drop (suc k) xss)))

-- the same with another list in its place
pub parted-set : (xss : List (List ℕ)) (k : ℕ) (ys : List ℕ) → k < length xss
    → concat (set xss k ys) ≡ concat (take k xss) ++ (ys ++ concat (drop (suc k) xss))
parted-set [] k ys within = absurd (omega arith)
parted-set (xs ∷ xss) zero ys within = refl
parted-set (xs ∷ xss) (suc k) ys within =
    ap (λ rest. xs ++ rest) (parted-set xss k ys (omega (arith, within)))
    ∙ sym (append_assoc xs (concat (take k xss)) (ys ++ concat (drop (suc k) xss)))

-- one more list at the end
pub concat-push : (xss : List (List ℕ)) (xs : List ℕ) → concat (xss ++ xs ∷ []) ≡ concat xss ++ xs
concat-push xss xs = concat-append xss (xs ∷ []) ∙ ap (λ rest. concat xss ++ rest) (append-nil xs)

-- lists of one length
pub length-before : (s : ℕ) (xss : List (List ℕ)) (k : ℕ) → k ≤ length xss
    → ((j : ℕ) → j < k → length (get_or xss j []) ≡ s) → length (concat (take k xss)) ≡ s * k
length-before s xss zero within each = let none : s * 0 ≡ 0 = grind arith in sym none
length-before s [] (suc k) within each = absurd (omega arith)
length-before s (xs ∷ xss) (suc k) within each =
    let rest = length-before s xss k (omega (arith, within)) (λ j below. each (suc j) (omega (arith, below))) in
    let first : length xs ≡ s = each 0 (omega arith) in
    let size : s * suc k ≡ s + s * k = grind arith in
    length-append xs (concat (take k xss)) ∙ ap (λ n. n + length (concat (take k xss))) first ∙ ap (λ n. s + n) rest
    ∙ sym size

-- a write behind a front
set-behind : (front ys : List ℕ) (p v : ℕ) → set (front ++ ys) (length front + p) v ≡ front ++ set ys p v
set-behind [] ys p v = let start : 0 + p ≡ p = omega arith in ap (λ q. set ys q v) start
set-behind (x ∷ front) ys p v =
    let next : suc (length front) + p ≡ suc (length front + p) = omega arith in
    ap (λ q. set (x ∷ (front ++ ys)) q v) next ∙ ap (λ rest. x ∷ rest) (set-behind front ys p v)

-- a write within the middle one of three
pub set-between : (front middle back : List ℕ) (p v : ℕ) → p < length middle
    → set (front ++ (middle ++ back)) (length front + p) v ≡ front ++ (set middle p v ++ back)
set-between front middle back p v within =
    set-behind front (middle ++ back) p v ∙ ap (λ rest. front ++ rest) (set-append_left middle back p v within)
