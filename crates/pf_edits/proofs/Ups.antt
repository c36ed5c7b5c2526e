-- Ways up from a node, and extents reckoned along them.
use Rattle.std.proofs.Common.{◌≡◌, ℕ, zero, suc, ◌+◌, ◌-◌, ◌<◌, ◌≤◌, min, max, Bool, true, false, cond, ◌||◌, ◌==◌, ◌⊎◌, inl, inr, List, [], ◌∷◌, map, sum, length, get_or, take, reverse, refl, sym, ◌∙◌, ap, subst, arith}
use Rattle.std.specs.List.{fold, AllByRecursion}
use Rattle.std.proofs.lemmas.List.{take_more, reverse-append}
use Rattle.std.proofs.lemmas.List.Sums.{sum_by-cons}
use Rattle.std.proofs.lemmas.Bool.{eqb-true, eq-eqb}
use Rattle.std.proofs.lemmas.Bool.Decides.{nat_tests}
use Rattle.pf_model.specs.Graphs.{Look, children_of, greatest, height_in, size_in, height_of, size_of}
use Rattle.pf_model.specs.Limits.{has_child}
use Rattle.pf_model.specs.Laws.{AreLow}
use Rattle.pf_model.proofs.Places.{funext}
use Rattle.pf_model.proofs.Levels.{levels_are, height_at_most, height_step, size_step, size_at_limit, low_at, children_low, no_height, all_map}
use Rattle.pf_edits.specs.declared.extents.Extent.{Extent}
use Rattle.pf_edits.specs.Tables.{Slots}
use Rattle.pf_edits.specs.Ways.{is_in, LeadUp}
use Rattle.pf_edits.specs.Extents.{look_of, leaf, joined, reckoned, extent_at, Meets, MeetBut, IsSound}

-- Truth values

pub head_or_rest : (p q : Bool) → (p || q) ≡ true → (p ≡ true) ⊎ (q ≡ true)
head_or_rest true q h = inl refl
head_or_rest false q h = inr h

pub behind : (p q : Bool) → q ≡ true → (p || q) ≡ true
behind true q h = refl
behind false q h = h

pub ahead : (p q : Bool) → p ≡ true → (p || q) ≡ true
ahead true q h = refl
ahead false q h = absurd (cc)

pub not_true : {t : Bool} → t ≡ true → t ≡ false → ⊥
not_true {t} h k = let e : true ≡ false = sym h ∙ k in cc

pub no_true : (t : Bool) → (t ≡ true → ⊥) → t ≡ false
no_true true h = absurd (h refl)
no_true false h = refl

-- Extents from the children

pub capped : ℕ → ℕ → Extent
capped h s = record { height = min 4097 h; size = min 131073 s }

capped_same : (a b s t : ℕ) → min 4097 a ≡ min 4097 b → min 131073 s ≡ min 131073 t → capped a s ≡ capped b t
unfolding capped
capped_same a b s t p q = λ i. record { height = p i; size = q i }

joined_capped : (a b : ℕ) (e : Extent) → joined (capped (1 + a) (1 + b)) e ≡ capped (1 + max a e.height) (1 + (b + e.size))
unfolding capped
joined_capped a b e =
    let high : max (min 4097 (1 + a)) (min 4097 (e.height + 1)) ≡ min 4097 (1 + max a e.height) = omega arith in
    let large : min 131073 (min 131073 (1 + b) + e.size) ≡ min 131073 (1 + (b + e.size)) = omega arith in
    λ i. record { height = high i; size = large i }

reckoned_from : (extents : ℕ → Extent) (a b : ℕ) (cs : List ℕ) → fold (λ e c. joined e (extents c)) (capped (1 + a) (1 + b)) cs
    ≡ capped (1 + max a (greatest (map (λ c. (extents c).height) cs))) (1 + (b + sum (map (λ c. (extents c).size) cs)))
reckoned_from extents a b [] = capped_same (1 + a) (1 + max a 0) (1 + b) (1 + (b + 0)) (omega arith) (omega arith)
reckoned_from extents a b (c ∷ cs) =
    ap (λ x. fold (λ e d. joined e (extents d)) x cs) (joined_capped a b (extents c))
    ∙ reckoned_from extents (max a (extents c).height) (b + (extents c).size) cs
    ∙ capped_same (1 + max (max a (extents c).height) (greatest (map (λ d. (extents d).height) cs))) (1 + max a (max (extents c).height (greatest (map (λ d. (extents d).height) cs))))
    (1 + (b + (extents c).size + sum (map (λ d. (extents d).size) cs))) (1 + (b + sum ((extents c).size ∷ map (λ d. (extents d).size) cs)))
    (omega arith) (omega (arith, sum_by-cons (λ (n : ℕ). n) (extents c).size (map (λ d. (extents d).size) cs)))

leaf_is : leaf ≡ capped (1 + 0) (1 + 0)
unfolding capped
leaf_is = refl

pub reckoned_is : (extents : ℕ → Extent) (cs : List ℕ) → reckoned extents cs ≡ capped (1 + greatest (map (λ c. (extents c).height) cs)) (1 + sum (map (λ c. (extents c).size) cs))
reckoned_is extents cs =
    ap (λ x. fold (λ e c. joined e (extents c)) x cs) leaf_is ∙ reckoned_from extents 0 0 cs
    ∙ capped_same (1 + max 0 (greatest (map (λ c. (extents c).height) cs))) (1 + greatest (map (λ c. (extents c).height) cs))
    (1 + (0 + sum (map (λ c. (extents c).size) cs))) (1 + sum (map (λ c. (extents c).size) cs)) (omega arith) (omega arith)

pub reckoned_height : (extents : ℕ → Extent) (cs : List ℕ) → (reckoned extents cs).height ≡ min 4097 (1 + greatest (map (λ c. (extents c).height) cs))
unfolding capped
reckoned_height extents cs = ap (λ (e : Extent). e.height) (reckoned_is extents cs)

pub reckoned_size : (extents : ℕ → Extent) (cs : List ℕ) → (reckoned extents cs).size ≡ min 131073 (1 + sum (map (λ c. (extents c).size) cs))
unfolding capped
reckoned_size extents cs = ap (λ (e : Extent). e.size) (reckoned_is extents cs)

-- Extents that meet the recursion are those of the definitions

greatest_capped : (n : ℕ) (h : ℕ → ℕ) (cs : List ℕ) → greatest (map (λ c. min n (h c)) cs) ≡ min n (greatest (map h cs))
greatest_capped n h [] = omega arith
greatest_capped n h (c ∷ cs) = let rest : greatest (map (λ c. min n (h c)) cs) ≡ min n (greatest (map h cs)) = greatest_capped n h cs in omega arith

heights_up : (look : Look) (extents : ℕ → Extent) → Meets look extents → (n id : ℕ) → n ≤ 4097 → height_in n look id ≡ min n (extents id).height
heights_up look extents meets zero id l = let z : height_in 0 look id ≤ 0 = height_at_most 0 look id in omega arith
heights_up look extents meets (suc n) id l =
    let each : greatest (map (height_in n look) (children_of look id)) ≡ greatest (map (λ c. min n (extents c).height) (children_of look id)) =
    ap (λ (f : ℕ → ℕ). greatest (map f (children_of look id))) (funext (height_in n look) (λ c. min n (extents c).height) (λ c. heights_up look extents meets n c (omega arith))) in
    let less : greatest (map (λ c. min n (extents c).height) (children_of look id)) ≡ min n (greatest (map (λ c. (extents c).height) (children_of look id))) = greatest_capped n (λ c. (extents c).height) (children_of look id) in
    let step : height_in (suc n) look id ≡ 1 + greatest (map (height_in n look) (children_of look id)) = height_step n look id in
    let meet : (extents id).height ≡ min 4097 (1 + greatest (map (λ c. (extents c).height) (children_of look id))) = ap (λ (e : Extent). e.height) (meets id) ∙ reckoned_height extents (children_of look id) in
    omega arith

height_capped : (look : Look) (extents : ℕ → Extent) → Meets look extents → (id : ℕ) → (extents id).height ≤ 4097
height_capped look extents meets id =
    let meet : (extents id).height ≡ min 4097 (1 + greatest (map (λ c. (extents c).height) (children_of look id))) = ap (λ (e : Extent). e.height) (meets id) ∙ reckoned_height extents (children_of look id) in
    omega arith

pub heights_are : (look : Look) (extents : ℕ → Extent) → Meets look extents → (id : ℕ) → (extents id).height ≡ height_of look id
heights_are look extents meets id =
    let h : height_in 4097 look id ≡ min 4097 (extents id).height = heights_up look extents meets 4097 id (omega arith) in
    let e : height_of look id ≡ height_in 4097 look id = ap (λ (n : ℕ). height_in n look id) levels_are in
    let l : (extents id).height ≤ 4097 = height_capped look extents meets id in
    omega arith

sum_capped : (m : ℕ) (s t : ℕ → ℕ) (cs : List ℕ) → AllByRecursion (λ c. s c ≡ min m (t c)) cs → min m (1 + sum (map s cs)) ≡ min m (1 + sum (map t cs))
sum_capped m s t cs h = let e : min m (sum (map s cs)) ≡ min m (sum (map t cs)) = by cs h in omega arith
  where
    by : (cs : List ℕ) → AllByRecursion (λ c. s c ≡ min m (t c)) cs → min m (sum (map s cs)) ≡ min m (sum (map t cs))
    by [] h = refl
    by (c ∷ cs) h =
        let rest : min m (sum (map s cs)) ≡ min m (sum (map t cs)) = by cs h.1 in
        let here : s c ≡ min m (t c) = h.0 in
        omega (arith, sum_by-cons (λ (n : ℕ). n) (s c) (map s cs), sum_by-cons (λ (n : ℕ). n) (t c) (map t cs))

sizes_up : (look : Look) (extents : ℕ → Extent) → Meets look extents → (n id : ℕ) → height_in (suc n) look id ≤ n → (extents id).size ≡ min 131073 (size_in n look id)
sizes_up look extents meets zero id l = absurd (no_height look id l)
sizes_up look extents meets (suc m) id l =
    ap (λ (e : Extent). e.size) (meets id) ∙ reckoned_size extents (children_of look id)
    ∙ sum_capped 131073 (λ c. (extents c).size) (size_in m look) (children_of look id)
    (all_map (λ c. height_in (suc m) look c ≤ m) (λ c. (extents c).size ≡ min 131073 (size_in m look c)) (λ c h. sizes_up look extents meets m c h) (children_of look id) (children_low look m id l))
    ∙ ap (λ n. min 131073 n) (sym (size_step m look id))

pub sizes_are : (look : Look) (extents : ℕ → Extent) → Meets look extents → AreLow look → (id : ℕ) → (extents id).size ≡ min 131073 (size_of look id)
sizes_are look extents meets low id =
    sizes_up look extents meets 32 id (low_at look id (low id)) ∙ ap (λ n. min 131073 n) (sym (size_at_limit look id (low id)))

-- A parent is higher

pub height_above : (h : ℕ → ℕ) (x : ℕ) (cs : List ℕ) → is_in x cs ≡ true → h x ≤ greatest (map h cs)
height_above h x [] e = absurd (cc)
height_above h x (c ∷ cs) e = by (head_or_rest (c == x) (is_in x cs) e) (height_above h x cs)
  where
    by : ((c == x) ≡ true) ⊎ (is_in x cs ≡ true) → (is_in x cs ≡ true → h x ≤ greatest (map h cs)) → h x ≤ max (h c) (greatest (map h cs))
    by (inl same) rest = subst (λ (y : ℕ). h y ≤ max (h c) (greatest (map h cs))) (eqb-true c x same) (omega arith)
    by (inr e) rest = let l : h x ≤ greatest (map h cs) = rest e in omega arith

pub parent_higher : (slots : Slots) → IsSound slots → AreLow (look_of slots) → (y x : ℕ) → has_child (look_of slots) y x ≡ true
    → 33 - (extent_at slots y).height < 33 - (extent_at slots x).height
parent_higher slots sound low y x is =
    let meet : (extent_at slots y).height ≡ min 4097 (1 + greatest (map (λ c. (extent_at slots c).height) (children_of (look_of slots) y))) =
    ap (λ (e : Extent). e.height) (sound.meets y) ∙ reckoned_height (extent_at slots) (children_of (look_of slots) y) in
    let above : (extent_at slots x).height ≤ greatest (map (λ c. (extent_at slots c).height) (children_of (look_of slots) y)) = height_above (λ c. (extent_at slots c).height) x (children_of (look_of slots) y) is in
    let ly : (extent_at slots y).height ≡ height_of (look_of slots) y = heights_are (look_of slots) (extent_at slots) sound.meets y in
    let small : height_of (look_of slots) y ≤ 32 = low y in
    omega arith

-- One node reckoned anew

pub in_cons : (x b : ℕ) (xs : List ℕ) → (b == x) ≡ false → is_in b (x ∷ xs) ≡ is_in b xs
in_cons x b xs e = ap (λ t. t || is_in b xs) (turned b x e)
  where
    turned : (p q : ℕ) → (p == q) ≡ false → (q == p) ≡ false
    turned p q e = grind (arith, nat_tests)

-- what is reckoned of children of which none has changed
pub reckoned_same : (f g : ℕ → Extent) (x : ℕ) (cs : List ℕ) → ((b : ℕ) → (b == x) ≡ false → g b ≡ f b) → is_in x cs ≡ false → (e : Extent)
    → fold (λ e c. joined e (g c)) e cs ≡ fold (λ e c. joined e (f c)) e cs
reckoned_same f g x [] same out e = refl
reckoned_same f g x (c ∷ cs) same out e =
    ap (λ d. fold (λ e c. joined e (g c)) (joined e d) cs) (same c (first (c == x) (is_in x cs) out))
    ∙ reckoned_same f g x cs same (second (c == x) (is_in x cs) out) (joined e (f c))
  where
    first : (p q : Bool) → (p || q) ≡ false → p ≡ false
    first true q h = absurd (cc)
    first false q h = refl

    second : (p q : Bool) → (p || q) ≡ false → q ≡ false
    second true q h = absurd (cc)
    second false q h = h

-- a node reckoned anew whose parents are all on a way: extents now meet the recursion there too
pub meets_by : (look : Look) (f g : ℕ → Extent) (x : ℕ) (xs : List ℕ) → ((y : ℕ) → has_child look y x ≡ true → is_in y xs ≡ true) → MeetBut look f (x ∷ xs)
    → ((b : ℕ) → g b ≡ cond (b == x) (reckoned f (children_of look x)) (f b)) → MeetBut look g xs
meets_by look f g x xs up meets set id out = by (id == x) refl
  where
    others : (b : ℕ) → (b == x) ≡ false → g b ≡ f b
    others b e = set b ∙ ap (λ t. cond t (reckoned f (children_of look x)) (f b)) e

    no_child : is_in x (children_of look id) ≡ false
    no_child = no_true (is_in x (children_of look id)) (λ h. not_true (up id h) out)

    same : reckoned g (children_of look id) ≡ reckoned f (children_of look id)
    same = reckoned_same f g x (children_of look id) others no_child leaf

    by : (t : Bool) → (id == x) ≡ t → g id ≡ reckoned g (children_of look id)
    by true e = set id ∙ ap (λ t. cond t (reckoned f (children_of look x)) (f id)) e ∙ ap (λ n. reckoned f (children_of look n)) (sym (eqb-true id x e)) ∙ sym same
    by false e = others id e ∙ meets id (in_cons x id xs e ∙ out) ∙ sym same

-- the node at the head of a way
pub meets_step : (look : Look) (f g : ℕ → Extent) (x : ℕ) (xs : List ℕ) → LeadUp look (x ∷ xs) → MeetBut look f (x ∷ xs)
    → ((b : ℕ) → g b ≡ cond (b == x) (reckoned f (children_of look x)) (f b)) → MeetBut look g xs
meets_step look f g x xs leads meets set = meets_by look f g x xs leads.0 meets set

-- the rest of a way from its end
pub rest_of : (xs : List ℕ) (i d : ℕ) → i < length xs → reverse (take (i + 1) xs) ≡ get_or xs i d ∷ reverse (take i xs)
rest_of xs i d h = ap reverse (take_more xs i d h) ∙ reverse-append (take i xs) (get_or xs i d ∷ [])

-- All above a node of a way are on it

pub up_closed : (look : Look) (xs : List ℕ) → LeadUp look xs → (y x : ℕ) → is_in x xs ≡ true → has_child look y x ≡ true → is_in y xs ≡ true
up_closed look [] leads y x h is = absurd (cc)
up_closed look (z ∷ zs) leads y x h is = behind (z == y) (is_in y zs) (by (λ k. up_closed look zs leads.1 y x k is) (head_or_rest (z == x) (is_in x zs) h))
  where
    by : (is_in x zs ≡ true → is_in y zs ≡ true) → ((z == x) ≡ true) ⊎ (is_in x zs ≡ true) → is_in y zs ≡ true
    by rest (inl e) = leads.0 y (subst (λ (w : ℕ). has_child look y w ≡ true) (sym (eqb-true z x e)) is)
    by rest (inr k) = rest k

-- A way in another graph, where what a node of it has as children is the same or not on the way
pub leads_in : (f g : Look) (xs : List ℕ) → ((y x : ℕ) → is_in x xs ≡ true → has_child g y x ≡ true → has_child f y x ≡ true) → LeadUp f xs → LeadUp g xs
leads_in f g [] less leads = tt
leads_in f g (x ∷ xs) less leads = (λ y h. leads.0 y (less y x (ap (λ t. t || is_in x xs) (eq-eqb x x refl)) h), leads_in f g xs (λ y z h k. less y z (behind (x == z) (is_in z xs) h) k) leads.1)
