-- What meets a recursion is what its levels give.
use Rattle.std.proofs.Common.{◌≡◌, ℕ, zero, suc, ◌+◌, ◌≤◌, min, List, [], ◌∷◌, map, sum, Option, sym, ◌∙◌, ap, arith}
use Rattle.std.specs.List.{AllByRecursion}
use Rattle.pf_model.specs.Graphs.{Look, children_of, greatest, height_in, size_in, levels, height_of, size_of}
use Rattle.pf_model.specs.Boxes.{AreBoxes, box_step, box_in, box_of}
use Rattle.pf_model.specs.Laws.{AreLow}
use Rattle.fx_math.specs.Plain.{Bounds}
use Rattle.pf_model.proofs.Places.{funext}
use Rattle.pf_model.proofs.Levels.{levels_are, height_at_most, no_height, all_map, map_agree, boxes_agree, height_step, size_step, box_next, children_low, low_at, sizes_settle, size_at_limit, height_is, box_is_step}
use Rattle.pf_model.specs.Laws.{AreHeights, AreSizes}

-- what meets a recursion is what the levels give, where no chain is longer
pub one_solution : {X : Type 0} (look : Look) (F : ℕ → ℕ → X) (f : ℕ → X) (up : ℕ → (ℕ → X) → X)
    → ((n id : ℕ) → F (suc n) id ≡ up id (F n))
    → ((id : ℕ) → f id ≡ up id f)
    → ((id : ℕ) (p q : ℕ → X) → AllByRecursion (λ c. p c ≡ q c) (children_of look id) → up id p ≡ up id q)
    → (n id : ℕ) → height_in (suc n) look id ≤ n → f id ≡ F n id
one_solution look F f up step meets same zero id l = absurd (no_height look id l)
one_solution look F f up step meets same (suc m) id l =
    meets id
    ∙ same id f (F m)
    (all_map (λ c. height_in (suc m) look c ≤ m) (λ c. f c ≡ F m c) (λ c h. one_solution look F f up step meets same m c h) (children_of look id) (children_low look m id l))
    ∙ sym (step m id)

pub sizes_are : (look : Look) (sizes : ℕ → ℕ) → AreLow look → AreSizes look sizes → (id : ℕ) → sizes id ≡ size_of look id
sizes_are look sizes low meets id =
    one_solution look (λ n. size_in n look) sizes (λ id f. 1 + sum (map f (children_of look id))) (λ n id. size_step n look id) meets.step
    (λ id f g h. ap (λ xs. 1 + sum xs) (map_agree f g (children_of look id) h)) 32 id (low_at look id (low id))
    ∙ sym (size_at_limit look id (low id))

pub boxes_are : (look : Look) (boxes : ℕ → Option Bounds) → AreLow look → AreBoxes look boxes → (id : ℕ) → boxes id ≡ box_of look id
boxes_are look boxes low meets id =
    one_solution look (λ n. box_in n look) boxes (λ id f. box_step look f id) (λ n id. box_next n look id) meets.step
    (λ id f g h. boxes_agree (look id) f g h) 32 id (low_at look id (low id))

-- Heights

greatest_capped : (n : ℕ) (h : ℕ → ℕ) (cs : List ℕ) → greatest (map (λ c. min n (h c)) cs) ≡ min n (greatest (map h cs))
greatest_capped n h [] = omega arith
greatest_capped n h (c ∷ cs) = let rest = greatest_capped n h cs in omega (arith, rest)

pub heights_capped : (look : Look) (h : ℕ → ℕ) → AreHeights look h → (n id : ℕ) → height_in n look id ≡ min n (h id)
heights_capped look h meets zero id = let z : height_in 0 look id ≤ 0 = height_at_most 0 look id in omega arith
heights_capped look h meets (suc n) id =
    let all : greatest (map (height_in n look) (children_of look id)) ≡ greatest (map (λ c. min n (h c)) (children_of look id)) =
    ap (λ (f : ℕ → ℕ). greatest (map f (children_of look id))) (funext (height_in n look) (λ c. min n (h c)) (heights_capped look h meets n)) in
    let capped : greatest (map (λ c. min n (h c)) (children_of look id)) ≡ min n (greatest (map h (children_of look id))) = greatest_capped n h (children_of look id) in
    let step : height_in (suc n) look id ≡ 1 + greatest (map (height_in n look) (children_of look id)) = height_step n look id in
    let meet : h id ≡ 1 + greatest (map h (children_of look id)) = meets.step id in
    omega arith

pub heights_bounded : (look : Look) (h : ℕ → ℕ) → AreHeights look h → (id : ℕ) → height_of look id ≡ min 4097 (h id)
heights_bounded look h meets id = heights_capped look h meets levels id ∙ ap (λ n. min n (h id)) levels_are

pub heights_are : (look : Look) (h : ℕ → ℕ) → AreLow look → AreHeights look h → (id : ℕ) → h id ≡ height_of look id
heights_are look h low meets id =
    let bound : height_of look id ≡ min 4097 (h id) = heights_bounded look h meets id in
    let small : height_of look id ≤ 32 = low id in
    omega arith

-- The definitions meet their recursions

pub heights_meet : (look : Look) → AreLow look → AreHeights look (height_of look)
heights_meet look low = record { step = λ id. height_is look id (low id) }

pub sizes_meet : (look : Look) → AreLow look → AreSizes look (size_of look)
sizes_meet look low = record {
  step = λ id.
      size_at_limit look id (low id)
      ∙ sym (sizes_settle look 32 id 1 (low_at look id (low id)))
      ∙ size_step 32 look id
      ∙ ap (λ (f : ℕ → ℕ). 1 + sum (map f (children_of look id))) (sym (funext (size_of look) (size_in 32 look) (λ c. size_at_limit look c (low c))));
}

pub boxes_meet : (look : Look) → AreLow look → AreBoxes look (box_of look)
boxes_meet look low = record { step = λ id. box_is_step look id (low id) }
