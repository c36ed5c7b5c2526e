-- The greatest height and the greatest size of a graph from those along a way.
use Rattle.std.proofs.Common.{◌≡◌, ℕ, ◌<◌, ◌≤◌, min, max, Bool, true, false, cond, ◌||◌, ◌==◌, nat_lt, List, [], ◌∷◌, map, Option, Some, None, refl, sym, ◌∙◌, ap, subst, arith}
use Rattle.std.specs.List.{list_any, AllByRecursion}
use Rattle.std.specs.Option.{option_map_or}
use Rattle.std.proofs.lemmas.Bool.{eqb-true, eq-eqb}
use Rattle.std.proofs.lemmas.Bool.Decides.{nat_tests}
use Rattle.pf_model.specs.declared.nodes.Node.{Node}
use Rattle.pf_model.specs.declared.edits.Fault.TheVariants as fault
use Rattle.pf_model.specs.Graphs.{Nodes, node_at, has_id, greatest, height_of, size_of}
use Rattle.pf_model.specs.Edits.{first, when, greatest_height, deep, large, size_rules}
use Rattle.pf_model.specs.Limits.{IsRising}
use Rattle.pf_model.specs.Laws.{AreLow}
use Rattle.pf_model.proofs.Places.{node_at_step, all_found, from_found}
use Rattle.pf_edits.specs.declared.extents.Extent.{Extent}
use Rattle.pf_edits.specs.Ways.{is_in}
use Rattle.pf_edits.specs.Extents.{reckoned, Meets, IsWithin}
use Rattle.pf_edits.proofs.Ups.{height_above, heights_are, sizes_are, ahead, behind}
use Rattle.pf_edits.proofs.Listed.{found}

-- Nodes and a number of each

pub at_least : (f : ℕ → ℕ) (nodes : Nodes) (b : ℕ) (n : Node) → node_at nodes b ≡ Some n → f b ≤ greatest (map (λ (e : ℕ × Node). f e.0) nodes)
at_least f [] b n found = absurd (cc)
at_least f (x ∷ xs) b n found = by (at_least f xs b n) (has_id b x) refl
  where
    by : (node_at xs b ≡ Some n → f b ≤ greatest (map (λ (e : ℕ × Node). f e.0) xs)) → (t : Bool) → has_id b x ≡ t → f b ≤ max (f x.0) (greatest (map (λ (e : ℕ × Node). f e.0) xs))
    by rest true e = subst (λ (y : ℕ). f y ≤ max (f x.0) (greatest (map (λ (e : ℕ × Node). f e.0) xs))) (eqb-true x.0 b e) (omega arith)
    by rest false e =
        let l : f b ≤ greatest (map (λ (e : ℕ × Node). f e.0) xs) = rest (sym (node_at_step b x xs ∙ ap (λ t. cond t (Some x.1) (node_at xs b)) e) ∙ found) in
        omega arith

at_most : (f : ℕ → ℕ) (m : ℕ) (nodes : Nodes) → AllByRecursion (λ e. f e.0 ≤ m) nodes → greatest (map (λ (e : ℕ × Node). f e.0) nodes) ≤ m
at_most f m [] h = omega arith
at_most f m (x ∷ xs) h = let here : f x.0 ≤ m = h.0 in let rest : greatest (map (λ (e : ℕ × Node). f e.0) xs) ≤ m = at_most f m xs h.1 in omega arith

any_at : (p : ℕ → Bool) (nodes : Nodes) (b : ℕ) (n : Node) → node_at nodes b ≡ Some n → p b ≡ true → list_any (λ (e : ℕ × Node). p e.0) nodes ≡ true
any_at p [] b n found h = absurd (cc)
any_at p (x ∷ xs) b n found h = by (λ k. any_at p xs b n k h) (has_id b x) refl
  where
    by : (node_at xs b ≡ Some n → list_any (λ (e : ℕ × Node). p e.0) xs ≡ true) → (t : Bool) → has_id b x ≡ t → (p x.0 || list_any (λ (e : ℕ × Node). p e.0) xs) ≡ true
    by rest true e = ahead (p x.0) (list_any (λ (e : ℕ × Node). p e.0) xs) (ap p (eqb-true x.0 b e) ∙ h)
    by rest false e = behind (p x.0) (list_any (λ (e : ℕ × Node). p e.0) xs) (rest (sym (node_at_step b x xs ∙ ap (λ t. cond t (Some x.1) (node_at xs b)) e) ∙ found))

any_none : (p : ℕ → Bool) (nodes : Nodes) → AllByRecursion (λ e. p e.0 ≡ false) nodes → list_any (λ (e : ℕ × Node). p e.0) nodes ≡ false
any_none p [] h = refl
any_none p (x ∷ xs) h = ap (λ t. t || list_any (λ (e : ℕ × Node). p e.0) xs) h.0 ∙ any_none p xs h.1

-- A greatest number is reached

record Reached (f : ℕ → ℕ) (xs : List ℕ) : Type 0 where
  pub who : ℕ
  pub is : is_in who xs ≡ true
  pub same : f who ≡ greatest (map f xs)

reached : (f : ℕ → ℕ) (xs : List ℕ) → 0 < greatest (map f xs) → Reached f xs
reached f [] l = absurd (omega arith)
reached f (x ∷ xs) l = by (reached f xs) (nat_lt (f x) (greatest (map f xs))) refl
  where
    less : (a b : ℕ) → nat_lt a b ≡ true → a < b
    less a b h = grind (arith, nat_tests)

    not_less : (a b : ℕ) → nat_lt a b ≡ false → b ≤ a
    not_less a b h = grind (arith, nat_tests)

    by : (0 < greatest (map f xs) → Reached f xs) → (t : Bool) → nat_lt (f x) (greatest (map f xs)) ≡ t → Reached f (x ∷ xs)
    by rest true e =
        let m : f x < greatest (map f xs) = less (f x) (greatest (map f xs)) e in
        let r : Reached f xs = rest (omega arith) in
        let s : f r.who ≡ greatest (map f xs) = r.same in
        record { who = r.who; is = behind (x == r.who) (is_in r.who xs) r.is; same = omega arith }
    by rest false e =
        let m : greatest (map f xs) ≤ f x = not_less (f x) (greatest (map f xs)) e in
        record { who = x; is = ahead (x == x) (is_in x xs) (eq-eqb x x refl); same = omega arith }

-- The faults of a graph of which all nodes off the way are within the limits

-- those who have more than a leaf's extent have a node
present : (nodes : Nodes) (ext : ℕ → Extent) → Meets (node_at nodes) ext → (b : ℕ) → (node_at nodes b ≡ None → ⊥) → (n : Option Node) → node_at nodes b ≡ n → (m : Node) × (node_at nodes b ≡ Some m)
present nodes ext meets b some None e = absurd (some e)
present nodes ext meets b some (Some m) e = (m, e)

leaf_of : (nodes : Nodes) (ext : ℕ → Extent) → Meets (node_at nodes) ext → (b : ℕ) → node_at nodes b ≡ None → ext b ≡ record { height = 1; size = 1 }
leaf_of nodes ext meets b none = meets b ∙ ap (λ o. reckoned ext (option_map_or (λ (m : Node). m.children) o [])) none

module _ (nodes : Nodes) (up : IsRising (map (λ e. e.0) nodes)) (ext : ℕ → Extent) (way : List ℕ) (meets : Meets (node_at nodes) ext) (outside : (b : ℕ) → is_in b way ≡ false → IsWithin (ext b)) where
  height_is : (b : ℕ) → height_of (node_at nodes) b ≡ (ext b).height
  height_is b = sym (heights_are (node_at nodes) ext meets b)

  each_height : (m b : ℕ) → 32 ≤ m → greatest (map (λ b. (ext b).height) way) ≤ m → height_of (node_at nodes) b ≤ m
  each_height m b l g = by (is_in b way) refl
    where
      same : height_of (node_at nodes) b ≡ (ext b).height
      same = height_is b

      by : (t : Bool) → is_in b way ≡ t → height_of (node_at nodes) b ≤ m
      by true e = let k : (ext b).height ≤ greatest (map (λ b. (ext b).height) way) = height_above (λ b. (ext b).height) b way e in let s = same in omega (arith, s)
      by false e = let k : (ext b).height ≤ 32 = (outside b e).low in let s = same in omega (arith, s)

  greatest_at_most : (m : ℕ) → 32 ≤ m → greatest (map (λ b. (ext b).height) way) ≤ m → greatest_height nodes ≤ m
  greatest_at_most m l g =
      at_most (height_of (node_at nodes)) m nodes
      (from_found (λ e. height_of (node_at nodes) e.0 ≤ m) nodes nodes (λ e f. each_height m e.0 l g) (all_found nodes up))

  greatest_reached : 32 < greatest (map (λ b. (ext b).height) way) → greatest (map (λ b. (ext b).height) way) ≤ greatest_height nodes
  greatest_reached l = by (reached (λ b. (ext b).height) way (omega arith))
    where
      by : Reached (λ b. (ext b).height) way → greatest (map (λ b. (ext b).height) way) ≤ greatest_height nodes
      by r =
          let s : (ext r.who).height ≡ greatest (map (λ b. (ext b).height) way) = r.same in
          let p = present nodes ext meets r.who (λ none. absurd (let e : (ext r.who).height ≡ 1 = ap (λ (x : Extent). x.height) (leaf_of nodes ext meets r.who none) in omega arith)) (node_at nodes r.who) refl in
          let k : height_of (node_at nodes) r.who ≤ greatest_height nodes = at_least (height_of (node_at nodes)) nodes r.who p.0 (p.1) in
          let h : height_of (node_at nodes) r.who ≡ (ext r.who).height = height_is r.who in
          omega arith

  pub is_deep : 32 < greatest (map (λ b. (ext b).height) way) → first (size_rules nodes) ≡ Some (fault.Deep (greatest (map (λ b. (ext b).height) way)))
  is_deep l =
      ap (λ g. first (when (nat_lt 32 g) (fault.Deep g) ∷ large nodes ∷ [])) same
      ∙ ap (λ t. first (when t (fault.Deep (greatest (map (λ b. (ext b).height) way))) ∷ large nodes ∷ [])) (more (greatest (map (λ b. (ext b).height) way)) l)
    where
      same : greatest_height nodes ≡ greatest (map (λ b. (ext b).height) way)
      same =
          let a : greatest_height nodes ≤ greatest (map (λ b. (ext b).height) way) = greatest_at_most (greatest (map (λ b. (ext b).height) way)) (omega arith) (omega arith) in
          let b : greatest (map (λ b. (ext b).height) way) ≤ greatest_height nodes = greatest_reached l in
          omega arith

      more : (n : ℕ) → 32 < n → nat_lt 32 n ≡ true
      more n h = grind (arith, nat_tests)

  module _ (shallow : greatest (map (λ b. (ext b).height) way) ≤ 32) where
    not_deep : deep nodes ≡ None
    not_deep = ap (λ t. when t (fault.Deep (greatest_height nodes))) (not_more (greatest_height nodes) (greatest_at_most 32 (omega arith) shallow))
      where
        not_more : (n : ℕ) → n ≤ 32 → nat_lt 32 n ≡ false
        not_more n h = grind (arith, nat_tests)

    low : AreLow (node_at nodes)
    low b = each_height 32 b (omega arith) shallow

    size_is : (b : ℕ) → (ext b).size ≡ min 131073 (size_of (node_at nodes) b)
    size_is b = sizes_are (node_at nodes) ext meets low b

    pub is_large : 131072 < greatest (map (λ b. (ext b).size) way) → first (size_rules nodes) ≡ Some fault.Large
    is_large l = by (reached (λ b. (ext b).size) way (omega arith))
      where
        more : (n : ℕ) → 131072 < min 131073 n → nat_lt 131072 n ≡ true
        more n h = grind (arith, nat_tests)

        by : Reached (λ b. (ext b).size) way → first (size_rules nodes) ≡ Some fault.Large
        by r =
            let s : (ext r.who).size ≡ greatest (map (λ b. (ext b).size) way) = r.same in
            let p = present nodes ext meets r.who (λ none. absurd (let e : (ext r.who).size ≡ 1 = ap (λ (x : Extent). x.size) (leaf_of nodes ext meets r.who none) in omega arith)) (node_at nodes r.who) refl in
            let k : (ext r.who).size ≡ min 131073 (size_of (node_at nodes) r.who) = size_is r.who in
            ap (λ o. first (o ∷ large nodes ∷ [])) not_deep
            ∙ ap (λ t. first (when t fault.Large ∷ []))
            (any_at (λ b. nat_lt 131072 (size_of (node_at nodes) b)) nodes r.who p.0 (p.1) (more (size_of (node_at nodes) r.who) (omega arith)))

    pub is_fine : greatest (map (λ b. (ext b).size) way) ≤ 131072 → first (size_rules nodes) ≡ None
    is_fine l =
        ap (λ o. first (o ∷ large nodes ∷ [])) not_deep
        ∙ ap (λ t. first (when t fault.Large ∷ []))
        (any_none (λ b. nat_lt 131072 (size_of (node_at nodes) b)) nodes
        (from_found (λ e. nat_lt 131072 (size_of (node_at nodes) e.0) ≡ false) nodes nodes (λ e f. each e.0) (all_found nodes up)))
      where
        not_more : (n : ℕ) → min 131073 n ≤ 131072 → nat_lt 131072 n ≡ false
        not_more n h = grind (arith, nat_tests)

        each : (b : ℕ) → nat_lt 131072 (size_of (node_at nodes) b) ≡ false
        each b = by (is_in b way) refl
          where
            by : (t : Bool) → is_in b way ≡ t → nat_lt 131072 (size_of (node_at nodes) b) ≡ false
            by true e =
                let k : (ext b).size ≤ greatest (map (λ b. (ext b).size) way) = height_above (λ b. (ext b).size) b way e in
                let s : (ext b).size ≡ min 131073 (size_of (node_at nodes) b) = size_is b in
                not_more (size_of (node_at nodes) b) (omega arith)
            by false e =
                let k : (ext b).size ≤ 131072 = (outside b e).small in
                let s : (ext b).size ≡ min 131073 (size_of (node_at nodes) b) = size_is b in
                not_more (size_of (node_at nodes) b) (omega arith)

-- no fault where all are within the limits
pub all_fine : (nodes : Nodes) → IsRising (map (λ e. e.0) nodes) → ((b : ℕ) → height_of (node_at nodes) b ≤ 32) → ((b : ℕ) → size_of (node_at nodes) b ≤ 131072) → first (size_rules nodes) ≡ None
all_fine nodes up low small =
    ap (λ o. first (o ∷ large nodes ∷ []))
    (ap (λ t. when t (fault.Deep (greatest_height nodes)))
    (not_more 32 (greatest_height nodes) (at_most (height_of (node_at nodes)) 32 nodes (from_found (λ e. height_of (node_at nodes) e.0 ≤ 32) nodes nodes (λ e f. low e.0) (all_found nodes up)))))
    ∙ ap (λ t. first (when t fault.Large ∷ []))
    (any_none (λ b. nat_lt 131072 (size_of (node_at nodes) b)) nodes
    (from_found (λ e. nat_lt 131072 (size_of (node_at nodes) e.0) ≡ false) nodes nodes (λ e f. not_more 131072 (size_of (node_at nodes) e.0) (small e.0)) (all_found nodes up)))
  where
    not_more : (m n : ℕ) → n ≤ m → nat_lt m n ≡ false
    not_more m n h = grind (arith, nat_tests)
