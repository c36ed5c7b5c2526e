-- Limits that are kept where one node gets other children, told by the extents of before.
use Rattle.std.proofs.Common.{◌≡◌, ℕ, zero, suc, ◌+◌, ◌*◌, ◌<◌, ◌≤◌, min, max, Bool, true, false, cond, ◌==◌, List, [], ◌∷◌, map, sum, reverse, None, is_some, ◌-◌, refl, sym, ◌∙◌, ap, subst, arith, add-mul, mul-le-mul_right, mul_comm, le_of_mul-le-mul_right}
use Rattle.std.proofs.lemmas.Bool.{eqb-true, eq-eqb}
use Rattle.std.proofs.lemmas.List.Sums.{sum_by-cons}
use Rattle.pf_model.specs.Graphs.{Look, node_at, change, levels, children_of, greatest, height_in, size_in, height_of, size_of}
use Rattle.pf_model.specs.Laws.{AreLow}
use Rattle.pf_model.specs.NodeEdits.{with_children}
use Rattle.pf_model.specs.Edits.{first, size_rules}
use Rattle.pf_model.proofs.Finds.{node_at_change}
use Rattle.pf_model.proofs.Levels.{height_at_most, height_step, size_step}
use Rattle.pf_edits.specs.declared.extents.Extent.{Extent}
use Rattle.pf_edits.specs.Tables.{Slots}
use Rattle.pf_edits.specs.Ways.{is_in, LeadUp}
use Rattle.pf_edits.specs.Extents.{look_of, extent_at, reckoned, Meets, IsWithin}
use Rattle.pf_edits.specs.Listed.{nodes_of}
use Rattle.pf_edits.proofs.Marks.{in_reverse}
use Rattle.pf_edits.proofs.Ups.{ahead, behind, not_true, no_true, up_closed, height_above, reckoned_height, reckoned_size}
use Rattle.pf_edits.proofs.Sizes.{all_fine}
use Rattle.pf_edits.proofs.Relinks.{children_changed, all_within}
use Rattle.pf_edits.proofs.Listed.{looks}
use Rattle.pf_edits.proofs.Undoes.{changed_rising}

-- Numbers of children that are bounded one by one

greatest_by : (u v : ℕ → ℕ) (p : ℕ) (cs : List ℕ) → ((c : ℕ) → is_in c cs ≡ true → u c ≤ v c + p) → greatest (map u cs) ≤ greatest (map v cs) + p
greatest_by u v p [] h = omega arith
greatest_by u v p (c ∷ cs) h =
    let here : u c ≤ v c + p = h c (ahead (c == c) (is_in c cs) (eq-eqb c c refl)) in
    let rest : greatest (map u cs) ≤ greatest (map v cs) + p = greatest_by u v p cs (λ d k. h d (behind (c == d) (is_in d cs) k)) in
    omega arith

sum_by : (u v : ℕ → ℕ) (a m : ℕ) (cs : List ℕ) → ((c : ℕ) → is_in c cs ≡ true → u c * a ≤ v c * m) → sum (map u cs) * a ≤ sum (map v cs) * m
sum_by u v a m [] h = omega arith
sum_by u v a m (c ∷ cs) h =
    let here : u c * a ≤ v c * m = h c (ahead (c == c) (is_in c cs) (eq-eqb c c refl)) in
    let rest : sum (map u cs) * a ≤ sum (map v cs) * m = sum_by u v a m cs (λ d k. h d (behind (c == d) (is_in d cs) k)) in
    let us : sum (map u (c ∷ cs)) * a ≡ u c * a + sum (map u cs) * a = ap (λ n. n * a) (sum_by-cons (λ (n : ℕ). n) (u c) (map u cs)) ∙ add-mul (u c) (sum (map u cs)) a in
    let vs : sum (map v (c ∷ cs)) * m ≡ v c * m + sum (map v cs) * m = ap (λ n. n * m) (sum_by-cons (λ (n : ℕ). n) (v c) (map v cs)) ∙ add-mul (v c) (sum (map v cs)) m in
    omega (arith, here, rest, us, vs)

one_more : (n a : ℕ) → (1 + n) * a ≡ a + n * a
one_more n a = add-mul 1 n a ∙ omega arith

-- The nodes f, and g with other children cs at one node, which is on a way up from it; no new child is on the way
module _ (f g : Look) (ext : ℕ → Extent) (id : ℕ) (cs way : List ℕ) (meets : Meets f ext) (within : (b : ℕ) → IsWithin (ext b)) (leads : LeadUp f way) (on : is_in id way ≡ true)
    (apart : (x : ℕ) → is_in x way ≡ true → is_in x cs ≡ false) (kids : (b : ℕ) → children_of g b ≡ cond (b == id) cs (children_of f b)) where
  new_kids : children_of g id ≡ cs
  new_kids = kids id ∙ ap (λ t. cond t cs (children_of f id)) (eq-eqb id id refl)

  same_kids : (b : ℕ) → (b == id) ≡ false → children_of g b ≡ children_of f b
  same_kids b e = kids b ∙ ap (λ t. cond t cs (children_of f b)) e

  off_kids : (b : ℕ) → is_in b way ≡ false → children_of g b ≡ children_of f b
  off_kids b off = same_kids b (no_true (b == id) (λ h. not_true on (subst (λ (x : ℕ). is_in x way ≡ false) (eqb-true b id h) off)))

  off_child : (b c : ℕ) → is_in b way ≡ false → is_in c (children_of f b) ≡ true → is_in c way ≡ false
  off_child b c off is = no_true (is_in c way) (λ h. not_true (up_closed f way leads b c h is) off)

  off_new : (c : ℕ) → is_in c cs ≡ true → is_in c way ≡ false
  off_new c is = no_true (is_in c way) (λ h. not_true is (apart c h))

  -- what the extents of before are
  height_here : (b : ℕ) → (ext b).height ≡ 1 + greatest (map (λ c. (ext c).height) (children_of f b))
  height_here b =
      let e : (ext b).height ≡ min 4097 (1 + greatest (map (λ c. (ext c).height) (children_of f b))) = ap (λ (x : Extent). x.height) (meets b) ∙ reckoned_height ext (children_of f b) in
      let l : (ext b).height ≤ 32 = (within b).low in
      omega (arith, e, l)

  size_here : (b : ℕ) → (ext b).size ≡ 1 + sum (map (λ c. (ext c).size) (children_of f b))
  size_here b =
      let e : (ext b).size ≡ min 131073 (1 + sum (map (λ c. (ext c).size) (children_of f b))) = ap (λ (x : Extent). x.size) (meets b) ∙ reckoned_size ext (children_of f b) in
      let l : (ext b).size ≤ 131072 = (within b).small in
      omega (arith, e, l)

  -- Heights

  height_next : (n b : ℕ) (ds : List ℕ) → children_of g b ≡ ds → height_in (suc n) g b ≡ 1 + greatest (map (height_in n g) ds)
  height_next n b ds e = height_step n g b ∙ ap (λ (xs : List ℕ). 1 + greatest (map (height_in n g) xs)) e

  height_off : (n b : ℕ) → is_in b way ≡ false → height_in n g b ≤ (ext b).height
  height_off zero b off = let z : height_in 0 g b ≤ 0 = height_at_most 0 g b in omega (arith, z)
  height_off (suc n) b off =
      let s : height_in (suc n) g b ≡ 1 + greatest (map (height_in n g) (children_of f b)) = height_next n b (children_of f b) (off_kids b off) in
      let k : greatest (map (height_in n g) (children_of f b)) ≤ greatest (map (λ c. (ext c).height) (children_of f b)) + 0 =
      greatest_by (height_in n g) (λ c. (ext c).height) 0 (children_of f b) (λ c is. let l : height_in n g c ≤ (ext c).height = height_off n c (off_child b c off is) in omega (arith, l)) in
      let e : (ext b).height ≡ 1 + greatest (map (λ c. (ext c).height) (children_of f b)) = height_here b in
      omega (arith, s, k, e)

  module _ (p : ℕ) (raised : 1 + greatest (map (λ c. (ext c).height) cs) ≤ (ext id).height + p) where
    pub height_over : (n b : ℕ) → height_in n g b ≤ (ext b).height + p
    height_over zero b = let z : height_in 0 g b ≤ 0 = height_at_most 0 g b in omega (arith, z)
    height_over (suc n) b = by (λ c. height_over n c) (b == id) refl
      where
        by : ((c : ℕ) → height_in n g c ≤ (ext c).height + p) → (t : Bool) → (b == id) ≡ t → height_in (suc n) g b ≤ (ext b).height + p
        by rest true e =
            let s : height_in (suc n) g id ≡ 1 + greatest (map (height_in n g) cs) = height_next n id cs new_kids in
            let k : greatest (map (height_in n g) cs) ≤ greatest (map (λ c. (ext c).height) cs) + 0 =
            greatest_by (height_in n g) (λ c. (ext c).height) 0 cs (λ c is. let l : height_in n g c ≤ (ext c).height = height_off n c (off_new c is) in omega (arith, l)) in
            subst (λ (x : ℕ). height_in (suc n) g x ≤ (ext x).height + p) (sym (eqb-true b id e)) (omega (arith, s, k, raised))
        by rest false e =
            let s : height_in (suc n) g b ≡ 1 + greatest (map (height_in n g) (children_of f b)) = height_next n b (children_of f b) (same_kids b e) in
            let k : greatest (map (height_in n g) (children_of f b)) ≤ greatest (map (λ c. (ext c).height) (children_of f b)) + p =
            greatest_by (height_in n g) (λ c. (ext c).height) p (children_of f b) (λ c is. rest c) in
            let h : (ext b).height ≡ 1 + greatest (map (λ c. (ext c).height) (children_of f b)) = height_here b in
            omega (arith, s, k, h)

  -- Sizes

  size_next : (n b : ℕ) (ds : List ℕ) → children_of g b ≡ ds → size_in (suc n) g b ≡ 1 + sum (map (size_in n g) ds)
  size_next n b ds e = size_step n g b ∙ ap (λ (xs : List ℕ). 1 + sum (map (size_in n g) xs)) e

  size_none : (b : ℕ) → size_in 0 g b ≡ 0
  unfolding size_in
  size_none b = refl

  size_off : (n b : ℕ) → is_in b way ≡ false → size_in n g b * 1 ≤ (ext b).size * 1
  size_off zero b off = let z : size_in 0 g b ≡ 0 = size_none b in omega (arith, z)
  size_off (suc n) b off =
      let s : size_in (suc n) g b ≡ 1 + sum (map (size_in n g) (children_of f b)) = size_next n b (children_of f b) (off_kids b off) in
      let k : sum (map (size_in n g) (children_of f b)) * 1 ≤ sum (map (λ c. (ext c).size) (children_of f b)) * 1 =
      sum_by (size_in n g) (λ c. (ext c).size) 1 1 (children_of f b) (λ c is. size_off n c (off_child b c off is)) in
      let e : (ext b).size ≡ 1 + sum (map (λ c. (ext c).size) (children_of f b)) = size_here b in
      omega (arith, s, k, e)

  module _ (m : ℕ) (old : (ext id).size ≤ m) (new : 1 + sum (map (λ c. (ext c).size) cs) ≤ m) where
    pub size_over : (n b : ℕ) → size_in n g b * (ext id).size ≤ (ext b).size * m
    size_over zero b = let z : size_in 0 g b * (ext id).size ≡ 0 * (ext id).size = ap (λ k. k * (ext id).size) (size_none b) in let y : 0 * (ext id).size ≡ 0 = omega arith in omega (arith, z, y)
    size_over (suc n) b = by (λ c. size_over n c) (b == id) refl
      where
        by : ((c : ℕ) → size_in n g c * (ext id).size ≤ (ext c).size * m) → (t : Bool) → (b == id) ≡ t → size_in (suc n) g b * (ext id).size ≤ (ext b).size * m
        by rest true e =
            let s : size_in (suc n) g id ≡ 1 + sum (map (size_in n g) cs) = size_next n id cs new_kids in
            let k : sum (map (size_in n g) cs) * 1 ≤ sum (map (λ c. (ext c).size) cs) * 1 = sum_by (size_in n g) (λ c. (ext c).size) 1 1 cs (λ c is. size_off n c (off_new c is)) in
            let l : size_in (suc n) g id ≤ m = omega (arith, s, k, new) in
            let r : size_in (suc n) g id * (ext id).size ≤ m * (ext id).size = mul-le-mul_right (ext id).size l in
            let t : m * (ext id).size ≡ (ext id).size * m = mul_comm m (ext id).size in
            subst (λ (x : ℕ). size_in (suc n) g x * (ext id).size ≤ (ext x).size * m) (sym (eqb-true b id e)) (omega (arith, r, t))
        by rest false e =
            let s : size_in (suc n) g b * (ext id).size ≡ (ext id).size + sum (map (size_in n g) (children_of f b)) * (ext id).size =
            ap (λ k. k * (ext id).size) (size_next n b (children_of f b) (same_kids b e)) ∙ one_more (sum (map (size_in n g) (children_of f b))) (ext id).size in
            let k : sum (map (size_in n g) (children_of f b)) * (ext id).size ≤ sum (map (λ c. (ext c).size) (children_of f b)) * m =
            sum_by (size_in n g) (λ c. (ext c).size) (ext id).size m (children_of f b) (λ c is. rest c) in
            let h : (ext b).size * m ≡ m + sum (map (λ c. (ext c).size) (children_of f b)) * m =
            ap (λ k. k * m) (size_here b) ∙ one_more (sum (map (λ c. (ext c).size) (children_of f b))) m in
            omega (arith, s, k, h, old)

-- No fault where the greatest height on the way has room for what the node's own grows, and the greatest size for the factor by which the node's grows
module _ (s : Slots) (id : ℕ) (e : Extent) (way : List ℕ) (there : is_some (look_of s id) ≡ true) (meets : Meets (look_of s) (extent_at s)) (low : AreLow (look_of s)) (small : (b : ℕ) → size_of (look_of s) b ≤ 131072)
    (leads : LeadUp (look_of s) (reverse way)) (on : is_in id (reverse way) ≡ true)
    (shallow : greatest (map (λ b. (extent_at s b).height) way) + (e.height - (extent_at s id).height) ≤ 32)
    (light : greatest (map (λ b. (extent_at s b).size) way) * max (extent_at s id).size e.size ≤ 131072 * (extent_at s id).size)
    (cs : List ℕ) (is : e ≡ reckoned (extent_at s) cs) (apart : (x : ℕ) → is_in x (reverse way) ≡ true → is_in x cs ≡ false) where
  abbrev nodes_after : Look
  nodes_after = node_at (change id (with_children cs) (nodes_of s))

  within_all : (b : ℕ) → IsWithin (extent_at s b)
  within_all = all_within s meets low small

  kids_after : (b : ℕ) → children_of nodes_after b ≡ cond (b == id) cs (children_of (look_of s) b)
  kids_after =
      subst (λ (f : Look). (b : ℕ) → children_of nodes_after b ≡ cond (b == id) cs (children_of f b)) (looks s)
      (children_changed (node_at (nodes_of s)) nodes_after id cs (subst (λ (f : Look). is_some (f id) ≡ true) (sym (looks s)) there) (node_at_change (with_children cs) id (nodes_of s)))

  on_height : (b : ℕ) → is_in b (reverse way) ≡ true → (extent_at s b).height ≤ greatest (map (λ b. (extent_at s b).height) way)
  on_height b h = height_above (λ b. (extent_at s b).height) b way (sym (in_reverse b way) ∙ h)

  on_size : (b : ℕ) → is_in b (reverse way) ≡ true → (extent_at s b).size ≤ greatest (map (λ b. (extent_at s b).size) way)
  on_size b h = height_above (λ b. (extent_at s b).size) b way (sym (in_reverse b way) ∙ h)

  raised : 1 + greatest (map (λ c. (extent_at s c).height) cs) ≤ (extent_at s id).height + (e.height - (extent_at s id).height)
  raised =
      let h : e.height ≡ min 4097 (1 + greatest (map (λ c. (extent_at s c).height) cs)) = ap (λ (x : Extent). x.height) is ∙ reckoned_height (extent_at s) cs in
      let k : (extent_at s id).height ≤ greatest (map (λ b. (extent_at s b).height) way) = on_height id on in
      let w : (extent_at s id).height ≤ 32 = (within_all id).low in
      omega (arith, h, k, w, shallow)

  some_size : 0 < (extent_at s id).size
  some_size = let z = size_here (look_of s) nodes_after (extent_at s) id cs (reverse way) meets within_all leads on apart kids_after id in omega (arith, z)

  most : max (extent_at s id).size e.size ≤ 131072
  most =
      let k : (extent_at s id).size * max (extent_at s id).size e.size ≤ greatest (map (λ b. (extent_at s b).size) way) * max (extent_at s id).size e.size =
      mul-le-mul_right (max (extent_at s id).size e.size) (on_size id on) in
      let t : max (extent_at s id).size e.size * (extent_at s id).size ≡ (extent_at s id).size * max (extent_at s id).size e.size = mul_comm (max (extent_at s id).size e.size) (extent_at s id).size in
      let l : max (extent_at s id).size e.size * (extent_at s id).size ≤ 131072 * (extent_at s id).size = omega (arith, k, t, light) in
      le_of_mul-le-mul_right l some_size

  grown : 1 + sum (map (λ c. (extent_at s c).size) cs) ≤ max (extent_at s id).size e.size
  grown =
      let h : e.size ≡ min 131073 (1 + sum (map (λ c. (extent_at s c).size) cs)) = ap (λ (x : Extent). x.size) is ∙ reckoned_size (extent_at s) cs in
      let m : max (extent_at s id).size e.size ≤ 131072 = most in
      omega (arith, h, m)

  each_low : (b : ℕ) → height_of nodes_after b ≤ 32
  each_low b = by (is_in b (reverse way)) refl
    where
      by : (t : Bool) → is_in b (reverse way) ≡ t → height_of nodes_after b ≤ 32
      by true h =
          let k : height_of nodes_after b ≤ (extent_at s b).height + (e.height - (extent_at s id).height) =
          height_over (look_of s) nodes_after (extent_at s) id cs (reverse way) meets within_all leads on apart kids_after (e.height - (extent_at s id).height) raised levels b in
          let l : (extent_at s b).height ≤ greatest (map (λ b. (extent_at s b).height) way) = on_height b h in
          omega (arith, k, l, shallow)
      by false h =
          let k : height_of nodes_after b ≤ (extent_at s b).height = height_off (look_of s) nodes_after (extent_at s) id cs (reverse way) meets within_all leads on apart kids_after levels b h in
          let l : (extent_at s b).height ≤ 32 = (within_all b).low in
          omega (arith, k, l)

  each_small : (b : ℕ) → size_of nodes_after b ≤ 131072
  each_small b = by (is_in b (reverse way)) refl
    where
      by : (t : Bool) → is_in b (reverse way) ≡ t → size_of nodes_after b ≤ 131072
      by true h =
          let k : size_of nodes_after b * (extent_at s id).size ≤ (extent_at s b).size * max (extent_at s id).size e.size =
          size_over (look_of s) nodes_after (extent_at s) id cs (reverse way) meets within_all leads on apart kids_after (max (extent_at s id).size e.size) (omega arith) grown levels b in
          let l : (extent_at s b).size * max (extent_at s id).size e.size ≤ greatest (map (λ b. (extent_at s b).size) way) * max (extent_at s id).size e.size =
          mul-le-mul_right (max (extent_at s id).size e.size) (on_size b h) in
          let m : size_of nodes_after b * (extent_at s id).size ≤ 131072 * (extent_at s id).size = omega (arith, k, l, light) in
          le_of_mul-le-mul_right m some_size
      by false h =
          let k : size_of nodes_after b * 1 ≤ (extent_at s b).size * 1 = size_off (look_of s) nodes_after (extent_at s) id cs (reverse way) meets within_all leads on apart kids_after levels b h in
          let l : (extent_at s b).size ≤ 131072 = (within_all b).small in
          omega (arith, k, l)

  pub spared : first (size_rules (change id (with_children cs) (nodes_of s))) ≡ None
  spared = all_fine (change id (with_children cs) (nodes_of s)) (changed_rising s id (with_children cs)) each_low each_small
