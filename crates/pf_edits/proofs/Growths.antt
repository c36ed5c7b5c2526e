-- The extent of a node from what changed of its children along a way.
use Rattle.std.proofs.Common.{◌≡◌, ℕ, ◌+◌, ◌-◌, ◌<◌, ◌≤◌, min, Bool, true, false, cond, ◌||◌, ◌==◌, ◌⊎◌, inl, inr, List, [], ◌∷◌, map, sum, length, get_or, take, drop, reverse, refl, sym, ◌∙◌, ap, subst, arith}
use Rattle.std.specs.List.{sum_by}
use Rattle.std.proofs.lemmas.Bool.{eqb-true, eq-eqb}
use Rattle.std.proofs.lemmas.List.{take_all, drop_all, take-append-drop, drop_more}
use Rattle.std.proofs.lemmas.List.Sums.{sum_by-cons, sum_by_more}
use Rattle.std.proofs.lemmas.List.Folds.{list_any-append, list_any_more}
use Rattle.pf_model.specs.Graphs.{Look, greatest, children_of}
use Rattle.pf_model.specs.Limits.{has_child}
use Rattle.pf_model.proofs.Finds.{turned_eq}
use Rattle.pf_edits.specs.declared.extents.Extent.{Extent}
use Rattle.pf_edits.specs.Tables.{Slots}
use Rattle.pf_edits.specs.Ways.{is_in, LeadUp, IsEachOnce}
use Rattle.pf_edits.specs.Extents.{look_of, leaf, extent_at, before_at, counted_at, reckoned, MeetBut}
use Rattle.pf_edits.proofs.Marks.{in_reverse}
use Rattle.pf_edits.proofs.Ups.{head_or_rest, ahead, behind, not_true, no_true, rest_of, up_closed, reckoned_same, reckoned_height, reckoned_size}
use Rattle.pf_edits.proofs.Trials.{reckoned_on, OtherDown, other_down, others_kept, one_kept}

-- Sums and greatest numbers over children

sum_map : (f : ℕ → ℕ) (cs : List ℕ) → sum (map f cs) ≡ sum_by f cs
sum_map f [] = refl
sum_map f (c ∷ cs) =
    sum_by-cons (λ (n : ℕ). n) (f c) (map f cs) ∙ ap (λ n. f c + n) (sum_map f cs) ∙ sym (sum_by-cons f c cs)

heights_on : (f g : ℕ → Extent) (cs : List ℕ) → ((c : ℕ) → is_in c cs ≡ true → (f c).height ≡ (g c).height)
    → greatest (map (λ c. (f c).height) cs) ≡ greatest (map (λ c. (g c).height) cs)
heights_on f g [] same = refl
heights_on f g (c ∷ cs) same =
    let here : (f c).height ≡ (g c).height = same c (ahead (c == c) (is_in c cs) (eq-eqb c c refl)) in
    let rest : greatest (map (λ d. (f d).height) cs) ≡ greatest (map (λ d. (g d).height) cs) = heights_on f g cs (λ d h. same d (behind (c == d) (is_in d cs) h)) in
    omega (arith, here, rest)

-- the extents before and now of nodes of which some stand on a way, as they were counted
abbrev then_of : (ℕ → Extent) → (ℕ → Extent) → (ℕ → Bool) → ℕ → Extent
then_of b g on c = cond (on c) (b c) (g c)

-- the sizes now, and those of before, on the way
abbrev on_way : (ℕ → Extent) → (ℕ → Bool) → ℕ → ℕ
on_way g on c = cond (on c) (g c).size 0

one_shift : (b g : Extent) (t : Bool) → (cond t b g).size + cond t g.size 0 ≡ g.size + cond t b.size 0
one_shift b g true = omega arith
one_shift b g false = refl

sizes_shift : (b g : ℕ → Extent) (on : ℕ → Bool) (cs : List ℕ)
    → sum_by (λ c. (then_of b g on c).size) cs + sum_by (on_way g on) cs ≡ sum_by (λ c. (g c).size) cs + sum_by (on_way b on) cs
sizes_shift b g on [] = refl
sizes_shift b g on (c ∷ cs) =
    let rest : sum_by (λ c. (then_of b g on c).size) cs + sum_by (on_way g on) cs ≡ sum_by (λ c. (g c).size) cs + sum_by (on_way b on) cs = sizes_shift b g on cs in
    let here : (then_of b g on c).size + on_way g on c ≡ (g c).size + on_way b on c = one_shift (b c) (g c) (on c) in
    let p : sum_by (λ c. (then_of b g on c).size) (c ∷ cs) ≡ (then_of b g on c).size + sum_by (λ c. (then_of b g on c).size) cs = sum_by-cons (λ c. (then_of b g on c).size) c cs in
    let q : sum_by (on_way g on) (c ∷ cs) ≡ on_way g on c + sum_by (on_way g on) cs = sum_by-cons (on_way g on) c cs in
    let r : sum_by (λ c. (g c).size) (c ∷ cs) ≡ (g c).size + sum_by (λ c. (g c).size) cs = sum_by-cons (λ c. (g c).size) c cs in
    let s : sum_by (on_way b on) (c ∷ cs) ≡ on_way b on c + sum_by (on_way b on) cs = sum_by-cons (on_way b on) c cs in
    shifted (sum_by (λ c. (then_of b g on c).size) (c ∷ cs)) (sum_by (on_way g on) (c ∷ cs)) (sum_by (λ c. (g c).size) (c ∷ cs)) (sum_by (on_way b on) (c ∷ cs))
    (then_of b g on c).size (on_way g on c) (g c).size (on_way b on c) (sum_by (λ c. (then_of b g on c).size) cs) (sum_by (on_way g on) cs) (sum_by (λ c. (g c).size) cs) (sum_by (on_way b on) cs)
    p q r s rest here
  where
    shifted : (w x y z a b c d i j k l : ℕ) → w ≡ a + i → x ≡ b + j → y ≡ c + k → z ≡ d + l → i + j ≡ k + l → a + b ≡ c + d → w + x ≡ y + z
    shifted w x y z a b c d i j k l p q r s rest here = omega (arith, p, q, r, s, rest, here)

-- the size of before, which was not at its cap, and the one of now
exact_size : (e m t : ℕ) → e ≡ min 131073 (1 + m) → m ≡ t → e ≤ 131072 → e ≡ 1 + t
exact_size e m t is same small = omega (arith, is, same, small)

loss_fits : (e t n gain loss : ℕ) → e ≡ 1 + t → t + gain ≡ n + loss → loss ≤ e + gain
loss_fits e t n gain loss is shift = omega (arith, is, shift)

size_now : (e t n m gain loss : ℕ) → e ≡ 1 + t → t + gain ≡ n + loss → m ≡ n → min 131073 (e + gain - loss) ≡ min 131073 (1 + m)
size_now e t n m gain loss is shift same = ap (min 131073) (less e t n m gain loss is shift same)
  where
    less : (e t n m gain loss : ℕ) → e ≡ 1 + t → t + gain ≡ n + loss → m ≡ n → e + gain - loss ≡ 1 + m
    less e t n m gain loss is shift same = omega (arith, is, shift, same)

-- the extent of a node whose children changed in size alone
module _ (b g : ℕ → Extent) (on : ℕ → Bool) (e : Extent) (cs : List ℕ) (is : e ≡ reckoned (then_of b g on) cs) (small : e.size ≤ 131072) where
  size_then : e.size ≡ 1 + sum_by (λ c. (then_of b g on c).size) cs
  size_then =
      exact_size e.size (sum (map (λ c. (then_of b g on c).size) cs)) (sum_by (λ c. (then_of b g on c).size) cs)
      (ap (λ (x : Extent). x.size) is ∙ reckoned_size (then_of b g on) cs) (sum_map (λ c. (then_of b g on c).size) cs) small

  shift : (gain loss : ℕ) → gain ≡ sum_by (on_way g on) cs → loss ≡ sum_by (on_way b on) cs
      → sum_by (λ c. (then_of b g on c).size) cs + gain ≡ sum_by (λ c. (g c).size) cs + loss
  shift gain loss p q =
      ap (λ n. sum_by (λ c. (then_of b g on c).size) cs + n) p ∙ sizes_shift b g on cs ∙ sym (ap (λ n. sum_by (λ c. (g c).size) cs + n) q)

  pub loss_within : (gain loss : ℕ) → gain ≡ sum_by (on_way g on) cs → loss ≡ sum_by (on_way b on) cs → loss ≤ e.size + gain
  loss_within gain loss p q =
      loss_fits e.size (sum_by (λ c. (then_of b g on c).size) cs) (sum_by (λ c. (g c).size) cs) gain loss size_then (shift gain loss p q)

  pub resized_is : (gain loss : ℕ) → gain ≡ sum_by (on_way g on) cs → loss ≡ sum_by (on_way b on) cs
      → ((c : ℕ) → is_in c cs ≡ true → (then_of b g on c).height ≡ (g c).height)
      → (let x : Extent = record { height = e.height; size = min 131073 (e.size + gain - loss) } in x ≡ reckoned g cs)
  resized_is gain loss p q level =
      let large : min 131073 (e.size + gain - loss) ≡ (reckoned g cs).size =
      size_now e.size (sum_by (λ c. (then_of b g on c).size) cs) (sum_by (λ c. (g c).size) cs) (sum (map (λ c. (g c).size) cs)) gain loss size_then (shift gain loss p q)
      (sum_map (λ c. (g c).size) cs) ∙ sym (reckoned_size g cs) in
      let high : e.height ≡ (reckoned g cs).height =
      ap (λ (x : Extent). x.height) is ∙ reckoned_height (then_of b g on) cs ∙ ap (λ n. min 4097 (1 + n)) (heights_on (then_of b g on) g cs level) ∙ sym (reckoned_height g cs) in
      λ i. record { height = high i; size = large i }

-- one more child
pub sums_more : (f : ℕ → ℕ) (cs : List ℕ) (i total : ℕ) → i < length cs → total ≡ sum_by f (take i cs) → total + f (get_or cs i 0) ≡ sum_by f (take (i + 1) cs)
sums_more f cs i total within is = ap (λ n. n + f (get_or cs i 0)) is ∙ sym (sum_by_more f cs i 0 within)

pub level_more : (f g : ℕ → Extent) (cs : List ℕ) (i : ℕ) → i < length cs → ((c : ℕ) → is_in c (take i cs) ≡ true → (f c).height ≡ (g c).height)
    → (f (get_or cs i 0)).height ≡ (g (get_or cs i 0)).height → (c : ℕ) → is_in c (take (i + 1) cs) ≡ true → (f c).height ≡ (g c).height
level_more f g cs i within before here c h = by (head_or_rest (is_in c (take i cs)) (get_or cs i 0 == c) (sym (list_any_more (λ other. other == c) cs i 0 within) ∙ h))
  where
    by : (is_in c (take i cs) ≡ true) ⊎ ((get_or cs i 0 == c) ≡ true) → (f c).height ≡ (g c).height
    by (inl k) = before c k
    by (inr k) = subst (λ (x : ℕ). (f x).height ≡ (g x).height) (eqb-true (get_or cs i 0) c k) here

-- Down a way from its end, but for one node

-- What is known of the slots after a part of a way was brought up to date.
pub record IsAlong (init s : Slots) (ids : List ℕ) (id left : ℕ) : Type 0 where
  pub leads : LeadUp (look_of s) (reverse (take left ids))
  pub once : IsEachOnce (reverse (take left ids))
  pub meets : MeetBut (look_of s) (extent_at s) (id ∷ reverse (take left ids))
  pub ahead : (b : ℕ) → is_in b (take left ids) ≡ true → (b == id) ≡ false → extent_at s b ≡ extent_at init b
  pub done : (b : ℕ) → is_in b (drop left ids) ≡ true → (b == id) ≡ false → before_at s b ≡ extent_at init b
  pub off : (b : ℕ) → is_in b (reverse ids) ≡ false → extent_at s b ≡ extent_at init b
  pub kept : extent_at s id ≡ extent_at init id
  pub before : before_at s id ≡ before_at init id

abbrev pub first_of : Slots → ℕ → ℕ → Extent
first_of init id b = cond (b == id) (before_at init b) (extent_at init b)

alone : (p : Bool) → p ≡ false → (p || false) ≡ false
alone true h = h
alone false h = refl

second_false : (p q : Bool) → (p || q) ≡ false → q ≡ false
second_false true q h = absurd (cc)
second_false false q h = h

-- at the end of the way nothing is up to date
module _ (init : Slots) (ids : List ℕ) (id : ℕ) (leads : LeadUp (look_of init) (reverse ids)) (once : IsEachOnce (reverse ids)) (on : is_in id (reverse ids) ≡ true)
    (meets : MeetBut (look_of init) (first_of init id) (id ∷ [])) where
  all_taken : take (length ids) ids ≡ ids
  all_taken = take_all (length ids) ids (omega arith)

  none_left : (b : ℕ) → is_in b (drop (length ids) ids) ≡ true → ⊥
  none_left b h = not_true h (ap (is_in b) (drop_all (length ids) ids (omega arith)))

  off_first : (b : ℕ) → (b == id) ≡ false → first_of init id b ≡ extent_at init b
  off_first b f = ap (λ u. cond u (before_at init b) (extent_at init b)) f

  meets_off : MeetBut (look_of init) (extent_at init) (id ∷ reverse ids)
  meets_off b off =
      sym (off_first b apart) ∙ meets b (alone (id == b) (turned_eq id b ∙ apart))
      ∙ sym (reckoned_same (first_of init id) (extent_at init) id (children_of (look_of init) b) (λ d f. sym (off_first d f))
      (no_true (is_in id (children_of (look_of init) b)) (λ h. not_true (up_closed (look_of init) (reverse ids) leads b id on h) out)) leaf)
    where
      out : is_in b (reverse ids) ≡ false
      out = second_false (id == b) (is_in b (reverse ids)) off

      apart : (b == id) ≡ false
      apart = no_true (b == id) (λ h. not_true on (subst (λ (x : ℕ). is_in x (reverse ids) ≡ false) (eqb-true b id h) out))

  pub along_start : IsAlong init init ids id (length ids)
  along_start = record {
    leads = subst (λ (xs : List ℕ). LeadUp (look_of init) (reverse xs)) (sym all_taken) leads;
    once = subst (λ (xs : List ℕ). IsEachOnce (reverse xs)) (sym all_taken) once;
    meets = subst (λ (xs : List ℕ). MeetBut (look_of init) (extent_at init) (id ∷ reverse xs)) (sym all_taken) meets_off;
    ahead = λ b h off. refl;
    done = λ b h off. absurd (none_left b h);
    off = λ b out. refl;
    kept = refl;
    before = refl;
  }

module _ (init s : Slots) (ids : List ℕ) (id i : ℕ) (within : i < length ids) (on : is_in id (reverse ids) ≡ true) (at : IsAlong init s ids id (i + 1)) where
  leads_here : LeadUp (look_of s) (get_or ids i 0 ∷ reverse (take i ids))
  leads_here = subst (LeadUp (look_of s)) (rest_of ids i 0 within) at.leads

  once_here : IsEachOnce (get_or ids i 0 ∷ reverse (take i ids))
  once_here = subst IsEachOnce (rest_of ids i 0 within) at.once

  -- a child of the node is not before it on the way, nor the node itself
  child_later : (c : ℕ) → has_child (look_of s) (get_or ids i 0) c ≡ true → is_in c (take (i + 1) ids) ≡ true → ⊥
  child_later c is h = by (head_or_rest (get_or ids i 0 == c) (is_in c (reverse (take i ids)))
      (sym (ap (is_in c) (rest_of ids i 0 within)) ∙ in_reverse c (take (i + 1) ids) ∙ h))
    where
      by : ((get_or ids i 0 == c) ≡ true) ⊎ (is_in c (reverse (take i ids)) ≡ true) → ⊥
      by (inl e) = not_true (leads_here.0 (get_or ids i 0) (subst (λ (x : ℕ). has_child (look_of s) (get_or ids i 0) x ≡ true) (sym (eqb-true (get_or ids i 0) c e)) is)) once_here.0
      by (inr k) = not_true (up_closed (look_of s) (reverse (take i ids)) leads_here.1 (get_or ids i 0) c k is) once_here.0

  -- what is on the way is in its part before a place or behind it
  split : (c : ℕ) → is_in c (reverse ids) ≡ true → (is_in c (take (i + 1) ids) || is_in c (drop (i + 1) ids)) ≡ true
  split c h =
      sym (list_any-append (λ other. other == c) (take (i + 1) ids) (drop (i + 1) ids))
      ∙ ap (is_in c) (take-append-drop (i + 1) ids) ∙ sym (in_reverse c ids) ∙ h

  counted_first : (c : ℕ) → has_child (look_of s) (get_or ids i 0) c ≡ true → counted_at s (reverse ids) c ≡ first_of init id c
  counted_first c is = by (is_in c (reverse ids)) refl (c == id) refl
    where
      later : is_in c (reverse ids) ≡ true → is_in c (drop (i + 1) ids) ≡ true
      later h = which (head_or_rest (is_in c (take (i + 1) ids)) (is_in c (drop (i + 1) ids)) (split c h))
        where
          which : (is_in c (take (i + 1) ids) ≡ true) ⊎ (is_in c (drop (i + 1) ids) ≡ true) → is_in c (drop (i + 1) ids) ≡ true
          which (inl k) = absurd (child_later c is k)
          which (inr k) = k

      by : (t : Bool) → is_in c (reverse ids) ≡ t → (u : Bool) → (c == id) ≡ u → cond t (before_at s c) (extent_at s c) ≡ cond u (before_at init c) (extent_at init c)
      by true e true f = subst (λ (x : ℕ). before_at s x ≡ before_at init x) (sym (eqb-true c id f)) at.before
      by true e false f = at.done c (later e) f
      by false e true f = absurd (not_true (subst (λ (x : ℕ). is_in x (reverse ids) ≡ true) (sym (eqb-true c id f)) on) e)
      by false e false f = at.off c e

  on_here : is_in (get_or ids i 0) (take (i + 1) ids) ≡ true
  on_here =
      sym (in_reverse (get_or ids i 0) (take (i + 1) ids)) ∙ ap (is_in (get_or ids i 0)) (rest_of ids i 0 within)
      ∙ ahead (get_or ids i 0 == get_or ids i 0) (is_in (get_or ids i 0) (reverse (take i ids))) (eq-eqb (get_or ids i 0) (get_or ids i 0) refl)

  -- the extent of the node is that of its children as they were
  pub was_counted : MeetBut (look_of init) (first_of init id) (id ∷ []) → look_of s ≡ look_of init
      → (get_or ids i 0 == id) ≡ false → extent_at s (get_or ids i 0) ≡ reckoned (counted_at s (reverse ids)) (children_of (look_of s) (get_or ids i 0))
  was_counted meets same away =
      at.ahead (get_or ids i 0) on_here away
      ∙ sym (ap (λ t. cond t (before_at init (get_or ids i 0)) (extent_at init (get_or ids i 0))) away)
      ∙ meets (get_or ids i 0) (alone (id == get_or ids i 0) (turned_eq id (get_or ids i 0) ∙ away))
      ∙ ap (λ (f : Look). reckoned (first_of init id) (children_of f (get_or ids i 0))) (sym same)
      ∙ sym (reckoned_on (counted_at s (reverse ids)) (first_of init id) (children_of (look_of s) (get_or ids i 0)) (λ c h. counted_first c h) leaf)

  -- The node brought up to date: t after it

  module _ (t : Slots) (nodes : (b : ℕ) → look_of t b ≡ look_of s b) (same : (get_or ids i 0 == id) ≡ true → t ≡ s)
      (extents : (get_or ids i 0 == id) ≡ false → (b : ℕ) → extent_at t b ≡ cond (b == get_or ids i 0) (reckoned (extent_at s) (children_of (look_of s) (get_or ids i 0))) (extent_at s b))
      (befores : (get_or ids i 0 == id) ≡ false → (b : ℕ) → before_at t b ≡ cond (b == get_or ids i 0) (extent_at s (get_or ids i 0)) (before_at s b)) where
    same_extents : (get_or ids i 0 == id) ≡ true → (b : ℕ) → extent_at t b ≡ extent_at s b
    same_extents e b = ap (λ (u : Slots). extent_at u b) (same e)

    down : OtherDown t ids id i
    down = other_down s t ids id i within nodes same_extents extents at.leads at.meets

    ahead_next : (b : ℕ) → is_in b (take i ids) ≡ true → (b == id) ≡ false → extent_at t b ≡ extent_at init b
    ahead_next b h off = by (get_or ids i 0 == id) refl ∙ at.ahead b more off
      where
        more : is_in b (take (i + 1) ids) ≡ true
        more = list_any_more (λ other. other == b) ids i 0 within ∙ ahead (is_in b (take i ids)) (get_or ids i 0 == b) h

        other : (b == get_or ids i 0) ≡ false
        other = no_true (b == get_or ids i 0) (λ e. not_true (in_reverse b (take i ids) ∙ h)
            (subst (λ (x : ℕ). is_in x (reverse (take i ids)) ≡ false) (sym (eqb-true b (get_or ids i 0) e)) once_here.0))

        by : (u : Bool) → (get_or ids i 0 == id) ≡ u → extent_at t b ≡ extent_at s b
        by true e = same_extents e b
        by false e = extents e b ∙ ap (λ u. cond u (reckoned (extent_at s) (children_of (look_of s) (get_or ids i 0))) (extent_at s b)) other

    done_next : (b : ℕ) → is_in b (drop i ids) ≡ true → (b == id) ≡ false → before_at t b ≡ extent_at init b
    done_next b h off = by (get_or ids i 0 == id) refl (head_or_rest (get_or ids i 0 == b) (is_in b (drop (i + 1) ids)) (sym (ap (is_in b) (drop_more ids i 0 within)) ∙ h))
      where
        by : (u : Bool) → (get_or ids i 0 == id) ≡ u → ((get_or ids i 0 == b) ≡ true) ⊎ (is_in b (drop (i + 1) ids) ≡ true) → before_at t b ≡ extent_at init b
        by true e (inl k) = absurd (not_true (subst (λ (x : ℕ). (x == id) ≡ true) (eqb-true (get_or ids i 0) b k) e) off)
        by true e (inr k) = ap (λ (u : Slots). before_at u b) (same e) ∙ at.done b k off
        by false e (inl k) =
            subst (λ (x : ℕ). before_at t x ≡ extent_at init x) (eqb-true (get_or ids i 0) b k)
            (befores e (get_or ids i 0) ∙ ap (λ u. cond u (extent_at s (get_or ids i 0)) (before_at s (get_or ids i 0))) (eq-eqb (get_or ids i 0) (get_or ids i 0) refl)
            ∙ at.ahead (get_or ids i 0) on_here e)
        by false e (inr k) = befores e b ∙ which (b == get_or ids i 0) refl
          where
            which : (u : Bool) → (b == get_or ids i 0) ≡ u → cond u (extent_at s (get_or ids i 0)) (before_at s b) ≡ extent_at init b
            which true f = at.ahead (get_or ids i 0) on_here e ∙ ap (extent_at init) (sym (eqb-true b (get_or ids i 0) f))
            which false f = at.done b k off

    before_next : before_at t id ≡ before_at init id
    before_next = by (get_or ids i 0 == id) refl ∙ at.before
      where
        by : (u : Bool) → (get_or ids i 0 == id) ≡ u → before_at t id ≡ before_at s id
        by true e = ap (λ (u : Slots). before_at u id) (same e)
        by false e = befores e id ∙ ap (λ u. cond u (extent_at s (get_or ids i 0)) (before_at s id)) (turned_eq id (get_or ids i 0) ∙ e)

    pub along_next : IsAlong init t ids id i
    along_next = record {
      leads = down.leads;
      once = once_here.1;
      meets = down.meets;
      ahead = ahead_next;
      done = done_next;
      off = λ b out. others_kept s t init ids (get_or ids i 0) id b down.on same_extents extents out (at.off b out);
      kept = one_kept s t init (get_or ids i 0) id same_extents extents at.kept;
      before = before_next;
    }
