-- Extents reckoned for a trial: as if a node had other children.
use Rattle.std.proofs.Common.{◌≡◌, ℕ, zero, suc, ◌+◌, ◌-◌, ◌<◌, ◌≤◌, min, max, Bool, true, false, cond, ◌||◌, ◌==◌, List, [], ◌∷◌, length, get_or, set, take, drop, reverse, Option, Some, None, is_some, refl, sym, ◌∙◌, ap, subst, arith}
use Rattle.std.specs.List.{fold, insert}
use Rattle.std.specs.Option.{option_map, option_map_or}
use Rattle.std.proofs.lemmas.Bool.{eqb-true, eq-eqb}
use Rattle.std.proofs.lemmas.List.{take-append-drop, take_more, set_split, take_all}
use Rattle.std.proofs.lemmas.List.Sums.{fold-append}
use Rattle.std.proofs.lemmas.List.Folds.{list_any_at}
use Rattle.pf_model.specs.declared.nodes.Node.{Node}
use Rattle.pf_model.specs.Graphs.{Look, node_at, children_of, size_of, change}
use Rattle.pf_model.specs.Limits.{has_child}
use Rattle.pf_model.specs.Laws.{AreLow}
use Rattle.pf_model.specs.NodeEdits.{with_children}
use Rattle.pf_model.specs.Children.{drop_first}
use Rattle.pf_model.proofs.Places.{funext}
use Rattle.pf_model.proofs.Finds.{node_at_change, turned_eq}
use Rattle.pf_edits.specs.declared.records.Record.{Record}
use Rattle.pf_edits.specs.declared.extents.Extent.{Extent}
use Rattle.pf_edits.specs.Tables.{Slots, record_at}
use Rattle.pf_edits.specs.Ways.{is_in, LeadUp}
use Rattle.pf_edits.specs.Extents.{look_of, parents_of, leaf, joined, reckoned, extent_at, before_at, with_extent, Meets, MeetBut, IsSound, IsWithin}
use Rattle.pf_edits.specs.Listed.{nodes_of}
use Rattle.pf_edits.proofs.Marks.{in_reverse}
use Rattle.pf_edits.proofs.Ups.{behind, ahead, not_true, no_true, meets_by, rest_of}
use Rattle.pf_edits.proofs.Relinks.{children_changed, all_within}
use Rattle.pf_edits.proofs.Rewrites.{look_kept, extents_set}
use Rattle.pf_edits.proofs.Listed.{found, looks}

-- Truth values

swapped : (p q r : Bool) → (p || (q || r)) ≡ (q || (p || r))
swapped true true r = refl
swapped true false r = refl
swapped false true r = refl
swapped false false r = refl

twice : (p r : Bool) → (p || (p || r)) ≡ (p || r)
twice true r = refl
twice false r = refl

only_first : (p : Bool) → p ≡ false → (p || false) ≡ false
only_first true h = h
only_first false h = refl

-- Extents with other children

joined_swapped : (e a b : Extent) → joined (joined e a) b ≡ joined (joined e b) a
joined_swapped e a b =
    let high : max (max e.height (min 4097 (a.height + 1))) (min 4097 (b.height + 1)) ≡ max (max e.height (min 4097 (b.height + 1))) (min 4097 (a.height + 1)) = omega arith in
    let large : min 131073 (min 131073 (e.size + a.size) + b.size) ≡ min 131073 (min 131073 (e.size + b.size) + a.size) = omega arith in
    λ i. record { height = high i; size = large i }

joined_last : (f : ℕ → Extent) (e : Extent) (c : ℕ) (ys : List ℕ) → fold (λ e d. joined e (f d)) (joined e (f c)) ys ≡ joined (fold (λ e d. joined e (f d)) e ys) (f c)
joined_last f e c [] = refl
joined_last f e c (y ∷ ys) = ap (λ x. fold (λ e d. joined e (f d)) x ys) (joined_swapped e (f c) (f y)) ∙ joined_last f (joined e (f y)) c ys

-- one more child, at any place
pub reckoned_inserted : (f : ℕ → Extent) (cs : List ℕ) (i c : ℕ) → reckoned f (insert cs i c) ≡ joined (reckoned f cs) (f c)
reckoned_inserted f cs i c =
    fold-append (λ e d. joined e (f d)) leaf (take i cs) (c ∷ drop i cs)
    ∙ joined_last f (fold (λ e d. joined e (f d)) leaf (take i cs)) c (drop i cs)
    ∙ ap (λ x. joined x (f c)) (sym (fold-append (λ e d. joined e (f d)) leaf (take i cs) (drop i cs)) ∙ ap (reckoned f) (take-append-drop i cs))

-- another child at a place
pub reckoned_set : (f : ℕ → Extent) (cs : List ℕ) (i c : ℕ) → i < length cs
    → fold (λ e d. joined e (f d)) (joined (reckoned f (take i cs)) (f c)) (drop (i + 1) cs) ≡ reckoned f (set cs i c)
reckoned_set f cs i c h =
    ap (λ n. fold (λ e d. joined e (f d)) (joined (reckoned f (take i cs)) (f c)) (drop n cs)) (next i)
    ∙ sym (ap (reckoned f) (set_split cs i c h) ∙ fold-append (λ e d. joined e (f d)) leaf (take i cs) (c ∷ drop (suc i) cs))
  where
    next : (n : ℕ) → n + 1 ≡ suc n
    next n = omega arith

-- a slice to the end
abbrev no_ids : List ℕ
no_ids = []

take_none : (n : ℕ) → take n no_ids ≡ no_ids
take_none zero = refl
take_none (suc n) = refl

pub rest_whole : (n : ℕ) (cs : List ℕ) → take (length cs - n) (drop n cs) ≡ drop n cs
rest_whole zero cs = take_all (length cs - 0) cs (omega arith)
rest_whole (suc n) [] = take_none (length no_ids - suc n)
rest_whole (suc n) (c ∷ cs) = ap (λ m. take m (drop n cs)) (less (length cs) n) ∙ rest_whole n cs
  where
    less : (a b : ℕ) → suc a - suc b ≡ a - b
    less a b = omega arith

-- extents that agree on the children
pub reckoned_on : (f g : ℕ → Extent) (cs : List ℕ) → ((c : ℕ) → is_in c cs ≡ true → f c ≡ g c) → (e : Extent) → fold (λ e d. joined e (f d)) e cs ≡ fold (λ e d. joined e (g d)) e cs
reckoned_on f g [] same e = refl
reckoned_on f g (c ∷ cs) same e =
    ap (λ x. fold (λ e d. joined e (f d)) (joined e x) cs) (same c (ahead (c == c) (is_in c cs) (eq-eqb c c refl)))
    ∙ reckoned_on f g cs (λ x h. same x (behind (c == x) (is_in x cs) h)) (joined e (g c))

-- One step down a way, but for one node

pub record OtherDown (slots : Slots) (way : List ℕ) (id left : ℕ) : Type 0 where
  pub leads : LeadUp (look_of slots) (reverse (take left way))
  pub meets : MeetBut (look_of slots) (extent_at slots) (id ∷ reverse (take left way))
  pub on : is_in (get_or way left 0) (reverse way) ≡ true

pub other_down : (old new : Slots) (way : List ℕ) (id left : ℕ) → left < length way → ((b : ℕ) → look_of new b ≡ look_of old b)
    → ((get_or way left 0 == id) ≡ true → (b : ℕ) → extent_at new b ≡ extent_at old b)
    → ((get_or way left 0 == id) ≡ false → (b : ℕ) → extent_at new b ≡ cond (b == get_or way left 0) (reckoned (extent_at old) (children_of (look_of old) (get_or way left 0))) (extent_at old b))
    → LeadUp (look_of old) (reverse (take (left + 1) way)) → MeetBut (look_of old) (extent_at old) (id ∷ reverse (take (left + 1) way)) → OtherDown new way id left
other_down old new way id left h nodes same set leads meets = record {
  leads = subst (λ (f : Look). LeadUp f (reverse (take left way))) (sym still) here.1;
  meets = subst (λ (f : Look). MeetBut f (extent_at new) (id ∷ reverse (take left way))) (sym still) (by (get_or way left 0 == id) refl);
  on = in_reverse (get_or way left 0) way ∙ list_any_at (λ other. other == get_or way left 0) way left 0 h (eq-eqb (get_or way left 0) (get_or way left 0) refl);
}
  where
    still : look_of new ≡ look_of old
    still = funext (look_of new) (look_of old) nodes

    here : LeadUp (look_of old) (get_or way left 0 ∷ reverse (take left way))
    here = subst (LeadUp (look_of old)) (rest_of way left 0 h) leads

    there : MeetBut (look_of old) (extent_at old) (id ∷ get_or way left 0 ∷ reverse (take left way))
    there = subst (λ (xs : List ℕ). MeetBut (look_of old) (extent_at old) (id ∷ xs)) (rest_of way left 0 h) meets

    by : (t : Bool) → (get_or way left 0 == id) ≡ t → MeetBut (look_of old) (extent_at new) (id ∷ reverse (take left way))
    by true e =
        subst (λ (g : ℕ → Extent). MeetBut (look_of old) g (id ∷ reverse (take left way))) (sym (funext (extent_at new) (extent_at old) (same e)))
        (λ b off. there b (subst (λ (x : ℕ). is_in b (id ∷ x ∷ reverse (take left way)) ≡ false) (sym (eqb-true (get_or way left 0) id e))
        (twice (id == b) (is_in b (reverse (take left way))) ∙ off)))
    by false e =
        meets_by (look_of old) (extent_at old) (extent_at new) (get_or way left 0) (id ∷ reverse (take left way))
        (λ y is. behind (id == y) (is_in y (reverse (take left way))) (here.0 y is))
        (λ b off. there b (swapped (id == b) (get_or way left 0 == b) (is_in b (reverse (take left way))) ∙ off)) (set e)

-- extents off the way stay
pub others_kept : (old new first : Slots) (way : List ℕ) (x id b : ℕ) → is_in x (reverse way) ≡ true
    → ((x == id) ≡ true → (b : ℕ) → extent_at new b ≡ extent_at old b)
    → ((x == id) ≡ false → (b : ℕ) → extent_at new b ≡ cond (b == x) (reckoned (extent_at old) (children_of (look_of old) x)) (extent_at old b))
    → is_in b (reverse way) ≡ false → extent_at old b ≡ extent_at first b → extent_at new b ≡ extent_at first b
others_kept old new first way x id b on same set off was = by (x == id) refl
  where
    by : (t : Bool) → (x == id) ≡ t → extent_at new b ≡ extent_at first b
    by true e = same e b ∙ was
    by false e =
        set e b ∙ ap (λ t. cond t (reckoned (extent_at old) (children_of (look_of old) x)) (extent_at old b))
        (no_true (b == x) (λ h. not_true on (subst (λ (y : ℕ). is_in y (reverse way) ≡ false) (eqb-true b x h) off))) ∙ was

-- and that of the one node
pub one_kept : (old new first : Slots) (x id : ℕ) → ((x == id) ≡ true → (b : ℕ) → extent_at new b ≡ extent_at old b)
    → ((x == id) ≡ false → (b : ℕ) → extent_at new b ≡ cond (b == x) (reckoned (extent_at old) (children_of (look_of old) x)) (extent_at old b))
    → extent_at old id ≡ extent_at first id → extent_at new id ≡ extent_at first id
one_kept old new first x id same set was = by (x == id) refl
  where
    by : (t : Bool) → (x == id) ≡ t → extent_at new id ≡ extent_at first id
    by true e = same e id ∙ was
    by false e =
        set e id ∙ ap (λ t. cond t (reckoned (extent_at old) (children_of (look_of old) x)) (extent_at old id)) (turned_eq id x ∙ e) ∙ was

-- A node's extent set: s before it, m with it set, t with those above it reckoned

there_record : (s : Slots) (id : ℕ) → is_some (look_of s id) ≡ true → is_some (record_at s id) ≡ true
there_record s id h = by (record_at s id) h
  where
    by : (o : Option Record) → is_some (option_map (λ (r : Record). r.node) o) ≡ true → is_some o ≡ true
    by None k = k
    by (Some r) k = refl

module _ (s m : Slots) (id : ℕ) (e : Extent) (way : List ℕ) (there : is_some (look_of s id) ≡ true) (meets : MeetBut (look_of s) (extent_at s) (id ∷ [])) (leads : LeadUp (look_of s) way) (on : is_in id way ≡ true)
    (wrote : (b : ℕ) → record_at m b ≡ cond (b == id) (option_map (with_extent e) (record_at s b)) (record_at s b)) where
  pub wrote_looks : (b : ℕ) → look_of m b ≡ look_of s b
  wrote_looks = look_kept s m id (with_extent e) wrote (λ r. refl)

  wrote_extents : (b : ℕ) → extent_at m b ≡ cond (b == id) e (extent_at s b)
  wrote_extents = extents_set s m id (with_extent e) wrote e (λ r. refl) (there_record s id there)

  pub wrote_here : extent_at m id ≡ e
  wrote_here = wrote_extents id ∙ ap (λ u. cond u e (extent_at s id)) (eq-eqb id id refl)

  away : (b : ℕ) → is_in b way ≡ false → (b == id) ≡ false
  away b off = no_true (b == id) (λ h. not_true on (subst (λ (x : ℕ). is_in x way ≡ false) (eqb-true b id h) off))

  wrote_other : (b : ℕ) → (b == id) ≡ false → extent_at m b ≡ extent_at s b
  wrote_other b f = wrote_extents b ∙ ap (λ u. cond u e (extent_at s b)) f

  pub wrote_off : (b : ℕ) → is_in b way ≡ false → extent_at m b ≡ extent_at s b
  wrote_off b off = wrote_other b (away b off)

  -- what its record has as the extent of before
  was_of : (o : Option Record) → option_map_or (λ (r : Record). r.before) (option_map (with_extent e) o) leaf ≡ option_map_or (λ (r : Record). r.extent) o leaf
  was_of None = refl
  was_of (Some r) = refl

  wrote_first : (b : ℕ) → cond (b == id) (before_at m b) (extent_at m b) ≡ extent_at s b
  wrote_first b = by (b == id) refl
    where
      by : (u : Bool) → (b == id) ≡ u → cond u (before_at m b) (extent_at m b) ≡ extent_at s b
      by true f =
          ap (λ (o : Option Record). option_map_or (λ r. r.before) o leaf) (wrote b ∙ ap (λ u. cond u (option_map (with_extent e) (record_at s b)) (record_at s b)) f)
          ∙ was_of (record_at s b)
      by false f = wrote_other b f

  -- with the node as it was, extents meet the recursion as before
  pub wrote_meets : MeetBut (look_of m) (λ b. cond (b == id) (before_at m b) (extent_at m b)) (id ∷ [])
  wrote_meets =
      subst (λ (f : Look). MeetBut f (λ b. cond (b == id) (before_at m b) (extent_at m b)) (id ∷ [])) (sym (funext (look_of m) (look_of s) wrote_looks))
      (subst (λ (g : ℕ → Extent). MeetBut (look_of s) g (id ∷ [])) (sym (funext (λ b. cond (b == id) (before_at m b) (extent_at m b)) (extent_at s) wrote_first)) meets)

-- extents that meet the recursion but at one node, which has that of its children as they were
pub all_meet : (look : Look) (f g : ℕ → Extent) (id : ℕ) (way : List ℕ) → MeetBut look g (id ∷ []) → g id ≡ reckoned f (children_of look id)
    → ((x : ℕ) → is_in x way ≡ true → is_in x (children_of look id) ≡ false) → ((b : ℕ) → is_in b way ≡ false → g b ≡ f b) → Meets look g
all_meet look f g id way but at apart off b = by (b == id) refl
  where
    here : g id ≡ reckoned g (children_of look id)
    here = at ∙ reckoned_on f g (children_of look id) (λ c h. sym (off c (no_true (is_in c way) (λ k. not_true h (apart c k))))) leaf

    by : (t : Bool) → (b == id) ≡ t → g b ≡ reckoned g (children_of look b)
    by true e = subst (λ (x : ℕ). g x ≡ reckoned g (children_of look x)) (sym (eqb-true b id e)) here
    by false e = but b (only_first (id == b) (turned_eq id b ∙ e))

-- A trial: s before it, t with the node's extent set and those above it reckoned
module _ (s t : Slots) (id : ℕ) (e : Extent) (way : List ℕ) (there : is_some (look_of s id) ≡ true) (set : extent_at t id ≡ e) (nodes : (b : ℕ) → look_of t b ≡ look_of s b)
    (but : MeetBut (look_of t) (extent_at t) (id ∷ [])) (off_same : (b : ℕ) → is_in b way ≡ false → extent_at t b ≡ extent_at s b) where
  trial_looks : look_of t ≡ look_of s
  trial_looks = funext (look_of t) (look_of s) nodes

  pub trial_outside : Meets (look_of s) (extent_at s) → AreLow (look_of s) → ((b : ℕ) → size_of (look_of s) b ≤ 131072) → (b : ℕ) → is_in b way ≡ false → IsWithin (extent_at t b)
  trial_outside meets low small b off = subst IsWithin (sym (off_same b off)) (all_within s meets low small b)

  pub trial_meets : (cs : List ℕ) → e ≡ reckoned (extent_at s) cs → ((x : ℕ) → is_in x way ≡ true → is_in x cs ≡ false)
      → Meets (node_at (change id (with_children cs) (nodes_of s))) (extent_at t)
  trial_meets cs is apart =
      all_meet (node_at (change id (with_children cs) (nodes_of s))) (extent_at s) (extent_at t) id way others
      (set ∙ is ∙ ap (reckoned (extent_at s)) (sym here)) (λ x on. ap (is_in x) here ∙ apart x on) off_same
    where
      front : (p : Bool) → (p || false) ≡ false → p ≡ false
      front true h = h
      front false h = refl

      kids : (d : ℕ) → children_of (node_at (change id (with_children cs) (nodes_of s))) d ≡ cond (d == id) cs (children_of (node_at (nodes_of s)) d)
      kids =
          children_changed (node_at (nodes_of s)) (node_at (change id (with_children cs) (nodes_of s))) id cs (ap (λ (o : Option Node). is_some o) (found s id) ∙ there)
          (node_at_change (with_children cs) id (nodes_of s))

      here : children_of (node_at (change id (with_children cs) (nodes_of s))) id ≡ cs
      here = kids id ∙ ap (λ u. cond u cs (children_of (node_at (nodes_of s)) id)) (eq-eqb id id refl)

      others : MeetBut (node_at (change id (with_children cs) (nodes_of s))) (extent_at t) (id ∷ [])
      others b off =
          but b off
          ∙ ap (λ (g : Look). reckoned (extent_at t) (children_of g b)) (trial_looks ∙ sym (looks s))
          ∙ ap (reckoned (extent_at t)) (sym (kids b ∙ ap (λ u. cond u cs (children_of (node_at (nodes_of s)) b)) (turned_eq b id ∙ front (id == b) off)))

-- a trial taken back: all is as before
pub trial_over : (s t : Slots) (id : ℕ) (way : List ℕ) → Meets (look_of s) (extent_at s) → ((b : ℕ) → look_of t b ≡ look_of s b) → extent_at t id ≡ extent_at s id
    → MeetBut (look_of t) (extent_at t) (id ∷ []) → ((x : ℕ) → is_in x way ≡ true → is_in x (children_of (look_of s) id) ≡ false)
    → ((b : ℕ) → is_in b way ≡ false → extent_at t b ≡ extent_at s b) → Meets (look_of t) (extent_at t)
trial_over s t id way meets nodes set but apart off =
    subst (λ (f : Look). Meets f (extent_at t)) (sym same)
    (all_meet (look_of s) (extent_at s) (extent_at t) id way (subst (λ (f : Look). MeetBut f (extent_at t) (id ∷ [])) same but) (set ∙ meets id) apart off)
  where
    same : look_of t ≡ look_of s
    same = funext (look_of t) (look_of s) nodes

-- nodes and parents as before, and extents that meet the recursion
pub sound_again : (s t : Slots) → look_of t ≡ look_of s → ((b : ℕ) → parents_of t b ≡ parents_of s b) → Meets (look_of t) (extent_at t) → IsSound s → IsSound t
sound_again s t same parents meets sound = record {
  meets = meets;
  noted = λ y x h. ap (is_in y) (parents x) ∙ sound.noted y x (subst (λ (f : Look). has_child f y x ≡ true) same h);
}

-- The extent of a parent with one more child
pub lengthened_is : (s : Slots) → IsSound s → (p i c : ℕ) → joined (extent_at s p) (extent_at s c) ≡ reckoned (extent_at s) (insert (children_of (node_at (nodes_of s)) p) i c)
lengthened_is s sound p i c =
    ap (λ x. joined x (extent_at s c)) (sound.meets p ∙ ap (λ (f : Look). reckoned (extent_at s) (children_of f p)) (sym (looks s)))
    ∙ sym (reckoned_inserted (extent_at s) (children_of (node_at (nodes_of s)) p) i c)

-- The extent of a parent with one child less

dropped_from : (f : ℕ → Extent) (e : Extent) (c : ℕ) (cs : List ℕ) → is_in c cs ≡ true
    → fold (λ e d. joined e (f d)) e cs ≡ joined (fold (λ e d. joined e (f d)) e (drop_first c cs)) (f c)
dropped_from f e c [] h = absurd (cc)
dropped_from f e c (d ∷ ds) h = by (dropped_from f (joined e (f d)) c ds) (d == c) refl h
  where
    by : (is_in c ds ≡ true → fold (λ e d. joined e (f d)) (joined e (f d)) ds ≡ joined (fold (λ e d. joined e (f d)) (joined e (f d)) (drop_first c ds)) (f c))
        → (t : Bool) → (d == c) ≡ t → (t || is_in c ds) ≡ true
        → fold (λ e d. joined e (f d)) (joined e (f d)) ds ≡ joined (fold (λ e d. joined e (f d)) e (cond t ds (d ∷ drop_first c ds))) (f c)
    by rest true e2 k = ap (λ x. fold (λ e d. joined e (f d)) (joined e (f x)) ds) (eqb-true d c e2) ∙ joined_last f e c ds
    by rest false e2 k = rest k

pub reckoned_dropped : (s : Slots) → IsSound s → (p c : ℕ) (cs : List ℕ) → has_child (node_at (nodes_of s)) p c ≡ true → cs ≡ drop_first c (children_of (node_at (nodes_of s)) p)
    → extent_at s p ≡ joined (reckoned (extent_at s) cs) (extent_at s c)
reckoned_dropped s sound p c cs is left =
    sound.meets p ∙ ap (λ (f : Look). reckoned (extent_at s) (children_of f p)) (sym (looks s))
    ∙ dropped_from (extent_at s) leaf c (children_of (node_at (nodes_of s)) p) is
    ∙ ap (λ xs. joined (reckoned (extent_at s) xs) (extent_at s c)) (sym left)

-- heights grow with each child
higher : (f : ℕ → Extent) (e : Extent) (cs : List ℕ) → e.height ≤ (fold (λ e c. joined e (f c)) e cs).height
higher f e [] = omega arith
higher f e (c ∷ cs) =
    let rest : (joined e (f c)).height ≤ (fold (λ e c. joined e (f c)) (joined e (f c)) cs).height = higher f (joined e (f c)) cs in
    let here : e.height ≤ max e.height (min 4097 ((f c).height + 1)) = omega arith in
    omega arith

-- a height that is met by the first of the children
pub met_by : (f : ℕ → Extent) (cs : List ℕ) (n most : ℕ) → most ≤ (reckoned f (take n cs)).height → (reckoned f cs).height ≤ most
    → (reckoned f (take n cs)).height ≡ (reckoned f cs).height
met_by f cs n most met within =
    let h : (reckoned f (take n cs)).height ≤ (fold (λ e c. joined e (f c)) (reckoned f (take n cs)) (drop n cs)).height = higher f (reckoned f (take n cs)) (drop n cs) in
    let same : (fold (λ e c. joined e (f c)) (reckoned f (take n cs)) (drop n cs)).height ≡ (reckoned f cs).height =
    ap (λ (x : Extent). x.height) (sym (fold-append (λ e d. joined e (f d)) leaf (take n cs) (drop n cs)) ∙ ap (reckoned f) (take-append-drop n cs)) in
    omega (arith, met, within, h, same)

-- and that is met with the next of them
pub met_next : (f : ℕ → Extent) (cs : List ℕ) (n most : ℕ) (before after one : Extent) → n < length cs → before ≡ reckoned f (take n cs) → one ≡ f (get_or cs n 0)
    → after ≡ joined before one → most ≤ after.height → (reckoned f cs).height ≤ most → after.height ≡ (reckoned f cs).height
met_next f cs n most before after one h is at step met within =
    let same : after ≡ reckoned f (take (n + 1) cs) =
    step ∙ (λ i. joined (is i) (at i)) ∙ sym (fold-append (λ e d. joined e (f d)) leaf (take n cs) (get_or cs n 0 ∷ [])) ∙ sym (ap (reckoned f) (take_more cs n 0 h)) in
    ap (λ (x : Extent). x.height) same ∙ met_by f cs (n + 1) most (subst (λ (x : Extent). most ≤ x.height) same met) within

-- the parts of an extent from which a child was taken
pub size_left : (b r c : Extent) → b ≡ joined r c → b.size ≤ 131072 → b.size ≡ r.size + c.size
size_left b r c is small =
    let s : b.size ≡ min 131073 (r.size + c.size) = ap (λ (x : Extent). x.size) is in
    omega (arith, s, small)

pub height_left : (b r c : Extent) → b ≡ joined r c → r.height ≤ b.height
height_left b r c is =
    let s : b.height ≡ max r.height (min 4097 (c.height + 1)) = ap (λ (x : Extent). x.height) is in
    omega (arith, s)

pub extent_left : (b r c : Extent) (h : ℕ) → b ≡ joined r c → b.size ≤ 131072 → h ≡ r.height → (let e : Extent = record { height = h; size = b.size - c.size } in e ≡ r)
extent_left b r c h is small high =
    let s : b.size ≡ r.size + c.size = size_left b r c is small in
    let size : b.size - c.size ≡ r.size = omega (arith, s) in
    λ i. record { height = high i; size = size i }
