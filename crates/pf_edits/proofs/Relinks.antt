-- Other children of one node.
use Rattle.std.proofs.Common.{◌≡◌, ℕ, zero, suc, ◌≤◌, Bool, true, false, cond, ◌||◌, ◌==◌, ◌⊎◌, inl, inr, List, [], ◌∷◌, Option, Some, None, is_some, refl, sym, ◌∙◌, ap, subst, arith}
use Rattle.std.specs.List.{list_any}
use Rattle.std.specs.Option.{option_map, option_map_or}
use Rattle.std.proofs.lemmas.Bool.{eqb-true, eq-eqb}
use Rattle.pf_model.specs.declared.nodes.Node.{Node}
use Rattle.pf_model.specs.Graphs.{Look, children_of, height_of, size_of, is_below, below_in, levels}
use Rattle.pf_model.specs.Limits.{has_child}
use Rattle.pf_model.specs.NodeEdits.{with_children}
use Rattle.pf_model.specs.Laws.{AreLow}
use Rattle.pf_model.proofs.Levels.{none_below_itself, below_step, below_zero}
use Rattle.pf_model.proofs.Between.{parent_below}
use Rattle.pf_edits.specs.declared.extents.Extent.{Extent}
use Rattle.pf_edits.specs.Tables.{Slots}
use Rattle.pf_edits.specs.Ways.{is_in, LeadUp}
use Rattle.pf_edits.specs.Extents.{look_of, parents_of, extent_at, reckoned, Meets, MeetBut, IsSound, IsWithin, child_list}
use Rattle.pf_edits.proofs.Ups.{head_or_rest, ahead, behind, not_true, no_true, leads_in, up_closed, heights_are, sizes_are}

-- the children of an id in a look-up with one node changed
pub children_changed : (f g : Look) (id : ℕ) (cs : List ℕ) → is_some (f id) ≡ true
    → ((b : ℕ) → g b ≡ cond (b == id) (option_map (with_children cs) (f b)) (f b)) → (b : ℕ) → children_of g b ≡ cond (b == id) cs (children_of f b)
children_changed f g id cs there set b = ap (λ o. option_map_or (λ (n : Node). n.children) o []) (set b) ∙ by (b == id) refl
  where
    here : (o : Option Node) → is_some o ≡ true → option_map_or (λ (n : Node). n.children) (option_map (with_children cs) o) [] ≡ cs
    here None h = absurd (cc)
    here (Some n) h = refl

    by : (t : Bool) → (b == id) ≡ t → option_map_or (λ (n : Node). n.children) (cond t (option_map (with_children cs) (f b)) (f b)) [] ≡ cond t cs (children_of f b)
    by true e = here (f b) (subst (λ (x : ℕ). is_some (f x) ≡ true) (sym (eqb-true b id e)) there)
    by false e = refl

module _ (f g : Look) (id : ℕ) (cs : List ℕ) (there : is_some (f id) ≡ true) (set : (b : ℕ) → g b ≡ cond (b == id) (option_map (with_children cs) (f b)) (f b)) where
  same_children : (b : ℕ) → (b == id) ≡ false → children_of g b ≡ children_of f b
  same_children b e = children_changed f g id cs there set b ∙ ap (λ t. cond t cs (children_of f b)) e

  new_children : children_of g id ≡ cs
  new_children = children_changed f g id cs there set id ∙ ap (λ t. cond t cs (children_of f id)) (eq-eqb id id refl)

  -- a child of a node is one before or one of the new children
  pub child_of : (y x : ℕ) → has_child g y x ≡ true → ((y ≡ id) × (is_in x cs ≡ true)) ⊎ (((y == id) ≡ false) × (has_child f y x ≡ true))
  child_of y x h = by (y == id) refl
    where
      by : (t : Bool) → (y == id) ≡ t → ((y ≡ id) × (is_in x cs ≡ true)) ⊎ (((y == id) ≡ false) × (has_child f y x ≡ true))
      by true e = let s : y ≡ id = eqb-true y id e in inl (s, sym (ap (is_in x) (ap (children_of g) s ∙ new_children)) ∙ h)
      by false e = inr (e, sym (ap (is_in x) (same_children y e)) ∙ h)

  -- a way leads up still where no new child is on it
  pub leads_still : (xs : List ℕ) → ((x : ℕ) → is_in x xs ≡ true → is_in x cs ≡ false) → LeadUp f xs → LeadUp g xs
  leads_still xs apart leads = leads_in f g xs (λ y x on h. by x on (child_of y x h)) leads
    where
      by : {y : ℕ} (x : ℕ) → is_in x xs ≡ true → ((y ≡ id) × (is_in x cs ≡ true)) ⊎ (((y == id) ≡ false) × (has_child f y x ≡ true)) → has_child f y x ≡ true
      by x on (inl k) = absurd (not_true k.1 (apart x on))
      by x on (inr k) = k.1

  -- extents still meet the recursion off a way with the node
  pub meets_off : (extents others : ℕ → Extent) (xs : List ℕ) → is_in id xs ≡ true → ((b : ℕ) → others b ≡ extents b) → Meets f extents → MeetBut g others xs
  meets_off extents others xs on same meets b off =
      same b ∙ meets b
      ∙ ap (reckoned extents) (sym (same_children b away))
      ∙ (λ i. reckoned (λ c. same_back c i) (children_of g b))
    where
      same_back : (c : ℕ) → extents c ≡ others c
      same_back c = sym (same c)

      away : (b == id) ≡ false
      away = no_true (b == id) (λ e. not_true on (subst (λ (x : ℕ). is_in x xs ≡ false) (eqb-true b id e) off))

-- other children and the old ones again leave all as it was
pub put_back : (f g h : Look) (id : ℕ) (cs ds : List ℕ) → option_map child_list (f id) ≡ Some ds
    → ((b : ℕ) → g b ≡ cond (b == id) (option_map (with_children cs) (f b)) (f b))
    → ((b : ℕ) → h b ≡ cond (b == id) (option_map (with_children ds) (g b)) (g b)) → (b : ℕ) → h b ≡ f b
put_back f g h id cs ds back set again b = again b ∙ by (b == id) refl
  where
    here : (o : Option Node) → option_map child_list o ≡ Some ds → option_map (with_children ds) (option_map (with_children cs) o) ≡ o
    here None e = refl
    here (Some n) e = let s : ds ≡ n.children = cc in ap (λ cs. Some (with_children cs n)) s

    by : (t : Bool) → (b == id) ≡ t → cond t (option_map (with_children ds) (g b)) (g b) ≡ f b
    by true e =
        ap (option_map (with_children ds)) (set b ∙ ap (λ t. cond t (option_map (with_children cs) (f b)) (f b)) e)
        ∙ here (f b) (subst (λ (x : ℕ). option_map child_list (f x) ≡ Some ds) (sym (eqb-true b id e)) back)
    by false e = set b ∙ ap (λ t. cond t (option_map (with_children cs) (f b)) (f b)) e

pub back_there : (o : Option Node) (ds : List ℕ) → option_map child_list o ≡ Some ds → is_some o ≡ true
back_there None ds e = absurd (cc)
back_there (Some n) ds e = refl

-- Ways and what is above

-- a child of a node is neither the node nor above it
pub no_cycle : (look : Look) → AreLow look → (id x : ℕ) → has_child look id x ≡ true → (x == id || is_below look x id) ≡ false
no_cycle look low id x is = no_true (x == id || is_below look x id) (λ h. by (head_or_rest (x == id) (is_below look x id) h))
  where
    itself : has_child look x x ≡ true → ⊥
    itself h = not_true (parent_below look low x x (record { parent = x; is_parent = h; below = ahead (x == x) (is_below look x x) (eq-eqb x x refl) })) (none_below_itself look low x)

    by : ((x == id) ≡ true) ⊎ (is_below look x id ≡ true) → ⊥
    by (inl e) = itself (subst (λ (y : ℕ). has_child look y x ≡ true) (sym (eqb-true x id e)) is)
    by (inr h) =
        not_true (parent_below look low x x (record { parent = id; is_parent = is; below = behind (id == x) (is_below look x id) h })) (none_below_itself look low x)

-- those above a parent of a node are above the node
pub above_more : (look : Look) → AreLow look → (b p id : ℕ) → has_child look p id ≡ true → (b == p || is_below look b p) ≡ true → is_below look b id ≡ true
above_more look low b p id is h =
    parent_below look low b id (record { parent = p; is_parent = is; below = by (head_or_rest (b == p) (is_below look b p) h) })
  where
    by : ((b == p) ≡ true) ⊎ (is_below look b p ≡ true) → (p == b || is_below look b p) ≡ true
    by (inl e) = ahead (p == b) (is_below look b p) (eq-eqb p b (sym (eqb-true b p e)))
    by (inr k) = behind (p == b) (is_below look b p) k

pub any_case : {Q : Type 0} (p : ℕ → Bool) (cs : List ℕ) → list_any p cs ≡ true → ((c : ℕ) → is_in c cs ≡ true → p c ≡ true → Q) → Q
any_case p [] h f = absurd (cc)
any_case {Q} p (c ∷ cs) h f = by (any_case p cs) (head_or_rest (p c) (list_any p cs) h)
  where
    by : (list_any p cs ≡ true → ((d : ℕ) → is_in d cs ≡ true → p d ≡ true → Q) → Q) → (p c ≡ true) ⊎ (list_any p cs ≡ true) → Q
    by rest (inl e) = f c (ahead (c == c) (is_in c cs) (eq-eqb c c refl)) e
    by rest (inr k) = rest k (λ d e. f d (behind (c == d) (is_in d cs) e))

-- all that is above a node of a way is on it
above_in : (n : ℕ) (look : Look) (xs : List ℕ) → LeadUp look xs → (a b : ℕ) → below_in n look a b ≡ true → is_in b xs ≡ true → is_in a xs ≡ true
above_in zero look xs leads a b h on = absurd (not_true h (below_zero look a b))
above_in (suc n) look xs leads a b h on =
    any_case (λ c. c == b || below_in n look c b) (children_of look a) (sym (below_step n look a b) ∙ h)
    (λ c is k. up_closed look xs leads a c (by c (λ l. above_in n look xs leads c b l on) (head_or_rest (c == b) (below_in n look c b) k)) is)
  where
    by : (c : ℕ) → (below_in n look c b ≡ true → is_in c xs ≡ true) → ((c == b) ≡ true) ⊎ (below_in n look c b ≡ true) → is_in c xs ≡ true
    by c rest (inl e) = subst (λ (y : ℕ). is_in y xs ≡ true) (sym (eqb-true c b e)) on
    by c rest (inr k) = rest k

-- what is on a way up from a node: the node and all that is above it
pub closes : (look : Look) (xs : List ℕ) (p : ℕ) → LeadUp look xs → is_in p xs ≡ true → ((b : ℕ) → is_in b xs ≡ true → (false || (b == p || is_below look b p)) ≡ true)
    → (c : ℕ) → is_in c xs ≡ (c == p || is_below look c p)
closes look xs p leads on above c = by (is_in c xs) refl (c == p || is_below look c p) refl
  where
    back : ((c == p) ≡ true) ⊎ (is_below look c p ≡ true) → is_in c xs ≡ true
    back (inl e) = subst (λ (y : ℕ). is_in y xs ≡ true) (sym (eqb-true c p e)) on
    back (inr k) = above_in levels look xs leads c p k on

    by : (s : Bool) → is_in c xs ≡ s → (t : Bool) → (c == p || is_below look c p) ≡ t → s ≡ t
    by true e true f = refl
    by true e false f = absurd (not_true (above c e) f)
    by false e true f = absurd (not_true (back (head_or_rest (c == p) (is_below look c p) f)) e)
    by false e false f = refl

-- Extents within the limits
pub all_within : (slots : Slots) → Meets (look_of slots) (extent_at slots) → AreLow (look_of slots) → ((b : ℕ) → size_of (look_of slots) b ≤ 131072) → (b : ℕ) → IsWithin (extent_at slots b)
all_within slots meets low small b =
    let h : (extent_at slots b).height ≡ height_of (look_of slots) b = heights_are (look_of slots) (extent_at slots) meets b in
    let l : height_of (look_of slots) b ≤ 32 = low b in
    let s = sizes_are (look_of slots) (extent_at slots) meets low b in
    let k : size_of (look_of slots) b ≤ 131072 = small b in
    record { low = omega arith; small = omega (arith, s, k) }

-- For the calls that relink

-- no new child is on the way
pub apart_from : (look : Look) (id : ℕ) (cs start way : List ℕ) → start ≡ [] → ((b : ℕ) → is_in b way ≡ true → (is_in b start || (b == id || is_below look b id)) ≡ true)
    → ((x : ℕ) → is_in x cs ≡ true → (x == id || is_below look x id) ≡ false) → (x : ℕ) → is_in x way ≡ true → is_in x cs ≡ false
apart_from look id cs start way none above apart x on =
    no_true (is_in x cs) (λ h. not_true (subst (λ (ws : List ℕ). (is_in x ws || (x == id || is_below look x id)) ≡ true) none (above x on)) (apart x h))

-- nor is an old one
pub old_apart : (look : Look) → AreLow look → (id : ℕ) (ds start way : List ℕ) → option_map child_list (look id) ≡ Some ds → start ≡ []
    → ((b : ℕ) → is_in b way ≡ true → (is_in b start || (b == id || is_below look b id)) ≡ true) → (x : ℕ) → is_in x way ≡ true → is_in x ds ≡ false
old_apart look low id ds start way back none above =
    apart_from look id ds start way none above (λ x h. no_cycle look low id x (ap (is_in x) (is (look id) back) ∙ h))
  where
    is : (o : Option Node) → option_map child_list o ≡ Some ds → option_map_or (λ n. n.children) o [] ≡ ds
    is None e = absurd (cc)
    is (Some n) e = cc

pub relinked_sound : (s t : Slots) (id : ℕ) (cs : List ℕ) → is_some (look_of s id) ≡ true
    → ((b : ℕ) → look_of t b ≡ cond (b == id) (option_map (with_children cs) (look_of s b)) (look_of s b))
    → IsSound s → Meets (look_of t) (extent_at t) → ((b : ℕ) → parents_of t b ≡ parents_of s b)
    → ((x : ℕ) → is_in x cs ≡ true → is_in id (parents_of s x) ≡ true) → IsSound t
relinked_sound s t id cs there set sound meets parents noted = record {
  meets = meets;
  noted = λ y x h. ap (is_in y) (parents x) ∙ by y x (child_of (look_of s) (look_of t) id cs there set y x h);
}
  where
    by : (y x : ℕ) → ((y ≡ id) × (is_in x cs ≡ true)) ⊎ (((y == id) ≡ false) × (has_child (look_of s) y x ≡ true)) → is_in y (parents_of s x) ≡ true
    by y x (inl k) = subst (λ (z : ℕ). is_in z (parents_of s x) ≡ true) (sym k.0) (noted x k.1)
    by y x (inr k) = sound.noted y x k.1

-- extents off the way are as before, and within the limits
pub outside : (s t : Slots) (way : List ℕ) → Meets (look_of s) (extent_at s) → AreLow (look_of s) → ((b : ℕ) → size_of (look_of s) b ≤ 131072)
    → ((b : ℕ) → is_in b way ≡ false → extent_at t b ≡ extent_at s b) → (b : ℕ) → is_in b way ≡ false → IsWithin (extent_at t b)
outside s t way meets low small others b off = subst IsWithin (sym (others b off)) (all_within s meets low small b)
