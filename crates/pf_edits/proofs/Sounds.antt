-- What keeps the extents and the noted parents of records.
use Rattle.std.proofs.Common.{◌≡◌, ℕ, Bool, true, false, cond, ◌||◌, ◌==◌, [], ◌∷◌, Option, Some, None, refl, sym, ◌∙◌, ap, subst}
use Rattle.std.specs.Option.{option_map, option_map_or}
use Rattle.std.proofs.lemmas.Bool.{eqb-true, eq-eqb}
use Rattle.pf_model.specs.declared.nodes.Kind.{Kind}
use Rattle.pf_model.specs.declared.nodes.Node.{Node}
use Rattle.pf_model.specs.Graphs.{Look, children_of}
use Rattle.pf_model.specs.Limits.{has_child}
use Rattle.pf_model.specs.NodeEdits.{with_kind}
use Rattle.pf_model.proofs.Places.{funext}
use Rattle.pf_edits.specs.Tables.{Slots}
use Rattle.pf_edits.specs.Ways.{is_in}
use Rattle.pf_edits.specs.Extents.{look_of, parents_of, extent_at, leaf, reckoned, Meets, MeetBut, IsSound}
use Rattle.pf_edits.proofs.Ups.{meets_step, reckoned_same, not_true, no_true, ahead}

-- The same children and extents, and all parents that were noted

pub same_sound : (s t : Slots) → IsSound s → ((b : ℕ) → children_of (look_of t) b ≡ children_of (look_of s) b) → ((b : ℕ) → extent_at t b ≡ extent_at s b)
    → ((b p : ℕ) → is_in p (parents_of s b) ≡ true → is_in p (parents_of t b) ≡ true) → IsSound t
same_sound s t sound children extents parents = record {
  meets = λ b. extents b ∙ sound.meets b ∙ ap (reckoned (extent_at s)) (sym (children b)) ∙ ap (λ f. reckoned f (children_of (look_of t) b)) (sym (funext (extent_at t) (extent_at s) extents));
  noted = λ y x h. parents x y (sound.noted y x (sym (ap (is_in x) (children y)) ∙ h));
}

pub looked_sound : (s t : Slots) → IsSound s → ((b : ℕ) → look_of t b ≡ look_of s b) → ((b : ℕ) → extent_at t b ≡ extent_at s b)
    → ((b p : ℕ) → is_in p (parents_of s b) ≡ true → is_in p (parents_of t b) ≡ true) → IsSound t
looked_sound s t sound nodes extents parents = same_sound s t sound (λ b. ap (λ o. option_map_or (λ (n : Node). n.children) o []) (nodes b)) extents parents

pub kind_children : (f g : Look) (id : ℕ) (k : Kind) → ((b : ℕ) → g b ≡ cond (b == id) (option_map (with_kind k) (f b)) (f b)) → (b : ℕ) → children_of g b ≡ children_of f b
kind_children f g id k set b = ap (λ o. option_map_or (λ (n : Node). n.children) o []) (set b) ∙ by (b == id) (f b)
  where
    by : (t : Bool) (o : Option Node) → option_map_or (λ (n : Node). n.children) (cond t (option_map (with_kind k) o) o) [] ≡ option_map_or (λ (n : Node). n.children) o []
    by true None = refl
    by true (Some n) = refl
    by false o = refl

-- A node that no node has as a child, put in or taken out

module _ (s t : Slots) (id : ℕ) (o : Option Node) (sound : IsSound s) (unused : (y : ℕ) → has_child (look_of s) y id ≡ false)
    (nodes : (b : ℕ) → look_of t b ≡ cond (b == id) o (look_of s b)) where
  others : (b : ℕ) → (b == id) ≡ false → children_of (look_of t) b ≡ children_of (look_of s) b
  others b e = ap (λ p. option_map_or (λ (n : Node). n.children) p []) (nodes b ∙ ap (λ u. cond u o (look_of s b)) e)

  itself : children_of (look_of t) id ≡ option_map_or (λ (n : Node). n.children) o []
  itself = ap (λ p. option_map_or (λ (n : Node). n.children) p []) (nodes id ∙ ap (λ u. cond u o (look_of s id)) (eq-eqb id id refl))

  -- off the node extents meet the recursion still
  meets_but : ((b : ℕ) → (b == id) ≡ false → extent_at t b ≡ extent_at s b) → MeetBut (look_of t) (extent_at t) (id ∷ [])
  meets_but extents b off =
      extents b away ∙ sound.meets b ∙ ap (reckoned (extent_at s)) (sym (others b away))
      ∙ sym (reckoned_same (extent_at s) (extent_at t) id (children_of (look_of t) b) extents (ap (is_in id) (others b away) ∙ unused b) leaf)
    where
      turned : (b == id) ≡ true → is_in b (id ∷ []) ≡ true
      turned e = ahead (id == b) false (eq-eqb id b (sym (eqb-true b id e)))

      away : (b == id) ≡ false
      away = no_true (b == id) (λ e. not_true (turned e) off)

  pub taken_sound : o ≡ None → ((b : ℕ) → (b == id) ≡ false → extent_at t b ≡ extent_at s b) → extent_at t id ≡ leaf
      → ((b : ℕ) → (b == id) ≡ false → parents_of t b ≡ parents_of s b) → IsSound t
  taken_sound none extents here parents = record {
    meets = λ b. at b (b == id) refl;
    noted = λ y x h. noted y x h (y == id) refl;
  }
    where
      no_children : children_of (look_of t) id ≡ []
      no_children = itself ∙ ap (λ p. option_map_or (λ (n : Node). n.children) p []) none

      at : (b : ℕ) (u : Bool) → (b == id) ≡ u → extent_at t b ≡ reckoned (extent_at t) (children_of (look_of t) b)
      at b true e = subst (λ (x : ℕ). extent_at t x ≡ reckoned (extent_at t) (children_of (look_of t) x)) (sym (eqb-true b id e)) (here ∙ sym (ap (reckoned (extent_at t)) no_children))
      at b false e = meets_but extents b (ap (λ u. u || false) (turned b id e))
        where
          turned : (p q : ℕ) → (p == q) ≡ false → (q == p) ≡ false
          turned p q e = no_true (q == p) (λ h. not_true (eq-eqb p q (sym (eqb-true q p h))) e)

      noted : (y x : ℕ) → has_child (look_of t) y x ≡ true → (u : Bool) → (y == id) ≡ u → is_in y (parents_of t x) ≡ true
      noted y x h true e = absurd (let k : is_in x [] ≡ true = sym (ap (is_in x) (ap (children_of (look_of t)) (eqb-true y id e) ∙ no_children)) ∙ h in cc)
      noted y x h false e =
          let k : has_child (look_of s) y x ≡ true = sym (ap (is_in x) (others y e)) ∙ h in
          ap (is_in y) (parents x (no_true (x == id) (λ g. not_true (subst (λ (z : ℕ). has_child (look_of s) y z ≡ true) (eqb-true x id g) k) (unused y)))) ∙ sound.noted y x k

  pub put_sound : (n : Node) → o ≡ Some n → (e : Slots) → is_in id n.children ≡ false
      → ((b : ℕ) → (b == id) ≡ false → extent_at t b ≡ extent_at s b)
      → ((b : ℕ) → look_of e b ≡ look_of t b)
      → ((b : ℕ) → extent_at e b ≡ cond (b == id) (reckoned (extent_at t) (children_of (look_of t) id)) (extent_at t b))
      → ((x : ℕ) → is_in x n.children ≡ true → is_in id (parents_of s x) ≡ true)
      → ((b : ℕ) → (b == id) ≡ false → parents_of e b ≡ parents_of s b) → IsSound e
  put_sound n is e apart extents looked set new parents = record {
    meets = subst (λ (f : Look). Meets f (extent_at e)) (sym (funext (look_of e) (look_of t) looked)) (λ b. meets_step (look_of t) (extent_at t) (extent_at e) id [] (no_parent, tt) (meets_but extents) set b refl);
    noted = λ y x h. noted y x (sym (ap (λ f. has_child f y x) (funext (look_of e) (look_of t) looked)) ∙ h) (y == id) refl;
  }
    where
      made : children_of (look_of t) id ≡ n.children
      made = itself ∙ ap (λ p. option_map_or (λ (m : Node). m.children) p []) is

      no_parent : (y : ℕ) → has_child (look_of t) y id ≡ true → is_in y [] ≡ true
      no_parent y h = absurd (by (y == id) refl)
        where
          by : (u : Bool) → (y == id) ≡ u → ⊥
          by true e = not_true (sym (ap (is_in id) (ap (children_of (look_of t)) (eqb-true y id e) ∙ made)) ∙ h) apart
          by false e = not_true (sym (ap (is_in id) (others y e)) ∙ h) (unused y)

      noted : (y x : ℕ) → has_child (look_of t) y x ≡ true → (u : Bool) → (y == id) ≡ u → is_in y (parents_of e x) ≡ true
      noted y x h true f =
          let k : is_in x n.children ≡ true = sym (ap (is_in x) (ap (children_of (look_of t)) (eqb-true y id f) ∙ made)) ∙ h in
          ap (is_in y) (parents x (no_true (x == id) (λ g. not_true (subst (λ (z : ℕ). is_in z n.children ≡ true) (eqb-true x id g) k) apart)))
          ∙ subst (λ (z : ℕ). is_in z (parents_of s x) ≡ true) (sym (eqb-true y id f)) (new x k)
      noted y x h false f =
          let k : has_child (look_of s) y x ≡ true = sym (ap (is_in x) (others y f)) ∙ h in
          ap (is_in y) (parents x (no_true (x == id) (λ g. not_true (subst (λ (z : ℕ). has_child (look_of s) y z ≡ true) (eqb-true x id g) k) (unused y)))) ∙ sound.noted y x k
