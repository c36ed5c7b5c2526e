-- What a whole turn, a whole look and a close tell, from what their parts tell, and what a desk keeps over them.
use Rattle.std.proofs.Common.{◌≡◌, ℕ, inl, inr, ⊎_elim, Bool, true, false, List, [], ◌∷◌, ◌++◌, length, refl, sym, ap, ◌∙◌, subst, arith, Option, Some, None, MatchBool, length-append}
use mathlib.Core.List.{IsPrefix}
use Rattle.atomic_table.specs.Table.{Me, rest}
use Rattle.atomic_table.specs.Seated.{TableId}
use Rattle.seat_lock.specs.declared.view.View.{View}
use Rattle.seat_lock.specs.declared.view.Phase.{Phase}
use Rattle.seat_lock.specs.declared.view.Phase.TheVariants.{Idle, Serving}
use Rattle.seat_lock.specs.Log.{of, Adds}
use Rattle.seat_lock.specs.View.{in_phase, having_seen, noting, stand_of}
use Rattle.seat_lock.specs.Desk.{Stand}
use Rattle.seat_lock.specs.Steps.{Finds, served_to}
use Rattle.seat_lock.specs.Calls.{TurnedBy, LookedBy}
use Rattle.seat_lock.proofs.Logs.{prefix_self, same_more, of_found, without_more}

module _ {T E : Type 0} (log : T → List (ℕ × E)) where
  -- the view in its turn
  abbrev pub in_turn : View E → ℕ → T → View E
  in_turn v t x = having_seen (in_phase v (Serving t)) (log x)

  -- the value is in the hand of the seat that is served
  pub in_hand : (m m' : Me (Option T) (View E)) (t : ℕ) (x : T) → m' ≡ served_to log m t x → m'.1 ≡ (0, Some x) ∷ rest m'.1
  in_hand m m' t x is = let M : Type 0 = Me (Option T) (View E) in let held : m'.1 ≡ (0, Some x) ∷ m.1 = ap (λ (u : M). u.1) is in held ∙ ap (λ l. (0, Some x) ∷ l) (sym (ap rest held))

  -- the value's log gained nothing
  unmoved : (before after : List (ℕ × E)) (k : ℕ) → Adds k before after → length after ≡ length before → after ≡ before
  unmoved before after k (inl same) long = same
  unmoved before after k (inr more) long = absurd (omega (arith, ap length more.1, length-append before ((k, more.0) ∷ [])))

  module _ {R : Type 0} (does : T → T → R → Type 0) where
    gains : (v : View E) (t : ℕ) (x y : T) (r : R) (e : E) → v.phase ≡ Idle → Finds log v x → does x y r → log y ≡ log x ++ (v.number, e) ∷ []
        → TurnedBy log does v r (in_phase (noting (in_turn v t x) e) Idle)
    gains v t x y r e idle found did more = (
      x,
      y,
      found.goes_on,
      did,
      (subst (λ l. IsPrefix l (log y)) more (prefix_self (log y)), λ k h. same_more k v.number e v.kept (log x) (found.true_of.1 k h) ∙ ap (of k) (sym more)),
      inr (e, more, ap (in_phase (noting (having_seen v (log x)) e)) (sym idle)),
    )

    stays : (v : View E) (t : ℕ) (x y : T) (r : R) → v.phase ≡ Idle → Finds log v x → does x y r → log y ≡ log x → TurnedBy log does v r (in_phase (in_turn v t x) Idle)
    stays v t x y r idle found did same = (
      x,
      y,
      found.goes_on,
      did,
      (subst (λ l. IsPrefix l (log y)) same (prefix_self (log y)), λ k h. found.true_of.1 k h ∙ ap (of k) (sym same)),
      inl (same, ap (λ (z : Phase × List (ℕ × E)). in_phase (having_seen v z.1) z.0) (λ i. (sym idle i, sym same i))),
    )

    pub turned_by : (v : View E) (m n : Me (Option T) (View E)) (t : ℕ) (x y : T) (r : R) (added : Bool)
        → v.phase ≡ Idle → Finds log v x → m ≡ (in_turn v t x, (0, None) ∷ []) → does x y r → Adds v.number (log x) (log y) → (added ≡ false → length (log y) ≡ length (log x))
        → MatchBool added ((e : E) × (log y ≡ m.0.seen ++ (m.0.number, e) ∷ []) × (n ≡ (in_phase (noting m.0 e) Idle, []))) (n ≡ (in_phase m.0 Idle, []))
        → TurnedBy log does v r n.0
    turned_by v m n t x y r true idle found is did adds long (e, more, back) =
        let more' : log y ≡ log x ++ (v.number, e) ∷ [] = more ∙ ap (λ (u : Me (Option T) (View E)). u.0.seen ++ (u.0.number, e) ∷ []) is in
        let back' : n.0 ≡ in_phase (noting (in_turn v t x) e) Idle = ap (λ (u : Me (Option T) (View E)). u.0) back ∙ ap (λ (u : Me (Option T) (View E)). in_phase (noting u.0 e) Idle) is in
        subst (TurnedBy log does v r) (sym back') (gains v t x y r e idle found did more')
    turned_by v m n t x y r false idle found is did adds long back =
        let back' : n.0 ≡ in_phase (in_turn v t x) Idle = ap (λ (u : Me (Option T) (View E)). u.0) back ∙ ap (λ (u : Me (Option T) (View E)). in_phase u.0 Idle) is in
        subst (TurnedBy log does v r) (sym back') (stays v t x y r idle found did (unmoved (log x) (log y) v.number adds (long refl)))

  -- the pass keeps of its own number the entries in the log seen
  abbrev pub KeepsOwn : View E → Type 0
  KeepsOwn v = of v.number v.kept ≡ of v.number v.seen

  module _ {R : Type 0} (does : T → T → R → Type 0) (v w : View E) (r : R) where
    -- which it does over a turn
    pub own_turned : TurnedBy log does v r w → KeepsOwn v → KeepsOwn w
    own_turned (x, y, found, did, true_of, grew) own =
        let same : of v.number v.kept ≡ of v.number (log x) = own ∙ sym (of_found v.number v.seen (log x) found) in
        ⊎_elim
        (λ (h : (log y ≡ log x) × (w ≡ having_seen v (log y))). subst KeepsOwn (sym h.1) (same ∙ ap (of v.number) (sym h.0)))
        (λ (h : (e : E) × (log y ≡ log x ++ (v.number, e) ∷ []) × (w ≡ noting (having_seen v (log x)) e)).
        subst KeepsOwn (sym h.2) (same_more v.number v.number h.0 v.kept (log x) same))
        grew

    -- what the desk stands on stays
    pub stands_turned : (id id' : TableId) → id' ≡ id → TurnedBy log does v r w → stand_of id' w ≡ stand_of id v
    stands_turned id id' lock (x, y, found, did, true_of, grew) =
        ap (λ (z : TableId). stand_of z w) lock
        ∙ ⊎_elim (λ (h : (log y ≡ log x) × (w ≡ having_seen v (log y))). ap (stand_of id) h.1)
        (λ (h : (e : E) × (log y ≡ log x ++ (v.number, e) ∷ []) × (w ≡ noting (having_seen v (log x)) e)).
        ap (stand_of id) h.2 ∙ ap (λ (kept : List (ℕ × E)). let z : Stand E = record (stand_of id v) { kept = kept } in z) (without_more v.number v.kept h.0))
        grew

  -- it keeps its own over a look too
  pub own_looked : {Out : Type 0} (shows : T → Out → Type 0) (v w : View E) (out : Out) → LookedBy log shows v out w → KeepsOwn v → KeepsOwn w
  own_looked shows v w out (x, found, shown, true_of, is) own = subst KeepsOwn (sym is) (own ∙ sym (of_found v.number v.seen (log x) found))
