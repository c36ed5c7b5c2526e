-- What a turn and a look at the lock tell: v is the view of the pass before, w the view after.
use Rattle.std.specs.Prelude.{◌≡◌, ◌⊎◌, ℕ, List, [], ◌∷◌, ◌++◌}
use Rattle.seat_lock.specs.declared.view.View.{View}
use Rattle.seat_lock.specs.Log.{Found}
use Rattle.seat_lock.specs.View.{IsTrueOf, having_seen, noting}

module _ {T E : Type 0} (log : T → List (ℕ × E)) where
  -- The act found a value whose log goes on from the log seen, with no further entry of the seat's number, left a
  -- value, and replied. The pass has then seen the log left, and is true of it. It keeps one entry more where the act
  -- added one, under its number
  abbrev pub TurnedBy : {Reply : Type 0} → (T → T → Reply → Type 0) → View E → Reply → View E → Type 0
  TurnedBy does v reply w =
      (found : T) × (left : T) × Found v.number v.seen (log found) × does found left reply × IsTrueOf (log left) w
      × (((log left ≡ log found) × (w ≡ having_seen v (log left)))
      ⊎ ((e : E) × (log left ≡ log found ++ (v.number, e) ∷ []) × (w ≡ noting (having_seen v (log found)) e)))

  -- the glance showed a value whose log goes on likewise. The pass has then seen that log, and is true of it
  abbrev pub LookedBy : {Out : Type 0} → (T → Out → Type 0) → View E → Out → View E → Type 0
  LookedBy shows v out w =
      (found : T) × Found v.number v.seen (log found) × shows found out × IsTrueOf (log found) w
      × (w ≡ having_seen v (log found))
