-- What each step at the lock's table tells the seat that takes it.
use Rattle.std.specs.Prelude.{◌≡◌, ◌≢◌, ℕ, ◌%◌, ◌^◌, ◌<◌, ◌≤◌, List, [], ◌∷◌, ◌++◌, length, Option, Some}
use Rattle.atomic_table.specs.Table.{Me, Step, rest}
use Rattle.seat_lock.specs.declared.view.View.{View}
use Rattle.seat_lock.specs.declared.view.Phase.TheVariants.{Idle, Waiting, Serving}
use Rattle.seat_lock.specs.Log.{of, Found}
use Rattle.seat_lock.specs.View.{answering, IsTrueOf, IsSound, in_phase, having_seen, noting}

abbrev pub Sat : Type 0 → Type 0 → Type 0
Sat T E = Me (Option T) (View E)

module _ {T E : Type 0} where
  -- it drew a ticket
  abbrev pub Draws : Step (Option T) → Sat T E → ℕ → Sat T E → Type 0
  Draws st m n m' = (t : ℕ) × (n ≡ t % 2 ^ 64) × (m' ≡ (in_phase m.0 (Waiting t), m.1))

  -- it stays as it was, and is sound
  abbrev pub Recalls : Step (Option T) → Sat T E → ℕ → Sat T E → Type 0
  Recalls st m n m' = (m' ≡ m) × (0 < length m.0.answers → IsSound m.0)

  -- it gave the value up
  abbrev pub Leaves : Step (Option T) → Sat T E → ℕ → Sat T E → Type 0
  Leaves st m n m' = m' ≡ (in_phase m.0 Idle, rest m.1)

module _ {T E : Type 0} (log : T → List (ℕ × E)) where
  -- a value that a seat finds: its log goes on from the log seen with no further entry of the seat's number, nor of any
  -- other that the view answers for, the view is true of it, and it has no entries of other numbers than those of the
  -- seats, nor has the view
  pub record Finds (v : View E) (x : T) : Type 0 where
    pub goes_on : Found v.number v.seen (log x)
    pub found : (k : ℕ) → 0 < answering k v → Found k v.seen (log x)
    pub true_of : IsTrueOf (log x) v
    pub within : (k : ℕ) → v.seats ≤ k → (of k (log x) ≡ []) × (of k v.kept ≡ [])

  -- the view in its turn, and the value in its hand
  abbrev pub served_to : Sat T E → ℕ → T → Sat T E
  served_to m t x = (having_seen (in_phase m.0 (Serving t)) (log x), (0, Some x) ∷ m.1)

  -- where its ticket is served it holds the value, else nothing changed
  abbrev pub Polls : Step (Option T) → Sat T E → ℕ → Sat T E → Type 0
  Polls st m n m' = (t : ℕ) → m.0.phase ≡ Waiting t
      → (n ≢ t % 2 ^ 64 → m' ≡ m) × (n ≡ t % 2 ^ 64 → (x : T) × Finds m.0 x × (m' ≡ served_to m t x))

  -- it noted the entry that the value in its hand gained
  abbrev pub Notes : Step (Option T) → Sat T E → ℕ → Sat T E → Type 0
  Notes st m n m' =
      (y : T) × (e : E) × (m.1 ≡ (0, Some y) ∷ []) × (log y ≡ m.0.seen ++ (m.0.number, e) ∷ [])
      × (m' ≡ (noting m.0 e, m.1))

  -- the value in the hand of a seat in its turn has the log that the seat has seen
  abbrev pub Holds : Sat T E → Type 0
  Holds m = (t : ℕ) × (y : T) × (m.0.phase ≡ Serving t) × (m.1 ≡ (0, Some y) ∷ []) × (log y ≡ m.0.seen)

  -- it has one entry more, of the seat's number
  abbrev pub HoldsMore : Sat T E → Type 0
  HoldsMore m =
      (t : ℕ) × (y : T) × (e : E) × (m.0.phase ≡ Serving t) × (m.1 ≡ (0, Some y) ∷ [])
      × (log y ≡ m.0.seen ++ (m.0.number, e) ∷ [])
