-- What a turn and a look at a desk tell.
use Rattle.std.specs.Prelude.{◌≡◌, ℕ, List, [], ◌∷◌, Option, None, Some, MatchOption}
use Rattle.atomic_table.specs.Seated.{TableId}
use Rattle.seat_lock.specs.Log.{Adds, Found}

-- what a desk stands on: which lock, the number of seats, the numbers that it answers for and those that it can hand
-- out (from next on, below end), and the entries of all these but its own
pub record Stand (E : Type 0) : Type 0 where
  pub lock : Option TableId
  pub seats : ℕ
  pub answers : List ℕ
  pub next : ℕ
  pub end : ℕ
  pub kept : List (ℕ × E)

-- a desk on one thread has the only seat
abbrev pub alone : {E : Type 0} → Stand E
alone = record { lock = None; seats = 1; answers = 0 ∷ []; next = 1; end = 1; kept = [] }

module _ {T E : Type 0} (log : T → List (ℕ × E)) where
  -- The act found a value, left a value and replied. The log found goes on from the log seen, with no further entry of
  -- the desk's number k, and the act added one entry of that number or none. The log left is then the log seen. A
  -- desk that tells its value tells the value found before, and the value left afterwards.
  abbrev pub Turned : {Reply : Type 0} → ℕ → (T → T → Reply → Type 0) → List (ℕ × E) → Option T
      → Reply → List (ℕ × E) → Option T → Type 0
  Turned k does seen told reply seen' told' =
      (found : T) × (left : T) × Found k seen (log found) × does found left reply × Adds k (log found) (log left)
      × (seen' ≡ log left) × MatchOption told (told' ≡ None) (λ value. (value ≡ found) × (told' ≡ Some left))

  -- the glance showed a value, whose log is then the log seen
  abbrev pub Looked : {Out : Type 0} → ℕ → (T → Out → Type 0) → List (ℕ × E) → Option T → Out → List (ℕ × E) → Type 0
  Looked k shows seen told out seen' =
      (found : T) × Found k seen (log found) × shows found out × (seen' ≡ log found)
      × MatchOption told (Unit {0}) (λ value. value ≡ found)
