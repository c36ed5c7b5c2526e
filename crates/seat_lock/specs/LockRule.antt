-- The rule of the lock's table.
-- Word 0 is the ticket to be drawn next, word 1 the ticket served, word 2 counts the noted entries, and word 3 is the
-- number of seats. Slot 0 holds the value. Words count modulo 2^64, the rule's numbers do not.
use Rattle.std.specs.Prelude.{◌≡◌, ◌⊎◌, ℕ, ◌+◌, ◌%◌, ◌^◌, ◌<◌, ◌≤◌, List, [], ◌∷◌, length, Option, Some}
use mathlib.Core.Option.{none, some}
use mathlib.Core.Option as maybe
use mathlib.Core.List.{IsPrefix}
use lib.ListN.{get_elem?}
use Rattle.atomic_table.specs.Table.{State}
use Rattle.seat_lock.specs.declared.view.View.{View}
use Rattle.seat_lock.specs.declared.view.Phase.{Phase}
use Rattle.seat_lock.specs.declared.view.Phase.TheVariants.{Idle, Waiting, Serving}
use Rattle.seat_lock.specs.Log.{of}
use Rattle.seat_lock.specs.Sums.{one, below, times, total}
use Rattle.seat_lock.specs.View.{answering, weight, IsTrueOf}

-- 1 where the seat has the ticket t
abbrev pub has_ticket : ℕ → Phase → ℕ
has_ticket t Idle = 0
has_ticket t (Waiting u) = one t u
has_ticket t (Serving u) = one t u

-- 1 where the seat has a ticket
abbrev pub has_some : Phase → ℕ
has_some Idle = 0
has_some (Waiting u) = 1
has_some (Serving u) = 1

-- 1 where the seat's ticket is served
abbrev pub is_served : Phase → ℕ
is_served Idle = 0
is_served (Waiting u) = 0
is_served (Serving u) = 1

module _ {E : Type 0} where
  abbrev pub holding : ℕ → View E → ℕ
  holding t v = has_ticket t v.phase

  abbrev pub in_line : View E → ℕ
  in_line v = has_some v.phase

  abbrev pub serving : View E → ℕ
  serving v = is_served v.phase

  -- what holds of a view that is not spent, where `noted` is the noted log
  pub record Fits (seats served : ℕ) (noted : List (ℕ × E)) (v : View E) : Type 0 where
    pub seats_is : v.seats ≡ seats
    pub own : 0 < times v.number v.answers
    pub range : v.next ≤ v.end
    pub true_of : IsTrueOf noted v
    pub true_of_seen : (k : ℕ) → 0 < answering k v → of k v.kept ≡ of k v.seen
    -- so a number that it can still hand out has no entries
    pub only : (k : ℕ) → times k v.answers ≡ 0 → of k v.kept ≡ []
    -- the shorter log of its last join is a front of what it has seen
    pub front : IsPrefix v.shorter_seen v.seen
    -- a seat whose ticket is served has seen the noted log
    pub now : (t : ℕ) → v.phase ≡ Serving t → (t ≡ served) × (v.seen ≡ noted)

  -- a seat in line answers for a number, and what answers for a number fits
  pub record Seated (seats served : ℕ) (noted : List (ℕ × E)) (v : View E) : Type 0 where
    pub awake : in_line v ≤ weight v
    pub fits : 0 < weight v → Fits seats served noted v

module _ {T E : Type 0} where
  -- one seat holds the value
  abbrev pub Out : List (maybe.Option (Option T)) → List (View E) → Type 0
  Out homes views = (homes ≡ none ∷ []) × (total serving views ≡ 1)

module _ {T E : Type 0} (log : T → List (ℕ × E)) where
  -- the value is at home, and its log is the noted log
  abbrev pub AtHome : List (maybe.Option (Option T)) → List (View E) → List (ℕ × E) → Type 0
  AtHome homes views noted = (x : T) × (homes ≡ some (Some x) ∷ []) × (log x ≡ noted) × (total serving views ≡ 0)

  pub record LockRule (s : State (Option T) (View E)) : Type 0 where
    pub drawn : ℕ
    pub served : ℕ
    pub seats : ℕ
    pub noted : List (ℕ × E)
    pub words : s.words ≡ drawn % 2 ^ 64 ∷ served % 2 ^ 64 ∷ length noted % 2 ^ 64 ∷ seats ∷ []
    pub few : seats ≤ 64
    -- each ticket from the one served on, below the next one, is one seat's
    pub tickets : (t : ℕ) → total (holding t) s.views + below t served ≡ below t drawn
    pub waiting : drawn ≡ served + total in_line s.views
    pub slot : AtHome s.homes s.views noted ⊎ Out s.homes s.views
    pub each : (i : ℕ) (v : View E) → get_elem? s.views i ≡ some v → Seated seats served noted v
    -- each number below the number of seats is answered for by one view, and no other number is
    pub answered : (k : ℕ) → total (answering k) s.views ≡ below k seats
    pub weighed : total weight s.views ≡ seats
    pub within : (k : ℕ) → seats ≤ k → of k noted ≡ []
