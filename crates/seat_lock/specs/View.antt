-- What a seat knows, what it means that this is true, and how the steps change it.
use Rattle.std.specs.Prelude.{◌≡◌, ℕ, ◌+◌, ◌-◌, ◌<◌, ◌≤◌, nat_le, if◌then◌else◌, List, [], ◌∷◌, ◌++◌, length, Some}
use mathlib.Core.List.{IsPrefix}
use Rattle.atomic_table.specs.Seated.{TableId}
use Rattle.seat_lock.specs.declared.view.View.{View}
use Rattle.seat_lock.specs.declared.view.Phase.{Phase}
use Rattle.seat_lock.specs.declared.view.Phase.TheVariants.{Idle}
use Rattle.seat_lock.specs.Log.{of, without}
use Rattle.seat_lock.specs.Desk.{Stand}
use Rattle.seat_lock.specs.Sums.{inside, times, numbers_from}

module _ {E : Type 0} where
  -- 1 where the view answers for the number k, and else 0
  abbrev pub answering : ℕ → View E → ℕ
  answering k v = times k v.answers + inside v.next v.end k

  -- how many numbers it answers for
  abbrev pub weight : View E → ℕ
  weight v = length v.answers + (v.end - v.next)

  -- what it has seen is a front of the log, and of each number that it answers for it keeps just the log's entries
  abbrev pub IsTrueOf : List (ℕ × E) → View E → Type 0
  IsTrueOf log v = IsPrefix v.seen log × ((k : ℕ) → 0 < answering k v → of k v.kept ≡ of k log)

  -- It answers for its own number and for each number once at most, and only for numbers below the number of seats.
  -- What it keeps are the entries seen of the numbers that it answers for, and no others. A number that it can still
  -- hand out has no entries. The shorter log of its last join is a front of what it has seen
  pub record IsSound (v : View E) : Type 0 where
    pub range : v.next ≤ v.end
    pub own : 0 < answering v.number v
    pub once : (k : ℕ) → answering k v ≤ 1
    pub inside_seats : (k : ℕ) → v.seats ≤ k → answering k v ≡ 0
    pub same : (k : ℕ) → 0 < answering k v → of k v.kept ≡ of k v.seen
    pub only : (k : ℕ) → answering k v ≡ 0 → of k v.kept ≡ []
    pub unused : (k : ℕ) → v.next ≤ k → k < v.end → of k v.seen ≡ []
    pub front : IsPrefix v.shorter_seen v.seen

  -- it answers for the numbers of all seats
  abbrev pub AnswersForAll : View E → Type 0
  AnswersForAll v = (k : ℕ) → k < v.seats → 0 < answering k v

  -- what a desk with this view at this lock stands on
  abbrev pub stand_of : TableId → View E → Stand E
  stand_of id v = record {
    lock = Some id;
    seats = v.seats;
    answers = v.answers;
    next = v.next;
    end = v.end;
    kept = without v.number v.kept;
  }

  -- the first seat, which answers for all numbers
  abbrev pub opener : ℕ → View E
  opener seats = record {
    number = 0;
    seats = seats;
    phase = Idle;
    answers = 0 ∷ [];
    next = 1;
    end = seats;
    seen = [];
    shorter_seen = [];
    kept = [];
  }

  -- the view at another place in its turn
  abbrev pub in_phase : View E → Phase → View E
  in_phase v phase = record v { phase = phase }

  -- the view that has seen this log
  abbrev pub having_seen : View E → List (ℕ × E) → View E
  having_seen v log = record v { seen = log }

  -- the view after it noted an entry of its own
  abbrev pub noting : View E → E → View E
  noting v e = record v { seen = v.seen ++ (v.number, e) ∷ []; kept = v.kept ++ (v.number, e) ∷ [] }

  -- what is left of a view that hands out a number
  abbrev pub gives_one : View E → View E
  gives_one v = record v { next = v.next + 1 }

  -- the view of the new seat with that number
  abbrev pub given_one : View E → View E
  given_one v = record {
    number = v.next;
    seats = v.seats;
    phase = Idle;
    answers = v.next ∷ [];
    next = 0;
    end = 0;
    seen = v.seen;
    shorter_seen = [];
    kept = [];
  }

  -- the longer of two logs, the first where they are as long
  abbrev pub longer : List (ℕ × E) → List (ℕ × E) → List (ℕ × E)
  longer xs ys = if nat_le (length ys) (length xs) then xs else ys

  -- the other one
  abbrev pub shorter : List (ℕ × E) → List (ℕ × E) → List (ℕ × E)
  shorter xs ys = if nat_le (length ys) (length xs) then ys else xs

  -- v with all that w answers for and keeps, and the longer of the two logs seen
  abbrev pub united : View E → View E → View E
  united v w = record v {
    answers = (v.answers ++ w.answers) ++ numbers_from w.next (w.end - w.next);
    seen = longer v.seen w.seen;
    shorter_seen = shorter v.seen w.seen;
    kept = v.kept ++ w.kept;
  }

  -- a view that was joined into another: it answers for nothing
  abbrev pub spent : View E
  spent = record {
    number = 0;
    seats = 0;
    phase = Idle;
    answers = [];
    next = 0;
    end = 0;
    seen = [];
    shorter_seen = [];
    kept = [];
  }
