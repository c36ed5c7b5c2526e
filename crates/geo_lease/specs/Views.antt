-- How the steps change what a seat knows.
use Rattle.std.specs.Prelude.{ℕ, ◌+◌, ◌==◌, ◌||◌, Bool, false, if◌then◌else◌, List, [], ◌∷◌, ◌++◌, length, replicate, slice_set, Option, Some, None}
use Rattle.geo_lease.specs.declared.view.Role.{Role}
use Rattle.geo_lease.specs.declared.view.Role.TheVariants.{Opens, Keeps, Turns, Lends, Gone}
use Rattle.geo_lease.specs.declared.view.Plan.{Plan}
use Rattle.geo_lease.specs.declared.view.View.{View}

-- whether the slot k is one of these
abbrev pub has : ℕ → List ℕ → Bool
has k [] = false
has k (x ∷ xs) = (x == k) || has k xs

-- these slots without k
abbrev pub without : ℕ → List ℕ → List ℕ
without k [] = []
without k (x ∷ xs) = if x == k then without k xs else x ∷ without k xs

module _ {T : Type 0} where
  -- what is at home in the slot k with the content c: nothing, while it is fetched
  abbrev pub left_at : List ℕ → ℕ → Option T → Option T
  left_at out k c = if has k out then None else c

  -- a seat of this role that knows this lease and no more
  abbrev pub blank : Role → ℕ → Option (Plan T) → View T
  blank role number plan = record {
    role = role;
    ahead = 0;
    seen = 0;
    looks = 0;
    above = 0;
    leases = [];
    contents = [];
    next = 0;
    out = [];
    held = None;
    number = number;
    plan = plan;
  }

  -- the seat of the lease that the other seat knows
  abbrev pub lend : View T → View T
  lend v = blank Lends v.number v.plan

  -- a seat that was joined into another
  abbrev pub gone : View T
  gone = blank Gone 0 None

  -- the turn before the first lease ended
  abbrev pub first_turn : View T
  first_turn = blank Turns 0 None

  -- the first seat, at a table of empty slots
  abbrev pub opener : ℕ → ℕ → View T
  opener ahead slots = record {
    role = Opens;
    ahead = ahead;
    seen = 0;
    looks = 0;
    above = 0;
    leases = [];
    contents = replicate slots None;
    next = 0;
    out = [];
    held = None;
    number = 0;
    plan = None;
  }

  -- the first seat, once it is the keeper
  abbrev pub keeping : View T → View T
  keeping v = record v { role = Keeps }

  -- the keeper that found this value in the word ended
  abbrev pub looking : View T → ℕ → View T
  looking v ended = record v { seen = ended; looks = v.looks + 1 }

  -- the seat that took the slot k
  abbrev pub holding : View T → ℕ → View T
  holding v k = record v { held = Some k }

  -- the keeper that laid the slot k back with the content c
  abbrev pub laying : View T → ℕ → Option T → View T
  laying v k c = record v { contents = slice_set v.contents k c; held = None }

  -- the keeper that granted the lease
  abbrev pub granting : View T → Plan T → View T
  granting v l = record v { leases = v.leases ++ l ∷ []; above = l.frame + 1; number = length v.leases; plan = Some l }

  -- the turn that knows the lease that the other seat knows
  abbrev pub learning : View T → View T → View T
  learning v w = record v { number = w.number; plan = w.plan }

  -- the turn that laid the slot k back empty: it is fetched
  abbrev pub fetching : View T → ℕ → View T
  fetching v k = record v { out = k ∷ v.out; held = None }

  -- the turn that laid the slot k back with its content
  abbrev pub returning : View T → ℕ → View T
  returning v k = record v { out = without k v.out; held = None }

  -- the turn that ended its lease
  abbrev pub ending : View T → View T
  ending v = record v { next = v.next + 1 }
