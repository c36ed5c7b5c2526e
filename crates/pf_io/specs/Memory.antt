-- Sources and sinks over memory, which fail where they are told to.
use Rattle.std.specs.Prelude.{◌==◌, ℕ, ◌+◌, ◌-◌, min, nat_lt, Bool, if◌then◌else◌, List, length, take, drop, filter, fold, position, remove, Option, Some, None, Contains}
use Rattle.std.specs.Option.{option_map, option_map_or}
use Rattle.pf_io.specs.Causes.{counted}

-- the places at which calls are still to fail, the number of faults so far, and the place of the last one
pub record FaultPlan : Type 0 where
  pub places : List ℕ
  pub count : ℕ
  pub last : Option ℕ

-- the plan before any fault
abbrev pub fresh_plan : List ℕ → FaultPlan
fresh_plan places = record { places = places; count = 0; last = None }

-- the list without its first x
abbrev pub without_first : ℕ → List ℕ → List ℕ
without_first x xs = option_map_or (λ i. remove xs i) (position (λ y. y == x) xs) xs

-- the plan after a fault at a place: one entry of the place is used up, and the fault is counted and its place noted
abbrev pub after_fault : ℕ → FaultPlan → FaultPlan
after_fault place plan =
    record { places = without_first place plan.places; count = counted plan.count; last = Some place }

-- how many of `most` bytes a call that begins at a place moves: it stops at the next place that is to fail
abbrev pub reach : FaultPlan → ℕ → ℕ → ℕ
reach plan place most = fold (λ n p. min n (p - place)) most (filter (λ p. nat_lt place p) plan.places)

-- a source: its bytes, the place of the next read, how many reads found the end, and where reads fail
pub record MemoryInput : Type 0 where
  pub bytes : List ℕ
  pub place : ℕ
  pub ends : ℕ
  pub plan : FaultPlan

-- the source after a read that took n bytes
abbrev pub after_read : ℕ → MemoryInput → MemoryInput
after_read n source =
    record source { place = source.place + n; ends = if n == 0 then counted source.ends else source.ends }

-- the bytes that a source has left
abbrev pub left_in : MemoryInput → Option (List ℕ)
left_in source = Some (drop source.place source.bytes)

-- a sink: the bytes written, how many there is room for, whether its last call that succeeded was a flush, and where
-- writes and flushes fail
pub record MemoryOutput : Type 0 where
  pub bytes : List ℕ
  pub room : ℕ
  pub flushed : Bool
  pub plan : FaultPlan

-- the bytes that a sink had at its last fault, or none where there was no fault
abbrev pub kept_at_fault : MemoryOutput → Option (List ℕ)
kept_at_fault sink = option_map (λ place. take place sink.bytes) sink.plan.last

-- a call at the place where the sink stands is to fail
abbrev pub IsDue : MemoryOutput → Type 0
IsDue sink = Contains sink.plan.places (length sink.bytes)
