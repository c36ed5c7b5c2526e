-- What clauses see of cycle buffers.
use Rattle.std.specs.Prelude.{◌≡◌, ⊤, ℕ, ◌+◌, ◌-◌, ◌≤◌, max, Bool, ◌&&◌, ◌==◌, nat_lt, if◌then◌else◌, List, length, Option, Some, None}
use Rattle.std.specs.List.{All}
use Rattle.std.specs.Map.{lookup}
use Rattle.std.specs.BTreeMap.{is_at}
use Rattle.std.specs.Ordering.{nat_cmp}
use Rattle.std.specs.Option.{option_map, option_map_or}
use Rattle.pf_model.specs.declared.geometry.Tri.{Tri}

-- A cycle: the triangles last written, how many copies are free, and how many there are.
pub record CycleState : Type 0 where
  pub written : List Tri
  pub free : ℕ
  pub copies : ℕ

-- a cycle of these triangles with all its copies free
abbrev pub fresh : List Tri → ℕ → CycleState
fresh tris copies = record { written = tris; free = copies; copies = copies }

-- one copy more, which is free
abbrev pub grown : CycleState → CycleState
grown c = record c { free = c.free + 1; copies = c.copies + 1 }

-- a free copy went out
abbrev pub cut : CycleState → CycleState
cut c = record c { free = c.free - 1 }

-- a copy that was out is free again
abbrev pub came_home : CycleState → CycleState
came_home c = record c { free = c.free + 1 }

-- other triangles were written
abbrev pub rewritten : List Tri → CycleState → CycleState
rewritten tris c = record c { written = tris }

-- the triangles are as many as the cycle's, and a copy is out
abbrev pub takes_home : List Tri → CycleState → Bool
takes_home tris c = length tris == length c.written && nat_lt c.free c.copies

-- some triangles came home: a copy is free again, or they were dropped
abbrev pub after_home : List Tri → CycleState → CycleState
after_home tris c = if takes_home tris c then came_home c else c

-- how many copies of a cycle are out
abbrev pub out_of : CycleState → ℕ
out_of c = c.copies - c.free

-- The cycles by their serials, how many copies a new one gets, and the greatest number of copies that one has had.
pub record CyclesState : Type 0 where
  pub cycles : List (ℕ × CycleState)
  pub copies : ℕ
  pub most : ℕ

-- the greatest number of copies that a cycle has had, or that a new one gets
abbrev pub most_of : CyclesState → ℕ
most_of c = max c.most c.copies

-- the cycle of a serial, where there is one
abbrev pub cycle_at : CyclesState → ℕ → Option CycleState
cycle_at c serial = lookup (is_at (nat_cmp serial)) c.cycles

-- the triangles last written under a serial, where it is there
abbrev pub written_at : CyclesState → ℕ → Option (List Tri)
written_at c serial = option_map (λ x. x.written) (cycle_at c serial)

-- the number of free copies under a serial; one that has no cycle counts as many as a new one gets
abbrev pub free_at : CyclesState → ℕ → ℕ
free_at c serial = option_map_or (λ x. x.free) (cycle_at c serial) c.copies

-- the number of copies under a serial
abbrev pub copies_at : CyclesState → ℕ → ℕ
copies_at c serial = option_map_or (λ x. x.copies) (cycle_at c serial) 0

-- the number of copies that are out under a serial
abbrev pub out_at : CyclesState → ℕ → ℕ
out_at c serial = option_map_or out_of (cycle_at c serial) 0

-- a cycle has at least so many copies, and at most so many
abbrev pub HasBetween : ℕ → ℕ → Option CycleState → Type 0
HasBetween least most None = ⊤
HasBetween least most (Some c) = (least ≤ c.copies) × (c.copies ≤ most)

-- What the type of cycles keeps: each has at least the copies that a new one gets, and at most the greatest number that
-- one has had.
abbrev pub AreBetween : CyclesState → Type 0
AreBetween c = (s : ℕ) → HasBetween c.copies c.most (cycle_at c s)

-- What the type of a cycle keeps: each free copy is as long as what was written, the free ones are among the copies,
-- and there is room for all of them and for no more.
pub record IsCycle (written : List Tri) (free : List (List Tri)) (copies room : ℕ) : Type 0 where
  pub long : All (λ a. length a ≡ length written) free
  pub among : length free ≤ copies
  pub roomy : room ≡ copies
